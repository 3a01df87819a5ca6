use Rattle.std.proofs.Common.{◌∙◌, sym, refl}
use Rattle.std.proofs.lemmas.List.{at_drop_all}
use Rattle.bc_parse_tree.specs.View.{exps_view}
use Rattle.bc_scope_defs.specs.Numbering.{after_all}
use Rattle.bc_scope_defs.specs.Translation.{core_arguments}
use Rattle.bc_scope_names.specs.View.{scope_view}
use Rattle.bc_scope_translate.specs.Next.{next_numbers}
use Rattle.bc_scope_translate.specs.Seen.{args_list}
use Rattle.bc_scope_translate.proofs.Lists.{args_done}
use Rattle.bc_scope_translate.proofs.expressions.+expressions.Goals as goal

pub arguments-returns : goal.arguments-returns
arguments-returns t c =
    let E = scope_view c.args.scope.now in
    let at = next_numbers c.loop-e.at in (
      args_done c.loop-e.values.items c.args.list.now c.loop-e.e-index (λ es. args_list (core_arguments E at (exps_view es))) _ c.loop-e-test.false refl c.loop-e.invariant.0,
      sym (at_drop_all (λ es. after_all at (exps_view es)) c.args.list.now c.loop-e.e-index c.loop-e-test.false) ∙ c.loop-e.invariant.1,
    )
