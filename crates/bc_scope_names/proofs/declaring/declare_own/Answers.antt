use Rattle.std.proofs.Common.{◌∙◌, ◌+◌, refl, ap, sym, drop, arith}
use Rattle.bc_parse_tree.specs.View.{definitions_view}
use Rattle.bc_scope_names.specs.Priors.{own_by}
use Rattle.bc_scope_names.specs.View.{scope_view}
use Rattle.bc_scope_names.proofs.Extends.{extends_on, extends_self}
use Rattle.bc_scope_names.proofs.Lets.{own_on, own_after}
use Rattle.bc_scope_names.proofs.declaring.declare_own.Goals as goal

pub loop-definition-init : goal.loop-definition-init
loop-definition-init c = (refl, extends_self c.args.scope.now, refl)

pub loop-definition-preserved : goal.loop-definition-preserved
loop-definition-preserved c =
    let gs = c.args.globals.now in
    let ds = c.args.definitions.now in
    let n = c.loop-definition.i in
    let j = c.in_ok-i.i in
    let i = c.loop-definition.definition-index in
    let kept = c.loop-definition.invariant in (
      ap (λ F. own_by (drop j gs) (definitions_view (drop (i + 1) ds)) F) c.in_ok-declare_own_definition.ensures.0
          ∙ sym (own_on gs ds n j i c.definition-item.result (scope_view c.loop-definition.scope) c.loop-definition-test.true c.definition-item.is c.in_ok-i.ensures)
          ∙ kept.0,
      extends_on _ _ _ kept.1 c.in_ok-declare_own_definition.ensures.1,
      omega (arith, c.in_ok-i.ensures, kept.2),
    )

pub returns : goal.returns
returns c =
    let gs = c.args.globals.now in
    let ds = c.args.definitions.now in
    let kept = c.loop-definition.invariant in
    (sym (own_after (drop c.loop-definition.i gs) ds c.loop-definition.definition-index (scope_view c.loop-definition.scope) c.loop-definition-test.false) ∙ kept.0, kept.1)
