use Rattle.std.proofs.Common.{◌≡◌, map, sym, ap, ◌∙◌, arith, rules}
use Rattle.std.proofs.lemmas.Grind.{common_steps}
use Rattle.std.proofs.lemmas.List.{append-nil}
use Rattle.bc_core.specs.View.{variable}
use Rattle.bc_parse_tree.specs.declared.tree.Declaration.TheVariants as declarations
use Rattle.bc_parse_tree.specs.View.{declaration_view, definitions_view}
use Rattle.bc_scope_names.proofs.Extends.{extends_on}
use Rattle.bc_scope_names.specs.View.{scope_view}
use Rattle.bc_scope_translate.specs.Next.{next_numbers}
use Rattle.bc_scope_defs.specs.Scoping.{before_let, in_let}
use Rattle.bc_scope_defs.specs.Translation.{core_definitions}
use Rattle.bc_scope_translate.proofs.Definitions.{core_definitions_are}
use Rattle.bc_scope_translate.proofs.Views.{constants_view, let_view}
use Rattle.bc_scope_translate.proofs.blocks.declaration.Goals as goal

pub returns-in_ok-entries-in-Constants : goal.returns-in_ok-entries-in-Constants
returns-in_ok-entries-in-Constants c =
    let i : c.args.tree.now ≡ declarations.Constants c.in-Constants.storage c.in-Constants.list = c.in-Constants.is in
    let v = ap declaration_view i ∙ constants_view c.in-Constants.storage c.in-Constants.list in
    let a = rw c.deref.ensures.value at c.in_ok-declare_pending-in-Constants.ensures in
    let b = rw (a.0, c.deref-in-Constants.ensures.value) at c.in_ok-entries-in-Constants.ensures in
    let x = extends_on c.args.scope.now c.declare_pending.new.scope c.entries.new.scope a.1 b.0.1 in
    rw v (omega arith, (b.0.0, x), b.1, sym (append-nil _))

pub returns-in_ok-push-in-Let : goal.returns-in_ok-push-in-Let
returns-in_ok-push-in-Let c =
    let E = scope_view c.args.scope.now in
    let at0 = next_numbers c.args.at.now in
    let i : c.args.tree.now ≡ declarations.Let c.in-Let.list = c.in-Let.is in
    let v = ap declaration_view i ∙ let_view c.in-Let.list in
    let ds = definitions_view c.in-Let.list.items in
    let p = rw c.deref-in-Let.ensures.value at c.in_ok-priors-in-Let.ensures in
    let n = c.in_ok-numbers-in-Let.ensures in
    let b = rw (p.1, n.0, c.deref-in-Let-2.ensures.value) at c.in_ok-following-in-Let.ensures in
    let d = rw (p.0.1, b.1.0, n.1, c.deref-in-Let-3.ensures.value) at c.in_ok-variables-in-Let.ensures in
    let f = core_definitions_are (in_let E at0 c.args.level ds) (before_let ds E) at0 ds in
    let h : map variable c.in_ok-variables-in-Let.variables.items ≡ core_definitions (in_let E at0 c.args.level ds) (before_let ds E) at0 ds = d.0 ∙ f in
    rw v (b.0, b.1, d.1, first_of (search rules, grind (arith, common_steps)))
