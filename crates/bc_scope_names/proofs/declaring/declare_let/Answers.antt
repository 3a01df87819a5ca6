use Rattle.std.proofs.Common.{◌≡◌, ◌+◌, ◌∙◌, ap, sym, drop, arith}
use Rattle.bc_parse_tree.specs.View.{definition_view, definitions_view}
use Rattle.bc_scope_defs.specs.Numbering.{after_definition}
use Rattle.bc_scope_defs.specs.Scoping.{before_let}
use Rattle.bc_scope_names.specs.View.{scope_view, numbers_view}
use Rattle.bc_scope_names.specs.Priors.{globals_before, prior_at, cells_by, all_cells_by, declared_by, all_declared_by}
use Rattle.bc_scope_names.proofs.Extends.{extends_on}
use Rattle.bc_scope_names.proofs.Lets.{cells_on, declared_on, declared_last, cells_after, declared_after, all_cells_are, all_declared_is}
use Rattle.bc_scope_names.proofs.declaring.declare_let.Goals as goal
use Rattle.bc_scope_names.proofs.declaring.declare_let.Goals.{then-i-definitions+in_ok-after_definition, else-i-definitions}

pub loop-definition-preserved : goal.loop-definition-preserved
loop-definition-preserved c =
    let gs = c.args.priors.now.globals.items in
    let ws = c.args.priors.now.greatest.items in
    let ds = c.args.definitions.now in
    let n = c.loop-definition.i in
    let j = c.in_ok-i.i in
    let i = c.loop-definition.definition-index in
    let d = c.definition-item.result in
    let at = numbers_view c.loop-definition.at in
    let k = c.loop-definition.offset in
    let E = scope_view c.loop-definition.scope in
    let following = after_definition at (definition_view d) in
    let prior = prior_at (drop n gs) (drop n ws) in
    let kept = c.loop-definition.invariant in
    let next : j ≡ n + 1 = c.in_ok-i.ensures in
    let cells : c.in_ok-cells_by.field-0 ≡ cells_by prior (definition_view d) = c.in_ok-cells_by.ensures ∙ ap (λ p. cells_by p (definition_view d)) c.at-prior.ensures in
    let level : c.in_ok-offset.offset ≡ k + cells_by prior (definition_view d) = c.in_ok-offset.ensures ∙ ap (λ m. k + m) cells in
    let known : scope_view c.declare_definition.new.scope ≡ declared_by prior at k (definition_view d) E = c.in_ok-declare_definition.ensures.0 ∙ ap (λ p. declared_by p at k (definition_view d) E) c.at-prior.ensures in
    let rest = definitions_view (drop (i + 1) ds) in
    let numbered : all_declared_by (drop j gs) (drop j ws) (numbers_view c.if-i-definitions.at) c.in_ok-offset.offset rest (scope_view c.declare_definition.new.scope) ≡ all_declared_by (drop j gs) (drop j ws) following c.in_ok-offset.offset rest (scope_view c.declare_definition.new.scope)
    = elim c.if-i-definitions.branch [
      | then-i-definitions+in_ok-after_definition w ↦
          ap (λ a. all_declared_by (drop j gs) (drop j ws) a c.in_ok-offset.offset rest (scope_view c.declare_definition.new.scope)) (ap (λ a. numbers_view a) w.at-is ∙ w.in_ok-after_definition.ensures)
      | else-i-definitions w ↦
          declared_last (drop j gs) (drop j ws) (numbers_view c.if-i-definitions.at) following c.in_ok-offset.offset ds (i + 1) (scope_view c.declare_definition.new.scope) (omega arith)
    ] in (
      omega (arith, cells_on gs ws ds n j i d c.loop-definition-test.true c.definition-item.is next),
      numbered
          ∙ ap (λ m. all_declared_by (drop j gs) (drop j ws) following m rest (scope_view c.declare_definition.new.scope)) level
          ∙ ap (λ F. all_declared_by (drop j gs) (drop j ws) following (k + cells_by prior (definition_view d)) rest F) known
          ∙ sym (declared_on gs ws at k ds n j i d E c.loop-definition-test.true c.definition-item.is next)
          ∙ kept.1,
      extends_on _ _ _ kept.2 c.in_ok-declare_definition.ensures.1,
      omega arith,
    )

pub returns : goal.returns
returns c =
    let gs = c.args.priors.now.globals.items in
    let ws = c.args.priors.now.greatest.items in
    let ds = c.args.definitions.now in
    let E = scope_view c.args.scope.now in
    let n = c.loop-definition.i in
    let i = c.loop-definition.definition-index in
    let kept = c.loop-definition.invariant in
    let none = c.loop-definition-test.false in
    let all = definitions_view ds in
    let cells = ap (λ g. all_cells_by g ws all) c.requires.0 ∙ ap (λ w. all_cells_by (globals_before E all) w all) c.requires.1 ∙ all_cells_are E (before_let all E) all in
    let known = ap (λ g. all_declared_by g ws (numbers_view c.args.at) c.args.level all E) c.requires.0
    ∙ ap (λ w. all_declared_by (globals_before E all) w (numbers_view c.args.at) c.args.level all E) c.requires.1
    ∙ all_declared_is E (before_let all E) (numbers_view c.args.at) c.args.level all E in (
      omega (arith, cells_after (drop n gs) (drop n ws) ds i none, cells, kept.0),
      (sym (declared_after (drop n gs) (drop n ws) (numbers_view c.loop-definition.at) c.loop-definition.offset ds i (scope_view c.loop-definition.scope) none) ∙ kept.1 ∙ known, kept.2),
    )
