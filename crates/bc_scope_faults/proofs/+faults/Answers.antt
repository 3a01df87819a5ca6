use Rattle.std.proofs.Common.{refl, sym, ◌∙◌, ◌+◌, drop, append_assoc, arith}
use Rattle.std.proofs.lemmas.Result.{err_from_is_err_and}
use Rattle.bc_parse_tree.specs.View.{exp_view, exps_view, item_view, items_view}
use Rattle.bc_scope_names.proofs.Extends.{extends_on}
use Rattle.bc_scope_names.specs.View.{scope_view, numbers_view}
use Rattle.bc_scope_defs.specs.Numbering.{following}
use Rattle.bc_scope_defs.specs.FramesAlong.{width, widths}
use Rattle.bc_scope_faults.specs.Parts.{head_level, side_width}
use Rattle.bc_scope_faults.specs.Seen.{allowed_view, met_view}
use Rattle.bc_scope_faults.proofs.Frames.{frames_along, max_along}
use Rattle.bc_scope_faults.proofs.Held.{exp_held, entry_held, declaration_held, definition_held, item_held, label_held}
use Rattle.bc_scope_faults.proofs.Lists.{exps_on, constant_seen, entries_on, declarations_on, definitions_on, items_on, drop_one}
use Rattle.bc_scope_faults.proofs.Scopes.{left_both}
use Rattle.bc_scope_faults.proofs.Turns.{stays, fault_whole, entry_fits, item_fault_on, item_found_on, item_width_on, side_fault_on, side_found_on, side_widths_on}
use Rattle.bc_scope_faults.proofs.+faults.Goals as goal

pub expressions::arguments-expression-requires : goal.expressions::arguments-expression-requires
expressions::arguments-expression-requires t c = (omega (arith, exp_held c.args.list.now c.loop-e.e-index c.e-item.result c.loop-e-test.true c.e-item.is, c.decreases), tt)

pub expressions::constants-check_constant-requires : goal.expressions::constants-check_constant-requires
expressions::constants-check_constant-requires t c = (omega (arith, exp_held c.args.list.now c.loop-e.e-index c.e-item.result c.loop-e-test.true c.e-item.is, c.decreases), tt)

pub expressions::sides-expression-requires : goal.expressions::sides-expression-requires
expressions::sides-expression-requires t c = (omega (arith, exp_held c.args.list.now c.loop-e.e-index c.e-item.result c.loop-e-test.true c.e-item.is, c.decreases), tt)

pub expressions::initials-expression-requires : goal.expressions::initials-expression-requires
expressions::initials-expression-requires t c = (omega (arith, exp_held c.args.list.now c.loop-e.e-index c.e-item.result c.loop-e-test.true c.e-item.is, c.decreases), tt)

pub declarations::entries-check_constant-requires : goal.declarations::entries-check_constant-requires
declarations::entries-check_constant-requires t c = (omega (arith, entry_held c.args.list.now c.loop-entry.entry-index c.entry-item.result c.loop-entry-test.true c.entry-item.is, c.decreases), tt)

pub declarations::definitions-definition-requires : goal.declarations::definitions-definition-requires
declarations::definitions-definition-requires t c = (omega (arith, definition_held c.args.list.now c.loop-tree.tree-index c.tree-item.result c.loop-tree-test.true c.tree-item.is, c.decreases), tt)

pub declarations::declarations-declaration-requires : goal.declarations::declarations-declaration-requires
declarations::declarations-declaration-requires t c = (omega (arith, declaration_held c.args.list.now c.loop-tree.tree-index c.tree-item.result c.loop-tree-test.true c.tree-item.is, c.decreases), tt)

pub blocks::labels-label-requires : goal.blocks::labels-label-requires
blocks::labels-label-requires t c = (omega (arith, label_held c.args.list.now c.loop-tree.tree-index c.tree-item.result c.loop-tree-test.true c.tree-item.is, c.decreases), tt)

pub blocks::items-one_item-requires : goal.blocks::items-one_item-requires
blocks::items-one_item-requires t c = (omega (arith, item_held c.args.trees.now c.loop-tree.tree-index c.tree-item.result c.loop-tree-test.true c.tree-item.is, c.decreases), tt)

pub expressions::arguments-loop-e-preserved : goal.expressions::arguments-loop-e-preserved
expressions::arguments-loop-e-preserved t c =
    let n = exps_on c.args.list.now c.loop-e.e-index c.e-item.result c.loop-e-test.true c.e-item.is in
    let v = rw n at c.loop-e.invariant in
    let w = c.in_ok-expression.ensures.answer in
    let k = c.in_ok-expression.ensures.kept in
    let a = c.in_ok-above.ensures in (
      rw (w.2, k, a) (rw w.0 at v.0),
      rw (w.2, k, a, c.max-width.ensures, w.1) (max_along _ _ _ ∙ v.1),
      rw w.2 v.2,
      rw (w.2, k, a, w.3) (simp frames_along at v.3),
      k ∙ v.4,
    )

pub expressions::initials-loop-e-preserved : goal.expressions::initials-loop-e-preserved
expressions::initials-loop-e-preserved t c =
    let n = exps_on c.args.list.now c.loop-e.e-index c.e-item.result c.loop-e-test.true c.e-item.is in
    let v = rw n at c.loop-e.invariant in
    let w = c.in_ok-expression.ensures.answer in
    let k = c.in_ok-expression.ensures.kept in (
      rw (w.2, k) (rw w.0 at v.0),
      rw (w.2, k, c.max-width.ensures, w.1) (max_along _ _ _ ∙ v.1),
      rw w.2 v.2,
      rw (w.2, k, w.3) (simp frames_along at v.3),
      k ∙ v.4,
    )

pub declarations::entries-loop-entry-preserved : goal.declarations::entries-loop-entry-preserved
declarations::entries-loop-entry-preserved t c =
    let e = c.entry-item.result in
    let n = entries_on c.args.list.now c.loop-entry.entry-index e c.loop-entry-test.true c.entry-item.is in
    let v = rw n at c.loop-entry.invariant in
    let o = c.in_ok-declare_once.ensures in
    let k = c.in_ok-check_constant.ensures.kept in
    let g = rw k at c.in_ok-check_entry.ensures in
    let d = rw (k, constant_seen e) at c.in_ok-declare_entry.ensures in
    let b = c.in_ok-progress.ensures in (
      rw (o.1, b, d.0) (rw (o.0, c.in_ok-check_constant.ensures.answer, g) at v.0),
      rw (b, d.0) v.1,
      rw b v.2,
      rw (b, d.0) (rw entry_fits at v.3),
      extends_on _ _ _ v.4 d.1,
    )

pub blocks::declared_then_done-returns-clause-kept : goal.blocks::declared_then_done-returns-clause-kept
blocks::declared_then_done-returns-clause-kept t c =
    c.leave.ensures ∙ left_both _ _ _ _ _ c.in_ok-extent.ensures.kept c.in_ok-declare_list.ensures.1 c.in_ok-width.ensures.kept c.mark-mark.ensures

pub declarations::declarations-loop-tree-preserved : goal.declarations::declarations-loop-tree-preserved
declarations::declarations-loop-tree-preserved t c =
    let n = declarations_on c.args.list.now c.loop-tree.tree-index c.tree-item.result c.loop-tree-test.true c.tree-item.is in
    let v = rw n at c.loop-tree.invariant in
    let w = c.in_ok-extent.ensures.answer in (
      rw (w.1, w.2, w.4) (rw w.0 at v.0),
      rw (w.1, w.2, w.4) v.1,
      rw (w.1, w.2, w.4) v.2,
      rw (w.1, w.2, w.4, c.max-width.ensures, w.3) (max_along _ _ _ ∙ v.3),
      rw w.4 v.4,
      rw (w.1, w.2, w.4, w.5) (simp frames_along at v.5),
      extends_on _ _ _ v.6 c.in_ok-extent.ensures.kept,
    )

pub blocks::items-loop-tree-preserved : goal.blocks::items-loop-tree-preserved
blocks::items-loop-tree-preserved t c =
    let E = scope_view c.loop-tree.scope in
    let at0 = numbers_view c.loop-tree.progress.at in
    let i = item_view c.tree-item.result in
    let is = items_view (drop (c.loop-tree.tree-index + 1) c.args.trees.now) in
    let n = items_on c.args.trees.now c.loop-tree.tree-index c.tree-item.result c.loop-tree-test.true c.tree-item.is in
    let v = rw n at c.loop-tree.invariant in
    let w = c.in_ok-one_item.ensures.answer in
    let k = c.in_ok-one_item.ensures.kept in
    let f = item_fault_on c.args.list.cases (met_view c.loop-tree.met) (allowed_view c.args.list.commands.allowed) E at0 i is c.args.list.commands.level in
    let g = item_found_on E at0 i is c.args.list.commands.level in
    let h = item_width_on E at0 i is c.args.list.commands.level in (
      rw (w.2, w.4, k) (rw w.0 at (sym f ∙ v.0)),
      rw (w.2, k, c.max-width.ensures, w.1) (max_along _ _ _ ∙ rw h at v.1),
      rw w.2 v.2,
      rw (w.2, k, w.3) (simp frames_along at (rw g at v.3)),
      k ∙ v.4,
    )

pub expressions::sides-loop-e-preserved : goal.expressions::sides-loop-e-preserved
expressions::sides-loop-e-preserved t c =
    let E = scope_view c.loop-e.scope in
    let at0 = numbers_view c.loop-e.progress.at in
    let x = exp_view c.e-item.result in
    let es = exps_view (drop (c.loop-e.e-index + 1) c.args.list.now) in
    let ss = drop c.loop-e.i c.args.levels.now in
    let d = drop_one c.args.levels.now c.loop-e.i in
    let n = exps_on c.args.list.now c.loop-e.e-index c.e-item.result c.loop-e-test.true c.e-item.is in
    let v = rw n at c.loop-e.invariant in
    let l = c.level_at.ensures in
    let w = rw l at c.in_ok-width.ensures.answer in
    let k = c.in_ok-width.ensures.kept in
    let p = c.in_ok-push_width.ensures in
    let a = c.in_ok-i.ensures in (
      rw (w.2, k, a, sym d) (rw w.0 at (sym (side_fault_on E at0 x es ss) ∙ v.0)),
      rw (w.2, k, a, sym d, p.1, w.1) (append_assoc c.loop-e.widths.items (side_width ss (width E at0 x (head_level ss))) (widths E (following at0 x) es (drop 1 ss)) ∙ rw (side_widths_on E at0 x es ss) at v.1),
      rw w.2 v.2,
      rw (w.2, k, a, sym d, w.3) (simp frames_along at (rw (side_found_on E at0 x es ss) at v.3)),
      k ∙ v.4,
    )

pub expressions::sides-returns-in_err-width-clause-answer : goal.expressions::sides-returns-in_err-width-clause-answer
expressions::sides-returns-in_err-width-clause-answer t c =
    let E = scope_view c.loop-e.scope in
    let at0 = numbers_view c.loop-e.progress.at in
    let x = exp_view c.e-item.result in
    let es = exps_view (drop (c.loop-e.e-index + 1) c.args.list.now) in
    let ss = drop c.loop-e.i c.args.levels.now in
    let n = exps_on c.args.list.now c.loop-e.e-index c.e-item.result c.loop-e-test.true c.e-item.is in
    let v = rw n at c.loop-e.invariant in
    let f = side_fault_on E at0 x es ss in
    let p = err_from_is_err_and c.from_residual.result c.from_residual.ensures.1 in
    rw (p.1, p.2) (fault_whole _ _ _ _ _ f v.0 (rw c.level_at.ensures at c.in_err-width.ensures.answer))

pub blocks::items-returns-in_err-one_item-clause-answer : goal.blocks::items-returns-in_err-one_item-clause-answer
blocks::items-returns-in_err-one_item-clause-answer t c =
    let E = scope_view c.loop-tree.scope in
    let at0 = numbers_view c.loop-tree.progress.at in
    let i = item_view c.tree-item.result in
    let is = items_view (drop (c.loop-tree.tree-index + 1) c.args.trees.now) in
    let n = items_on c.args.trees.now c.loop-tree.tree-index c.tree-item.result c.loop-tree-test.true c.tree-item.is in
    let v = rw n at c.loop-tree.invariant in
    let f = item_fault_on c.args.list.cases (met_view c.loop-tree.met) (allowed_view c.args.list.commands.allowed) E at0 i is c.args.list.commands.level in
    let p = err_from_is_err_and c.from_residual.result c.from_residual.ensures.1 in
    rw (p.1, p.2) (fault_whole _ _ _ _ _ f v.0 c.in_err-one_item.ensures.answer)

pub declarations::definitions-loop-tree-preserved : goal.declarations::definitions-loop-tree-preserved
declarations::definitions-loop-tree-preserved t c =
    let n = definitions_on c.args.list.now c.loop-tree.tree-index c.tree-item.result c.loop-tree-test.true c.tree-item.is in
    let v = rw n at c.loop-tree.invariant in
    let w = c.in_ok-definition.ensures.answer in
    let k = c.in_ok-definition.ensures.kept in (
      rw (w.2, w.4, k) (rw w.0 at v.0),
      rw (w.2, k, c.max-width.ensures, w.1) (max_along _ _ _ ∙ v.1),
      rw w.2 v.2,
      rw (w.2, k, w.3) (simp frames_along at v.3),
      k ∙ v.4,
    )

pub commands::plain_for-returns-in_err-start-clause-answer : goal.commands::plain_for-returns-in_err-start-clause-answer
commands::plain_for-returns-in_err-start-clause-answer t c =
    let p = err_from_is_err_and c.from_residual-in_err-start.result c.from_residual-in_err-start.ensures.1 in
    rw (p.1, p.2) (stays _ _ _ (rw c.in_ok-above.ensures at c.in_err-start.ensures.answer))

pub commands::plain_for-returns-in_err-limit-clause-answer : goal.commands::plain_for-returns-in_err-limit-clause-answer
commands::plain_for-returns-in_err-limit-clause-answer t c =
    let a = c.in_ok-above.ensures in
    let w1 = rw a at c.in_ok-start.ensures.answer in
    let p = err_from_is_err_and c.from_residual-in_err-limit.result c.from_residual-in_err-limit.ensures.1 in
    rw (p.1, p.2, w1.0) (stays _ _ _ (rw (w1.2, c.in_ok-start.ensures.kept, a) at c.in_err-limit.ensures.answer))

pub commands::plain_for-returns-in_err-body-clause-answer : goal.commands::plain_for-returns-in_err-body-clause-answer
commands::plain_for-returns-in_err-body-clause-answer t c =
    let a = c.in_ok-above.ensures in
    let w1 = rw a at c.in_ok-start.ensures.answer in
    let k1 = c.in_ok-start.ensures.kept in
    let w2 = rw (w1.2, k1, a) at c.in_ok-limit.ensures.answer in
    let p = err_from_is_err_and c.from_residual-in_err-body.result c.from_residual-in_err-body.ensures.1 in
    rw (p.1, p.2, w1.0, w2.0) (rw (w2.2, c.in_ok-limit.ensures.kept, k1) at c.in_err-body.ensures.answer)

pub commands::plain_for-returns-clause-answer : goal.commands::plain_for-returns-clause-answer
commands::plain_for-returns-clause-answer t c =
    let a = c.in_ok-above.ensures in
    let w1 = rw a at c.in_ok-start.ensures.answer in
    let k1 = c.in_ok-start.ensures.kept in
    let w2 = rw (w1.2, k1, a) at c.in_ok-limit.ensures.answer in
    let w3 = rw (w2.2, c.in_ok-limit.ensures.kept, k1) at c.in_ok-body.ensures.answer in (
      rw (w1.0, w2.0) w3.0,
      rw (c.max-3.ensures, c.max-2.ensures, c.max.ensures, c.in_ok-sum.ensures, a, w1.1, w2.1, w3.1) refl,
      w3.2,
      rw (frames_along, frames_along, ← w1.3, ← w2.3) w3.3,
    )

pub commands::stepped_for-returns-in_err-start-clause-answer : goal.commands::stepped_for-returns-in_err-start-clause-answer
commands::stepped_for-returns-in_err-start-clause-answer t c =
    let p = err_from_is_err_and c.from_residual-in_err-start.result c.from_residual-in_err-start.ensures.1 in
    rw (p.1, p.2) (stays _ _ _ (rw c.in_ok-above.ensures at c.in_err-start.ensures.answer))

pub commands::stepped_for-returns-in_err-limit-clause-answer : goal.commands::stepped_for-returns-in_err-limit-clause-answer
commands::stepped_for-returns-in_err-limit-clause-answer t c =
    let a = c.in_ok-above.ensures in
    let w1 = rw a at c.in_ok-start.ensures.answer in
    let p = err_from_is_err_and c.from_residual-in_err-limit.result c.from_residual-in_err-limit.ensures.1 in
    rw (p.1, p.2, w1.0) (stays _ _ _ (rw (w1.2, c.in_ok-start.ensures.kept, a) at c.in_err-limit.ensures.answer))

pub commands::stepped_for-returns-in_err-check_constant-clause-answer : goal.commands::stepped_for-returns-in_err-check_constant-clause-answer
commands::stepped_for-returns-in_err-check_constant-clause-answer t c =
    let a = c.in_ok-above.ensures in
    let w1 = rw a at c.in_ok-start.ensures.answer in
    let k1 = c.in_ok-start.ensures.kept in
    let w2 = rw (w1.2, k1, a) at c.in_ok-limit.ensures.answer in
    let p = err_from_is_err_and c.from_residual-in_err-check_constant.result c.from_residual-in_err-check_constant.ensures.1 in
    rw (p.1, p.2, w1.0, w2.0) (stays _ _ _ (rw (w2.2, c.in_ok-limit.ensures.kept, k1) at c.in_err-check_constant.ensures.answer))

pub commands::stepped_for-returns-in_err-body-clause-answer : goal.commands::stepped_for-returns-in_err-body-clause-answer
commands::stepped_for-returns-in_err-body-clause-answer t c =
    let a = c.in_ok-above.ensures in
    let w1 = rw a at c.in_ok-start.ensures.answer in
    let k1 = c.in_ok-start.ensures.kept in
    let w2 = rw (w1.2, k1, a) at c.in_ok-limit.ensures.answer in
    let k2 = c.in_ok-limit.ensures.kept in
    let w3 = rw (w2.2, k2, k1) at c.in_ok-check_constant.ensures.answer in
    let p = err_from_is_err_and c.from_residual-in_err-body.result c.from_residual-in_err-body.ensures.1 in
    rw (p.1, p.2, w1.0, w2.0, w3) (rw (w2.2, c.in_ok-check_constant.ensures.kept, k2, k1) at c.in_err-body.ensures.answer)

pub commands::stepped_for-returns-clause-answer : goal.commands::stepped_for-returns-clause-answer
commands::stepped_for-returns-clause-answer t c =
    let a = c.in_ok-above.ensures in
    let w1 = rw a at c.in_ok-start.ensures.answer in
    let k1 = c.in_ok-start.ensures.kept in
    let w2 = rw (w1.2, k1, a) at c.in_ok-limit.ensures.answer in
    let k2 = c.in_ok-limit.ensures.kept in
    let w3 = rw (w2.2, k2, k1) at c.in_ok-check_constant.ensures.answer in
    let w4 = rw (w2.2, c.in_ok-check_constant.ensures.kept, k2, k1) at c.in_ok-body.ensures.answer in (
      rw (w1.0, w2.0, w3) w4.0,
      rw (c.max-3.ensures, c.max-2.ensures, c.max.ensures, c.in_ok-sum.ensures, a, w1.1, w2.1, w4.1) refl,
      w4.2,
      rw (frames_along, frames_along, ← w1.3, ← w2.3) w4.3,
    )
