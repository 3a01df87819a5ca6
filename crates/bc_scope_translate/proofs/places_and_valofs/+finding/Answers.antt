use Rattle.std.proofs.Common.{◌≡◌, ◌+◌, ◌++◌, drop, refl, ap, ◌∙◌, rules, arith, Ok}
use Rattle.std.proofs.lemmas.Grind.{common_steps}
use Rattle.bc_parse_tree.specs.declared.tree.Block.{out-Block}
use Rattle.bc_parse_tree.specs.declared.tree.Command.TheVariants as commands
use Rattle.bc_parse_tree.specs.declared.tree.Declaration.TheVariants as declarations
use Rattle.bc_parse_tree.specs.declared.tree.Exp.TheVariants as exps
use Rattle.bc_parse_tree.specs.View.{exp_view, exps_view, block_view, command_view, declaration_view, declarations_view, definition_view, definitions_view, item_view, items_view}
use Rattle.bc_core.specs.Level.{level_in_for}
use Rattle.bc_scope_names.specs.View.{scope_view, numbers_view}
use Rattle.bc_scope_defs.specs.Numbering.{following, after_all, after_block, after_command, after_declarations, after_declaration, after_definition, after_item}
use Rattle.bc_scope_defs.specs.Scoping.{count, cells_in, in_declaration, in_declarations, in_for, in_let, level_after}
use Rattle.bc_scope_defs.specs.Sides.{side_levels}
use Rattle.bc_scope_defs.specs.Found.{found, found_in_arguments, found_in_sides, found_in_initials, found_in_declaration, found_in_declarations, found_in_block, found_in_command}
use Rattle.bc_scope_names.specs.Priors.{first_global}
use Rattle.bc_scope_names.proofs.Extends.{extends_on, extends_self}
use Rattle.bc_scope_translate.specs.Definitions.{found_in_definition_by, found_in_definitions_by}
use Rattle.bc_scope_translate.specs.Finding.{item_found, found_items, head_level}
use Rattle.bc_scope_translate.proofs.Along.{exps_on, declarations_on, definitions_on, items_on}
use Rattle.bc_scope_translate.proofs.Finding.{left_over, then_found, parts_found, list_found, side_on, drop_one, taken_back}
use Rattle.bc_scope_translate.proofs.Definitions.{found_definitions_are}
use Rattle.bc_scope_translate.proofs.Views.{constants_view, let_view, block_seen, binary_view, condition_view, call_view, do_view, assign_view, test_view, switchon_view, guarded, repeated, counted}
use Rattle.bc_scope_translate.proofs.places_and_valofs.+finding.Goals as goal

pub arguments-loop-e-preserved : goal.arguments-loop-e-preserved
arguments-loop-e-preserved t c =
    let E = scope_view c.loop-e.scope in
    let at0 = numbers_view c.loop-e.found.at in
    let x = exp_view c.e-item.result in
    let es = exps_view (drop (c.loop-e.e-index + 1) c.args.list.now) in
    let s = c.loop-e.above in
    let n = exps_on c.args.list.now c.loop-e.e-index c.e-item.result c.loop-e-test.true c.e-item.is in
    let v = rw n at c.loop-e.invariant in
    let w = c.in_ok-expression.ensures in (
      rw (w.2, w.1, c.in_ok-above.ensures) (left_over _ _ _ (found E at0 x s) (found_in_arguments E (following at0 x) es (s + 1)) w.0 v.0),
      rw w.1 v.1,
      w.2 ∙ v.2,
    )

pub sides-loop-e-preserved : goal.sides-loop-e-preserved
sides-loop-e-preserved t c =
    let E = scope_view c.loop-e.scope in
    let at0 = numbers_view c.loop-e.found.at in
    let x = exp_view c.e-item.result in
    let es = exps_view (drop (c.loop-e.e-index + 1) c.args.list.now) in
    let ss = drop c.loop-e.i c.args.levels.now in
    let d = drop_one c.args.levels.now c.loop-e.i in
    let n = exps_on c.args.list.now c.loop-e.e-index c.e-item.result c.loop-e-test.true c.e-item.is in
    let v = rw n at c.loop-e.invariant in
    let w = rw c.level_at.ensures at c.in_ok-expression.ensures in (
      rw (w.2, w.1, c.in_ok-i.ensures, ← d) (left_over _ _ _ (found E at0 x (head_level ss)) (found_in_sides E (following at0 x) es (drop 1 ss)) w.0 (rw (side_on E at0 x es ss) at v.0)),
      rw w.1 v.1,
      w.2 ∙ v.2,
    )

pub initials-loop-e-preserved : goal.initials-loop-e-preserved
initials-loop-e-preserved t c =
    let E = scope_view c.loop-e.scope in
    let at0 = numbers_view c.loop-e.found.at in
    let x = exp_view c.e-item.result in
    let es = exps_view (drop (c.loop-e.e-index + 1) c.args.list.now) in
    let s = c.args.level in
    let n = exps_on c.args.list.now c.loop-e.e-index c.e-item.result c.loop-e-test.true c.e-item.is in
    let v = rw n at c.loop-e.invariant in
    let w = c.in_ok-expression.ensures in (
      rw (w.2, w.1) (left_over _ _ _ (found E at0 x s) (found_in_initials E (following at0 x) es s) w.0 v.0),
      rw w.1 v.1,
      w.2 ∙ v.2,
    )

pub definitions-loop-tree-preserved : goal.definitions-loop-tree-preserved
definitions-loop-tree-preserved t c =
    let E = scope_view c.loop-tree.scope in
    let at0 = numbers_view c.loop-tree.found.at in
    let x = definition_view c.tree-item.result in
    let ds = definitions_view (drop (c.loop-tree.tree-index + 1) c.args.list.now) in
    let gs = drop c.loop-tree.i c.args.priors.now.globals.items in
    let s = c.args.level in
    let d = drop_one c.args.priors.now.globals.items c.loop-tree.i in
    let n = definitions_on c.args.list.now c.loop-tree.tree-index c.tree-item.result c.loop-tree-test.true c.tree-item.is in
    let v = rw n at c.loop-tree.invariant in
    let w = rw c.at.ensures at c.in_ok-definition.ensures in (
      rw (w.2, w.1, c.in_ok-i.ensures, ← d) (left_over _ _ _ (found_in_definition_by (first_global gs) E at0 x s) (found_in_definitions_by (drop 1 gs) E (after_definition at0 x) ds s) w.0 v.0),
      rw w.1 v.1,
      w.2 ∙ v.2,
    )

pub declarations-loop-tree-preserved : goal.declarations-loop-tree-preserved
declarations-loop-tree-preserved t c =
    let E = scope_view c.loop-tree.scope in
    let at0 = numbers_view c.loop-tree.found.at in
    let x = declaration_view c.tree-item.result in
    let ds = declarations_view (drop (c.loop-tree.tree-index + 1) c.args.list.now) in
    let s = c.loop-tree.following in
    let n = declarations_on c.args.list.now c.loop-tree.tree-index c.tree-item.result c.loop-tree-test.true c.tree-item.is in
    let v = rw n at c.loop-tree.invariant in
    let w = c.in_ok-following.ensures in (
      rw (w.0, w.1.0, w.3) v.0,
      rw (w.0, w.1.0, w.3) v.1,
      rw (w.0, w.1.0, w.3) (left_over _ _ _ (found_in_declaration E at0 x s) (found_in_declarations (in_declaration E at0 s x) (after_declaration at0 x) ds (s + cells_in E x)) w.2 v.2),
      rw w.3 v.3,
      extends_on c.args.scope.now c.loop-tree.scope c.declaration.new.scope v.4 w.1.1,
    )

pub items-loop-tree-preserved : goal.items-loop-tree-preserved
items-loop-tree-preserved t c =
    let E = scope_view c.loop-tree.scope in
    let at0 = numbers_view c.loop-tree.found.at in
    let x = item_view c.tree-item.result in
    let is = items_view (drop (c.loop-tree.tree-index + 1) c.args.trees.now) in
    let s = c.args.level in
    let n = items_on c.args.trees.now c.loop-tree.tree-index c.tree-item.result c.loop-tree-test.true c.tree-item.is in
    let v = rw n at c.loop-tree.invariant in
    let w = c.in_ok-one_item.ensures in (
      rw (w.2, w.1) (left_over _ _ _ (item_found E at0 x s) (found_items E (after_item at0 x) is s) w.0 v.0),
      rw w.1 v.1,
      w.2 ∙ v.2,
    )

pub expression-returns-in_ok-expression-in-Bin : goal.expression-returns-in_ok-expression-in-Bin
expression-returns-in_ok-expression-in-Bin t c =
    let E = scope_view c.args.scope.now in
    let at0 = numbers_view c.args.found.now.at in
    let s = c.args.level in
    let i : c.args.e.now ≡ exps.Bin c.in-Bin.field-0 c.in-Bin.left c.in-Bin.right = c.in-Bin.is in
    let v = ap exp_view i ∙ binary_view c.in-Bin.field-0 c.in-Bin.left c.in-Bin.right in
    let x = exp_view c.in-Bin.left.value in
    let y = exp_view c.in-Bin.right.value in
    let a = c.in_ok-above-in-Bin.ensures in
    let w = rw (a, c.deref-in-Bin.ensures) at c.in_ok-expression-in-Bin.ensures in
    let u = rw (w.2, w.1, a, c.deref-in-Bin-2.ensures) at c.expression-in-Bin-2.ensures in
    parts_found c.expression-in-Bin-2.result c.args.found.now c.expression-in-Bin.new.found c.expression-in-Bin-2.new.found _ _ (found E at0 x (s + 1)) (found E (following at0 x) y (s + 1)) _ _ _ (ap (following at0) v) (ap (λ e. found E at0 e s) v) w.0 u

pub expression-returns-in_ok-expression-in-Cond-2 : goal.expression-returns-in_ok-expression-in-Cond-2
expression-returns-in_ok-expression-in-Cond-2 t c =
    let E = scope_view c.args.scope.now in
    let at0 = numbers_view c.args.found.now.at in
    let s = c.args.level in
    let i : c.args.e.now ≡ exps.Cond c.in-Cond.test c.in-Cond.this c.in-Cond.that = c.in-Cond.is in
    let v = ap exp_view i ∙ condition_view c.in-Cond.test c.in-Cond.this c.in-Cond.that in
    let x = exp_view c.in-Cond.test.value in
    let y = exp_view c.in-Cond.this.value in
    let z = exp_view c.in-Cond.that.value in
    let w = rw c.deref-in-Cond.ensures at c.in_ok-expression-in-Cond.ensures in
    let u = rw (w.2, w.1, c.deref-in-Cond-2.ensures) at c.in_ok-expression-in-Cond-2.ensures in
    let l = rw (u.2, u.1, c.deref-in-Cond-3.ensures) at c.expression-in-Cond-3.ensures in
    let at1 = following at0 x in
    let at2 = following at1 y in
    let m = then_found c.expression-in-Cond-3.result c.expression-in-Cond.new.found c.expression-in-Cond-2.new.found c.expression-in-Cond-3.new.found (following at2 z) (found E at1 y s) (found E at2 z s) _ _ u.0 l in
    parts_found c.expression-in-Cond-3.result c.args.found.now c.expression-in-Cond.new.found c.expression-in-Cond-3.new.found _ _ (found E at0 x s) (found E at1 y s ++ found E at2 z s) _ _ _ (ap (following at0) v) (ap (λ e. found E at0 e s) v) w.0 m

pub expression-returns-in_ok-expression-in-Call : goal.expression-returns-in_ok-expression-in-Call
expression-returns-in_ok-expression-in-Call t c =
    let E = scope_view c.args.scope.now in
    let at0 = numbers_view c.args.found.now.at in
    let s = c.args.level in
    let i : c.args.e.now ≡ exps.Call c.in-Call.routine c.in-Call.values = c.in-Call.is in
    let v = ap exp_view i ∙ call_view c.in-Call.routine c.in-Call.values in
    let x = exp_view c.in-Call.routine.value in
    let es = exps_view c.in-Call.values.items in
    let a = c.in_ok-first-in-Call.ensures in
    let n = rw c.deref-in-Call-2.ensures.value at c.count.ensures in
    let k = rw (a, n) at c.in_ok-sum-in-Call.ensures in
    let w = rw (k, c.deref-in-Call.ensures) at c.in_ok-expression-in-Call.ensures in
    let u = rw (w.2, w.1, a, c.deref-in-Call-3.ensures.value) at c.arguments.ensures in
    parts_found c.arguments.result c.args.found.now c.expression-in-Call.new.found c.arguments.new.found _ _ (found E at0 x (s + 2 + count es)) (found_in_arguments E (following at0 x) es (s + 2)) _ _ _ (ap (following at0) v) (ap (λ e. found E at0 e s) v) w.0 u

pub block-returns : goal.block-returns
block-returns t c =
    let E = scope_view c.args.scope.now in
    let at0 = numbers_view c.args.found.now.at in
    let s = c.args.level in
    let v = block_seen c.args.tree.now in
    let ds = declarations_view (out-Block c.args.tree.now).declarations.items in
    let is = items_view (out-Block c.args.tree.now).items.items in
    let w = rw c.deref.ensures.value at c.in_ok-level.ensures in
    let u = rw c.deref-2.ensures.value at c.in_ok-command_list.ensures in
    let r = list_found {X = Unit {0}} {F = Unit {0}} (Ok tt) c.args.found.now c.declarations.new.found c.command_list.new.found (found_in_declarations E at0 ds s) (scope_view c.declarations.new.scope) (in_declarations E at0 s ds) (after_declarations at0 ds) is c.in_ok-level.level (level_after E at0 s ds) _ _ w.3 w.1.0 w.0 w.2 u in
    rw v (r.0, r.1, taken_back c.args.scope.now c.declarations.new.scope c.command_list.new.scope c.leave.new.self _ c.mark-outside.ensures w.1.1 u.2 c.leave.ensures)

pub command-returns-in_ok-sides-in-Assign : goal.command-returns-in_ok-sides-in-Assign
command-returns-in_ok-sides-in-Assign t c =
    let E = scope_view c.args.scope.now in
    let at0 = numbers_view c.args.found.now.at in
    let s = c.args.level in
    let i : c.args.tree.now ≡ commands.Assign c.in-Assign.places c.in-Assign.values = c.in-Assign.is in
    let v = ap command_view i ∙ assign_view c.in-Assign.places c.in-Assign.values in
    let xs = exps_view c.in-Assign.places.items in
    let es = exps_view c.in-Assign.values.items in
    let ss = side_levels E xs s in
    let l = rw c.deref.ensures.value at c.in_ok-levels-in-Assign.ensures in
    let w = rw (c.deref-in-Assign.ensures.value, c.deref-in-Assign-2.ensures.value, l) at c.in_ok-sides-in-Assign.ensures in
    let u = rw (w.2, w.1, c.deref-in-Assign-3.ensures.value, c.deref-in-Assign-4.ensures.value, l) at c.sides-in-Assign.ensures in
    parts_found c.sides-in-Assign.result c.args.found.now c.sides.new.found c.sides-in-Assign.new.found _ _ (found_in_sides E at0 xs ss) (found_in_sides E (after_all at0 xs) es ss) _ _ _ (ap (after_command at0) v) (ap (λ d. found_in_command E at0 d s) v) w.0 u

pub command-returns-in_ok-expression-in-Call : goal.command-returns-in_ok-expression-in-Call
command-returns-in_ok-expression-in-Call t c =
    let E = scope_view c.args.scope.now in
    let at0 = numbers_view c.args.found.now.at in
    let s = c.args.level in
    let i : c.args.tree.now ≡ commands.Call c.in-Call.routine c.in-Call.values = c.in-Call.is in
    let v = ap command_view i ∙ do_view c.in-Call.routine c.in-Call.values in
    let x = exp_view c.in-Call.routine.value in
    let es = exps_view c.in-Call.values.items in
    let a = c.in_ok-first-in-Call.ensures in
    let n = rw c.deref-in-Call-2.ensures.value at c.count.ensures in
    let k = rw (a, n) at c.in_ok-sum-in-Call.ensures in
    let w = rw (k, c.deref-in-Call.ensures) at c.in_ok-expression-in-Call.ensures in
    let u = rw (w.2, w.1, a, c.deref-in-Call-3.ensures.value) at c.arguments.ensures in
    parts_found c.arguments.result c.args.found.now c.expression.new.found c.arguments.new.found _ _ (found E at0 x (s + 2 + count es)) (found_in_arguments E (following at0 x) es (s + 2)) _ _ _ (ap (after_command at0) v) (ap (λ e. found_in_command E at0 e s) v) w.0 u

pub command-returns-in_ok-command-in-RepeatWhile : goal.command-returns-in_ok-command-in-RepeatWhile
command-returns-in_ok-command-in-RepeatWhile t c =
    let E = scope_view c.args.scope.now in
    let at0 = numbers_view c.args.found.now.at in
    let s = c.args.level in
    let p = repeated E at0 s c.args.tree.now c.in-RepeatWhile.repeated c.in-RepeatWhile.test c.in-RepeatWhile.is in
    let r = command_view c.in-RepeatWhile.repeated.value in
    let x = exp_view c.in-RepeatWhile.test in
    let w = rw c.deref-in-RepeatWhile.ensures at c.in_ok-command-in-RepeatWhile.ensures in
    let u = rw (w.2, w.1) at c.expression-in-RepeatWhile.ensures in
    parts_found c.expression-in-RepeatWhile.result c.args.found.now c.command-in-RepeatWhile.new.found c.expression-in-RepeatWhile.new.found _ _ (found_in_command E at0 r s) (found E (after_command at0 r) x s) _ _ _ p.0 p.1 w.0 u

pub command-returns-in_ok-expression-in-If : goal.command-returns-in_ok-expression-in-If
command-returns-in_ok-expression-in-If t c =
    let E = scope_view c.args.scope.now in
    let at0 = numbers_view c.args.found.now.at in
    let s = c.args.level in
    let p = guarded E at0 s c.args.tree.now c.in-If.test c.in-If.body c.in-If.is in
    let x = exp_view c.in-If.test in
    let b = block_view c.in-If.body in
    let w = c.in_ok-expression-in-If.ensures in
    let u = rw (w.2, w.1) at c.block-in-If.ensures in
    parts_found c.block-in-If.result c.args.found.now c.expression-in-If.new.found c.block-in-If.new.found _ _ (found E at0 x s) (found_in_block E (following at0 x) b s) _ _ _ p.0 p.1 w.0 u

pub command-returns-in_ok-block-in-Test : goal.command-returns-in_ok-block-in-Test
command-returns-in_ok-block-in-Test t c =
    let E = scope_view c.args.scope.now in
    let at0 = numbers_view c.args.found.now.at in
    let s = c.args.level in
    let i : c.args.tree.now ≡ commands.Test c.in-Test.test c.in-Test.this c.in-Test.that = c.in-Test.is in
    let v = ap command_view i ∙ test_view c.in-Test.test c.in-Test.this c.in-Test.that in
    let x = exp_view c.in-Test.test.value in
    let y = block_view c.in-Test.this in
    let z = block_view c.in-Test.that in
    let w = rw c.deref-in-Test.ensures at c.in_ok-expression-in-Test.ensures in
    let u = rw (w.2, w.1) at c.in_ok-block-in-Test.ensures in
    let l = rw (u.2, u.1) at c.block-in-Test-2.ensures in
    let at1 = following at0 x in
    let at2 = after_block at1 y in
    let m = then_found c.block-in-Test-2.result c.expression-in-Test.new.found c.block-in-Test.new.found c.block-in-Test-2.new.found (after_block at2 z) (found_in_block E at1 y s) (found_in_block E at2 z s) _ _ u.0 l in
    parts_found c.block-in-Test-2.result c.args.found.now c.expression-in-Test.new.found c.block-in-Test-2.new.found _ _ (found E at0 x s) (found_in_block E at1 y s ++ found_in_block E at2 z s) _ _ _ (ap (after_command at0) v) (ap (λ d. found_in_command E at0 d s) v) w.0 m

pub command-returns-in_ok-expression-in-For-2 : goal.command-returns-in_ok-expression-in-For-2
command-returns-in_ok-expression-in-For-2 t c =
    let E = scope_view c.args.scope.now in
    let at0 = numbers_view c.args.found.now.at in
    let s = c.args.level in
    let p = counted E at0 s c.args.tree.now c.in-For.variable c.in-For.start c.in-For.limit c.in-For.step c.in-For.body c.in-For.is in
    let x = exp_view c.in-For.start.value in
    let y = exp_view c.in-For.limit.value in
    let z = block_view c.in-For.body in
    let s1 = level_in_for s in
    let F = in_for E c.in-For.variable.now s in
    let a = c.in_ok-above-in-For.ensures in
    let w = rw (a, c.deref-in-For.ensures) at c.in_ok-expression-in-For.ensures in
    let u = rw (w.2, w.1, a, c.deref-in-For-2.ensures) at c.in_ok-expression-in-For-2.ensures in
    let l = rw (u.2, u.1) at c.counted.ensures in
    let at1 = following at0 x in
    let at2 = following at1 y in
    let m = then_found c.counted.result c.expression-in-For.new.found c.expression-in-For-2.new.found c.counted.new.found (after_block at2 z) (found E at1 y s1) (found_in_block F at2 z s1) _ _ u.0 l in
    parts_found c.counted.result c.args.found.now c.expression-in-For.new.found c.counted.new.found _ _ (found E at0 x s1) (found E at1 y s1 ++ found_in_block F at2 z s1) _ _ _ p.0 p.1 w.0 m

pub command-returns-in_ok-expression-in-SwitchOn : goal.command-returns-in_ok-expression-in-SwitchOn
command-returns-in_ok-expression-in-SwitchOn t c =
    let E = scope_view c.args.scope.now in
    let at0 = numbers_view c.args.found.now.at in
    let s = c.args.level in
    let i : c.args.tree.now ≡ commands.SwitchOn c.in-SwitchOn.of c.in-SwitchOn.list = c.in-SwitchOn.is in
    let v = ap command_view i ∙ switchon_view c.in-SwitchOn.of c.in-SwitchOn.list in
    let x = exp_view c.in-SwitchOn.of in
    let is = items_view c.in-SwitchOn.list.items in
    let w = c.in_ok-expression-in-SwitchOn.ensures in
    let u = rw (w.2, c.deref-in-SwitchOn.ensures.value) at c.command_list.ensures in
    rw v (list_found c.command_list.result c.args.found.now c.expression-in-SwitchOn.new.found c.command_list.new.found (found E at0 x s) E E (following at0 x) is s s _ _ w.1 refl refl w.0 u)

pub function-returns : goal.function-returns
function-returns t c = (
  first_of (search rules, grind (arith, common_steps)),
  first_of (search rules, grind (arith, common_steps)),
  taken_back c.args.scope.now c.declare_parameters.new.scope c.expression.new.scope c.leave.new.self _ c.mark-outside.ensures c.in_ok-declare_parameters.ensures.1 c.in_ok-expression.ensures.2 c.leave.ensures,
)

pub routine-returns : goal.routine-returns
routine-returns t c = (
  first_of (search rules, grind (arith, common_steps)),
  first_of (search rules, grind (arith, common_steps)),
  taken_back c.args.scope.now c.declare_parameters.new.scope c.block-2.new.scope c.leave.new.self _ c.mark-outside.ensures c.in_ok-declare_parameters.ensures.1 (c.in_ok-block.ensures.2 ∙ c.in_ok-commands.ensures.2) c.leave.ensures,
)

pub declarations-loop-tree-init : goal.declarations-loop-tree-init
declarations-loop-tree-init t c = (refl, refl, refl, refl, extends_self c.args.scope.now)

pub declaration-returns-in_ok-entries-in-Constants : goal.declaration-returns-in_ok-entries-in-Constants
declaration-returns-in_ok-entries-in-Constants t c =
    let i : c.args.tree.now ≡ declarations.Constants c.in-Constants.storage c.in-Constants.list = c.in-Constants.is in
    let v = ap declaration_view i ∙ constants_view c.in-Constants.storage c.in-Constants.list in
    let a = rw c.deref.ensures.value at c.in_ok-declare_pending-in-Constants.ensures in
    let b = rw (a.0, c.deref-in-Constants.ensures.value) at c.in_ok-entries-in-Constants.ensures in
    let x = extends_on c.args.scope.now c.declare_pending.new.scope c.entries.new.scope a.1 b.2.1 in
    rw v (omega arith, (b.2.0, x), b.0, b.1)

pub declaration-returns-in_ok-definitions-in-Let : goal.declaration-returns-in_ok-definitions-in-Let
declaration-returns-in_ok-definitions-in-Let t c =
    let E = scope_view c.args.scope.now in
    let at0 = numbers_view c.args.found.now.at in
    let i : c.args.tree.now ≡ declarations.Let c.in-Let.list = c.in-Let.is in
    let v = ap declaration_view i ∙ let_view c.in-Let.list in
    let ds = definitions_view c.in-Let.list.items in
    let p = rw c.deref-in-Let.ensures.value at c.in_ok-priors-in-Let.ensures in
    let b = rw (p.1, c.deref-in-Let-2.ensures.value) at c.in_ok-following-in-Let.ensures in
    let d = rw (p.0.0, b.1.0, c.deref-in-Let-3.ensures.value) at c.in_ok-definitions-in-Let.ensures in
    let f = found_definitions_are E (in_let E at0 c.args.level ds) at0 ds c.in_ok-following-in-Let.following in
    rw v (b.0, (ap scope_view d.2 ∙ b.1.0, rw d.2 b.1.1), rw (f, b.0) at d.0, d.1)
