use Rattle.std.proofs.Common.{◌≡◌, [], ◌∷◌, ◌++◌, ◌-◌, true, map, length, take, drop, sym, ap, subst, ◌∙◌, rules, arith}
use Rattle.std.proofs.lemmas.Grind.{common_steps}
use Rattle.bc_core.specs.Tree as tree
use Rattle.bc_core.specs.Commands as commands
use Rattle.bc_core.specs.View.{exp, args, variable, command, items, block_of}
use Rattle.bc_core.proofs.Rows.{call_view, if_view, test_view, while_view, repeat_view, repeat_while_view, nested_view, for_view, switchon_view}
use Rattle.std.specs.Prelude.{IfOk, IfSome, OnOk}
use Rattle.bc_core.specs.View.{declarations}
use Rattle.bc_core.specs.WellFormed.{has}
use Rattle.bc_tame.specs.Tame.{tame_variables, tame_items, in_list, parameters_set}
use Rattle.bc_tame_check.specs.declared.held.Entry.TheVariants as entries
use Rattle.bc_tame_check.specs.Views.{env_around, env_at, reads_at, exits_at, held_of, set_over, AreDeclared, IsLearned, IsFilling}
use Rattle.bc_tame_check.specs.Passes.{ItemPasses}
use Rattle.bc_tame_check.proofs.Forms.{on_ok, if_ok, as_expression, as_command, call_passes, block_passes_on, list_passes_on}
use Rattle.bc_tame_check.proofs.Knowledge.{one_pushed, set_all_more}
use Rattle.bc_tame_check.proofs.Loops.{round_true, assigned_true, plain_next}
use Rattle.bc_tame_check.proofs.Valofs.{valof_true, valof_passing}
use Rattle.bc_tame_check.proofs.Lists.{apart}
use Rattle.bc_tame_check.proofs.walk.+walk.Goals as goal

pub expression-returns-in-Bin : goal.expression-returns-in-Bin
expression-returns-in-Bin t c =
    let op = c.in-Bin.field-0 in
    let q = c.deref-in-Bin.ensures in
    let q1 = c.deref-in-Bin-2.ensures in
    as_expression c.args.at c.both.result (exp c.args.e.now) (tree.Bin op (exp c.deref-in-Bin.result.now) (exp c.deref-in-Bin-2.result.now))
    (ap exp c.in-Bin.is ∙ sym (λ i. tree.Bin op (exp (q i)) (exp (q1 i)))) c.both.ensures

pub expression-returns-in-Cond : goal.expression-returns-in-Cond
expression-returns-in-Cond t c =
    let q = c.deref-in-Cond.ensures in
    let q1 = c.deref-in-Cond-2.ensures in
    let q2 = c.deref-in-Cond-3.ensures in
    as_expression c.args.at c.choice.result (exp c.args.e.now) (tree.Cond (exp c.deref-in-Cond.result.now) (exp c.deref-in-Cond-2.result.now) (exp c.deref-in-Cond-3.result.now))
    (ap exp c.in-Cond.is ∙ sym (λ i. tree.Cond (exp (q i)) (exp (q1 i)) (exp (q2 i)))) c.choice.ensures

pub expression-returns-in-Call : goal.expression-returns-in-Call
expression-returns-in-Call t c =
    let q = c.deref-in-Call.ensures.value in
    let q1 = c.deref-in-Call-2.ensures in
    as_expression c.args.at c.call.result (exp c.args.e.now) (tree.Call (args c.deref-in-Call.result.now) (exp c.deref-in-Call-2.result.now))
    (ap exp c.in-Call.is ∙ (call_view c.in-Call.values c.in-Call.routine ∙ sym (λ i. tree.Call (args (q i)) (exp (q1 i))))) c.call.ensures

pub call-returns : goal.call-returns
call-returns t c =
    call_passes c.args.at c.enters.result c.args.values.now (exp c.args.routine.now) c.in_ok-level.level c.in_ok-level.ensures c.in_ok-arguments.ensures c.enters.ensures

pub variables-loop-left-preserved : goal.variables-loop-left-preserved
variables-loop-left-preserved t c h =
    let following = take (length c.loop-left.left.now - 1) (drop 1 c.loop-left.left.now) in
    let split : c.loop-left.left.now ≡ c.first-item.result ∷ following = first_of (search (rules, apart), grind (arith, common_steps, apart)) in
    c.loop-left.invariant
    (subst (λ xs. tame_variables (env_at c.args.at) (reads_at c.args.at) (map variable xs) c.args.at.level ≡ true) (sym split) (c.in_ok-initial.ensures (map variable following) h))

pub command-returns-in-If : goal.command-returns-in-If
command-returns-in-If t c =
    let f = c.in-If in
    as_command c.args.at c.tested.result (command c.args.form.now) (commands.If f.condition.sense (exp f.condition.test) (block_of f.body)) (ap command f.is ∙ if_view f.condition f.body) c.tested.ensures

pub command-returns-in-Test : goal.command-returns-in-Test
command-returns-in-Test t c =
    let f = c.in-Test in
    as_command c.args.at c.tested_both.result (command c.args.form.now) (commands.Test (exp f.test) (block_of f.this) (block_of f.that)) (ap command f.is ∙ test_view f.test f.this f.that) c.tested_both.ensures

pub command-returns-in-While : goal.command-returns-in-While
command-returns-in-While t c =
    let f = c.in-While in
    as_command c.args.at c.tested-in-While.result (command c.args.form.now) (commands.While f.condition.sense (exp f.condition.test) (block_of f.body)) (ap command f.is ∙ while_view f.condition f.body) c.tested-in-While.ensures

pub command-returns-in-Repeat : goal.command-returns-in-Repeat
command-returns-in-Repeat t c =
    let f = c.in-Repeat in
    as_command c.args.at c.block.result (command c.args.form.now) (commands.Repeat (block_of f.body)) (ap command f.is ∙ repeat_view f.body) c.block.ensures

pub command-returns-in-RepeatWhile : goal.command-returns-in-RepeatWhile
command-returns-in-RepeatWhile t c =
    let f = c.in-RepeatWhile in
    as_command c.args.at c.repeated.result (command c.args.form.now) (commands.RepeatWhile (block_of f.body) f.condition.sense (exp f.condition.test)) (ap command f.is ∙ repeat_while_view f.body f.condition) c.repeated.ensures

pub command-returns-in-Nested : goal.command-returns-in-Nested
command-returns-in-Nested t c =
    let f = c.in-Nested in
    as_command c.args.at c.block-in-Nested.result (command c.args.form.now) (commands.Nested (block_of f.body)) (ap command f.is ∙ nested_view f.body) c.block-in-Nested.ensures

pub command-returns-in-For : goal.command-returns-in-For
command-returns-in-For t c =
    let f = c.in-For in
    as_command c.args.at c.for_loop.result (command c.args.form.now) (commands.For (exp f.start) (exp f.limit) c.get.result (block_of f.body))
    (ap command f.is ∙ (for_view f.start f.limit _ f.body ∙ ap (λ n. commands.For (exp f.start) (exp f.limit) n (block_of f.body)) (sym c.get.ensures.same))) c.for_loop.ensures

pub command-returns-in-SwitchOn : goal.command-returns-in-SwitchOn
command-returns-in-SwitchOn t c =
    let f = c.in-SwitchOn in
    as_command c.args.at c.switch.result (command c.args.form.now) (commands.SwitchOn (exp f.value) (items c.deref.result.now))
    (ap command f.is ∙ (switchon_view f.value f.list ∙ ap (λ xs. commands.SwitchOn (exp f.value) (items xs)) (sym c.deref.ensures.value))) c.switch.ensures

pub block_as-returns : goal.block_as-returns
block_as-returns t c =
    block_passes_on c.args.at c.args.kept c.items.result (declarations c.args.form.now.declarations.items) (items c.args.form.now.list.items) c.in_ok-declared.declared.reads.items
    c.in_ok-declared.declared.level
    (subst (λ ds. AreDeclared c.args.at c.args.kept (declarations ds) c.in_ok-declared.declared.reads.items c.in_ok-declared.declared.level) c.deref.ensures.value c.in_ok-declared.ensures)
    (subst (λ xs. OnOk c.items.result (tame_items (env_at c.args.at) (set_over (parameters_set c.args.at.parameters) c.in_ok-declared.declared.reads.items)
    (in_list (items xs) (exits_at c.args.at)) (items xs) c.in_ok-declared.declared.level ≡ true)) c.deref-2.ensures.value
    (subst (λ rs. OnOk c.items.result (tame_items (env_at c.args.at) (set_over (parameters_set c.args.at.parameters) rs)
    (in_list (items c.deref-2.result.now) (exits_at c.args.at)) (items c.deref-2.result.now) c.in_ok-declared.declared.level ≡ true)) c.as_slice.ensures.value c.items.ensures))

pub block-returns-else-not-goes_back : goal.block-returns-else-not-goes_back
block-returns-else-not-goes_back t c = on_ok c.block_as-in-Err.result (assigned_true c.args.at (block_of c.args.form.now)) c.block_as-in-Err.ensures

pub filling-returns-in_ok-depth-in-For : goal.filling-returns-in_ok-depth-in-For
filling-returns-in_ok-depth-in-For t c =
    let f = c.in-For in
    subst (λ k. IfOk c.filling_for.result (λ o. IfSome o (λ more. IsFilling c.args.at k more.items)))
    (sym (ap command f.is ∙ (for_view f.start f.limit _ f.body ∙ ap (λ n. commands.For (exp f.start) (exp f.limit) n (block_of f.body)) (sym c.get.ensures.same)))) c.filling_for.ensures

pub items-returns : goal.items-returns
items-returns t c =
    list_passes_on c.args.at c.all_items.result (items c.args.list.now) c.in_ok-labels.labels.items c.in_ok-labels.ensures
    (subst (λ ls. OnOk c.all_items.result (tame_items (env_at c.args.at) (reads_at c.args.at) (record { in_loop = c.args.at.exits.in_loop; in_cases = c.args.at.exits.in_cases; in_valof = c.args.at.exits.in_valof; may_return = c.args.at.exits.may_return; labels = has ls })
    (items c.args.list.now) c.args.at.level ≡ true)) c.as_slice.ensures.value c.all_items.ensures)

pub plain_command-returns : goal.plain_command-returns
plain_command-returns t c =
    if_ok c.learned.result (λ more. IsLearned c.args.at (command c.args.form.now) (items c.args.rest.now) more.items)
    (λ more. ItemPasses c.args.at (commands.command (command c.args.form.now) (items c.args.rest.now)) (items c.args.rest.now) more.items)
    (λ more l. plain_next c.args.at (command c.args.form.now) (items c.args.rest.now) more.items c.in_ok-command.ensures l) c.learned.ensures

pub round-returns : goal.round-returns
round-returns t c =
    on_ok c.block.result
    (λ h. round_true (env_at c.args.at) (reads_at c.args.at) (set_over (parameters_set c.args.at.parameters) c.as_slice.result.now) (exits_at c.args.at) (held_of c.args.holds) (block_of c.args.body.now)
    c.args.at.level c.in_ok-level.level c.in_ok-level.ensures
    (one_pushed (parameters_set c.args.at.parameters) c.args.at.reads.now c.as_slice.result.now c.args.at.level c.args.holds
    (c.as_slice.ensures.value ∙ (c.in_ok-push.ensures.items ∙ ap (λ xs. xs ++ entries.One c.args.at.level c.args.holds ∷ []) c.in_ok-reads.ensures.items))) h)
    c.block.ensures

pub valof-returns : goal.valof-returns
valof-returns t c =
    valof_true (env_around c.args.at.around) (reads_at c.args.at) c.args.at.first c.args.at.valofs.now c.args.number (c.args.number - c.args.at.first) c.args.at.level c.in_ok-first.first c.index-at-index.result
    (omega arith) (omega arith) c.in_ok-first.ensures
    c.in_ok-valof_body.ensures

pub valof_body-returns : goal.valof_body-returns
valof_body-returns t c =
    on_ok c.block.result (λ h. valof_passing (env_at c.args.at) (reads_at c.args.at) (block_of c.args.body.now) c.args.at.level h) c.block.ensures

pub all_items-loop-left-preserved : goal.all_items-loop-left-preserved
all_items-loop-left-preserved t c h =
    let following = take (length c.loop-left.left.now - 1) (drop 1 c.loop-left.left.now) in
    let split : c.loop-left.left.now ≡ c.first-item.result ∷ following = first_of (search (rules, apart), grind (arith, common_steps, apart)) in
    let added : set_over (parameters_set c.args.at.parameters) c.extend_from_slice.new.self.items ≡ set_over (set_over (parameters_set c.args.at.parameters) c.as_slice.result.now) c.in_ok-more.more.items =
    ap (set_over (parameters_set c.args.at.parameters)) (c.in_ok-extend_from_slice.ensures.items ∙ ap (λ ys. c.loop-left.reads.items ++ ys) c.as_slice-in-len1-up.ensures.value)
    ∙ (set_all_more (parameters_set c.args.at.parameters) c.loop-left.reads.items c.in_ok-more.more.items
    ∙ ap (λ xs. set_over (set_over (parameters_set c.args.at.parameters) xs) c.in_ok-more.more.items) (sym c.as_slice.ensures.value)) in
    c.loop-left.invariant
    (subst (λ xs. tame_items (env_at c.args.at) (set_over (parameters_set c.args.at.parameters) xs) (exits_at c.args.at) (items c.loop-left.left.now) c.args.at.level ≡ true) c.as_slice.ensures.value
    (subst (λ xs. tame_items (env_at c.args.at) (set_over (parameters_set c.args.at.parameters) c.as_slice.result.now) (exits_at c.args.at) (items xs) c.args.at.level ≡ true) (sym split)
    (c.in_ok-more.ensures (subst (λ S. tame_items (env_at c.args.at) S (exits_at c.args.at) (items following) c.args.at.level ≡ true) added h))))
