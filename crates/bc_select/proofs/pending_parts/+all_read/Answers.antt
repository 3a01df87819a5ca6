use Rattle.std.proofs.Common.{rules, ◌≡◌, ◌+◌, ◌++◌, length, ap, sym, subst, ◌∙◌, arith}
use Rattle.bc_core.specs.View.{exp, args}
use Rattle.bc_core.specs.WellFormed.{nodes, nodes_of_args}
use Rattle.bc_core.proofs.Rows.{then_argument, args_append}
use Rattle.bc_rules_defs.specs.declared.rule.Table.TheVariants.{Two}
use Rattle.bc_rules_defs.specs.Rules.{end_with}
use Rattle.bc_select_defs.specs.Readings.{readings, readings_of_all}
use Rattle.bc_select.specs.Ends.{EndsAt}
use Rattle.bc_select.specs.Waiting.{Added}
use Rattle.bc_select.specs.Vector.{before_all, vector}
use Rattle.bc_select.proofs.Bounds.{some_node, count_of_args}
use Rattle.bc_select.proofs.Ends.{last_part}
use Rattle.bc_select.proofs.Laid.{on_ok}
use Rattle.bc_select.proofs.Readings.{before_all-then, readings_of_all-then, nodes-then}
use Rattle.bc_select.proofs.Waits.{added_end}
use Rattle.bc_select.proofs.Wholes.{args_count}
use Rattle.bc_select.proofs.pending_parts.+all_read.Goals as goal

pub all_read-requires : goal.all_read-requires
all_read-requires t c =
    let others = c.in-Some.others.now in let last = exp c.in-Some.last.now in let level = c.args.place.level in
    let a : args c.args.arguments.now ≡ then_argument (args others) last = ap args c.in-Some.ensures.cases.0 ∙ args_append others c.in-Some.last.now in
    let n : nodes_of_args (args c.args.arguments.now) ≡ nodes_of_args (args others) + nodes last = ap nodes_of_args a ∙ nodes-then (args others) last in
    let i = some_node last in
    let k : EndsAt c.args.nodes.now c.args.place.end (before_all (args others) level ++ vector last (level + length others)) = subst (EndsAt c.args.nodes.now c.args.place.end) (ap (λ x. before_all x level) a ∙ before_all-then (args others) last level ∙ ap (λ m. before_all (args others) level ++ vector last (level + m)) (args_count others)) c.requires.nodes in
    (search rules, (omega arith, c.start.ensures (before_all (args others) level) last (level + length others) k))

pub wait-requires : goal.wait-requires
wait-requires t c =
    let others = c.in-Some.others.now in let last = exp c.in-Some.last.now in let level = c.args.place.level in
    let a : args c.args.arguments.now ≡ then_argument (args others) last = ap args c.in-Some.ensures.cases.0 ∙ args_append others c.in-Some.last.now in
    let n : nodes_of_args (args c.args.arguments.now) ≡ nodes_of_args (args others) + nodes last = ap nodes_of_args a ∙ nodes-then (args others) last in
    let i = some_node last in
    let k : EndsAt c.args.nodes.now c.args.place.end (before_all (args others) level ++ vector last (level + length others)) = subst (EndsAt c.args.nodes.now c.args.place.end) (ap (λ x. before_all x level) a ∙ before_all-then (args others) last level ∙ ap (λ m. before_all (args others) level ++ vector last (level + m)) (args_count others)) c.requires.nodes in
    let few = count_of_args (args others) in let same = args_count others in
    record { fits = omega arith; nodes = last_part _ _ _ _ k }

pub returns : goal.returns
returns t c =
    let others = c.in-Some.others.now in let last = exp c.in-Some.last.now in let level = c.args.place.level in
    let a : args c.args.arguments.now ≡ then_argument (args others) last = ap args c.in-Some.ensures.cases.0 ∙ args_append others c.in-Some.last.now in
    let is : end_with (readings_of_all Two (args others) level) (readings Two last (level + length others)).any ≡ readings_of_all Two (args c.args.arguments.now) level =
    ap (λ m. end_with (readings_of_all Two (args others) level) (readings Two last (level + m)).any) (sym (args_count others))
    ∙ sym (readings_of_all-then (args others) last level) ∙ sym (ap (λ x. readings_of_all Two x level) a) in
    on_ok c.wait.result _ _ (λ h. subst (λ x. Added c.args.nodes.now c.args.waiting.now.items c.wait.new.waiting.items x) is (added_end _ _ _ _ _ _ c.in_ok-all_read.ensures h)) c.wait.ensures
