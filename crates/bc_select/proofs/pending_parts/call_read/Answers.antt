use Rattle.std.proofs.Common.{◌≡◌, ◌+◌, ◌++◌, length, ap, sym, subst, arith}
use Rattle.bc_core.specs.Tree.{count}
use Rattle.bc_core.specs.View.{exp, args}
use Rattle.bc_rules_defs.specs.declared.rule.Table.TheVariants.{Two}
use Rattle.bc_rules_defs.specs.Rules.{end_with}
use Rattle.bc_select_defs.specs.Readings.{readings, readings_of_all}
use Rattle.bc_select.specs.Ends.{EndsAt}
use Rattle.bc_select.specs.Waiting.{Added}
use Rattle.bc_select.specs.Vector.{before_all, vector}
use Rattle.bc_select.proofs.Bounds.{count_of_args}
use Rattle.bc_select.proofs.Ends.{last_part}
use Rattle.bc_select.proofs.Laid.{on_ok}
use Rattle.bc_select.proofs.Waits.{added_end}
use Rattle.bc_select.proofs.Wholes.{args_count}
use Rattle.bc_select.proofs.pending_parts.call_read.Goals as goal

pub all_read-requires-clause-nodes : goal.all_read-requires-clause-nodes
all_read-requires-clause-nodes c =
    let es = c.args.arguments.now in let f = exp c.args.routine.now in let level = c.args.place.level in
    c.start.ensures (before_all (args es) (level + 2)) f (level + 2 + count (args es)) c.requires.nodes

pub wait-requires : goal.wait-requires
wait-requires c =
    let es = c.args.arguments.now in let f = exp c.args.routine.now in let level = c.args.place.level in
    let k : EndsAt c.args.nodes.now c.args.place.end (before_all (args es) (level + 2) ++ vector f (level + 2 + length es)) = subst (λ m. EndsAt c.args.nodes.now c.args.place.end (before_all (args es) (level + 2) ++ vector f (level + 2 + m))) (args_count es) c.requires.nodes in
    let few = count_of_args (args es) in let same = args_count es in
    record { fits = omega arith; nodes = last_part _ _ _ _ k }

pub returns : goal.returns
returns c =
    let es = c.args.arguments.now in let f = exp c.args.routine.now in let level = c.args.place.level in
    let is : end_with (readings_of_all Two (args es) (level + 2)) (readings Two f (level + 2 + length es)).any ≡ end_with (readings_of_all Two (args es) (level + 2)) (readings Two f (level + 2 + count (args es))).any =
    ap (λ m. end_with (readings_of_all Two (args es) (level + 2)) (readings Two f (level + 2 + m)).any) (sym (args_count es)) in
    on_ok c.wait.result _ _ (λ h. subst (λ x. Added c.args.nodes.now c.args.waiting.now.items c.wait.new.waiting.items x) is (added_end _ _ _ _ _ _ c.in_ok-all_read.ensures h)) c.wait.ensures
