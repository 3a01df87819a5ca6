use Rattle.std.proofs.Common.{rules, arith}
use Rattle.bc_core.specs.View.{exp, args}
use Rattle.bc_select.proofs.Bounds.{some_node, count_of_args}
use Rattle.bc_select.proofs.Wholes.{args_count}
use Rattle.bc_cert_write.proofs.Steps.{arguments_more, nodes_more, on_ok, routine_after}
use Rattle.bc_cert_write.proofs.walk.+walking.Goals as goal

pub all-loop-i-preserved : goal.all-loop-i-preserved
all-loop-i-preserved t c =
    let es = c.args.arguments.now in let e = c.index-arguments-i.result in let i = c.loop-i.i in
    let n = nodes_more es i e c.loop-i-test.true c.index-arguments-i.is in
    let k = some_node (exp e) in
    record {
      so_far = arguments_more _ _ _ es c.args.trees.now c.args.level i e _ c.loop-i-test.true c.index-arguments-i.is c.at.ensures c.in_ok-lay.ensures c.loop-i.invariant.so_far;
      room = omega arith;
      fewer = omega arith;
    }

pub call-lay-requires : goal.call-lay-requires
call-lay-requires t c = (search rules, omega (arith, count_of_args (args c.args.arguments.now), args_count c.args.arguments.now))

pub call-returns : goal.call-returns
call-returns t c =
    on_ok c.lay.result (λ h. routine_after c.args.marks.now.items c.all.new.marks.items c.lay.new.marks.items c.args.arguments.now (exp c.args.routine.now) c.args.level c.args.trees.now _ c.in_ok-all.ensures c.at.ensures h) c.lay.ensures
