use Rattle.std.proofs.Common.{subst, None, Option}
use Rattle.bc_machine.specs.Ran.{Ran, RanFrom, held_state}
use Rattle.bc_machine_defs.specs.State.{State}
use Rattle.bc_machine_defs.specs.declared.state.End.{End}
use Rattle.bcpl_trace.proofs.image_run.run_image.Goals as goal

-- The machine has not ended before, so its run is one from its state, which is the start of the image.
pub returns : goal.returns
returns g c =
    let old = g.S.Streams.content c.args.streams.now in
    let new = g.S.Streams.content c.run-end.new.streams in
    let told = g.S.Streams.known c.args.streams.now in
    let tells = g.S.Streams.known c.run-end.new.streams in
    let before = g.S.Streams.failures c.args.streams.now in
    let after = g.S.Streams.failures c.run-end.new.streams in
    let last = held_state c.run-end.new.self new in
    let ran : RanFrom None told tells c.args.steps (held_state c.in_ok-machine.machine old) last c.run-end.result before after =
    subst (λ (e : Option End). RanFrom e told tells c.args.steps (held_state c.in_ok-machine.machine old) last c.run-end.result before after) c.in_ok-machine.ensures.running c.run-end.ensures.run in
    subst (λ (s : State). Ran told tells c.args.steps s last c.run-end.result before after) (c.in_ok-machine.ensures.start old) ran
