use Rattle.std.proofs.Common.{◌≡◌, ◌∙◌, ap, sym, subst, refl, None, Option}
use Rattle.bc_link.specs.Linked.{image_of}
use Rattle.bc_link.specs.Refusals.{refusal_of}
use Rattle.bc_machine.specs.Ran.{Ran, RanFrom, held_state}
use Rattle.bc_machine_defs.specs.State.{State, start}
use Rattle.bc_machine_defs.specs.declared.state.End.{End}
use Rattle.bc_run.specs.Runs.{with_primitives}
use Rattle.bc_run.proofs.running.run_text.Goals as goal

pub returns-clause-run : goal.returns-clause-run
returns-clause-run g c =
    let segments = c.in_ok-read_text.field-0.items in
    let all : c.as_slice.result.now ≡ with_primitives segments = c.as_slice.ensures.value ∙ c.in_ok-segments.ensures in
    let image : c.in_ok-image.image ≡ image_of (with_primitives segments) = c.in_ok-image.ensures.image ∙ ap image_of all in
    let old = g.S.Streams.content c.args.streams.now in
    let new = g.S.Streams.content c.run.new.streams in
    let begun : held_state c.in_ok-machine.machine old ≡ start (image_of (with_primitives segments)).words (image_of (with_primitives segments)).stack_base old = c.in_ok-machine.ensures.start old ∙ ap (λ i. start i.words i.stack_base old) image in
    let told = g.S.Streams.known c.args.streams.now in
    let tells = g.S.Streams.known c.run.new.streams in
    let before = g.S.Streams.failures c.args.streams.now in
    let after = g.S.Streams.failures c.run.new.streams in
    let last = held_state c.run.new.self new in
    let ran : RanFrom None told tells c.args.steps (held_state c.in_ok-machine.machine old) last c.run.result before after =
    subst (λ (e : Option End). RanFrom e told tells c.args.steps (held_state c.in_ok-machine.machine old) last c.run.result before after) c.in_ok-machine.ensures.running c.run.ensures.run in
    (segments, last, c.in_ok-read_text.ensures.read, sym (ap refusal_of all) ∙ c.in_ok-image.ensures.accepted, refl, subst (λ (s : State). Ran told tells c.args.steps s last c.run.result before after) begun ran)
