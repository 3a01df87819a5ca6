use Rattle.std.proofs.Common.{Some, None, map, sym, ap, ◌∙◌, subst}
use Rattle.bc_machine_defs.specs.Streams.{HoldBytes}
use Rattle.bc_machine.specs.Known.{AllKnown}
use Rattle.bc_machine.specs.Names.{given_names}
use Rattle.bc_machine.specs.Refusal.{refusal_in}
use Rattle.bc_machine.proofs.Refusals.{refusal_of-second}
use Rattle.bc_machine.proofs.FileSteps.{told_of_devices}
use Rattle.bc_machine.proofs.files.FileStreams.new.Goals as goal

pub returns-in-Some-refusal-clause-refused : goal.returns-in-Some-refusal-clause-refused
returns-in-Some-refusal-clause-refused g c = λ other.
    refusal_of-second (given_names c.args.inputs.items) (given_names c.args.outputs.items) (Some c.in-Some-refusal.fault)
    (ap (λ xs. refusal_in (given_names xs)) (sym c.as_slice.ensures.value) ∙ sym c.refusal.ensures ∙ c.in_default.is)
    (ap (λ xs. refusal_in (given_names xs)) (sym c.as_slice-2.ensures.value) ∙ sym c.refusal-2.ensures ∙ c.in-Some-refusal.is)

pub returns-clause-accepted : goal.returns-clause-accepted
returns-clause-accepted g c =
    refusal_of-second (given_names c.args.inputs.items) (given_names c.args.outputs.items) None
    (ap (λ xs. refusal_in (given_names xs)) (sym c.as_slice.ensures.value) ∙ sym c.refusal.ensures ∙ c.in_default.is)
    (ap (λ xs. refusal_in (given_names xs)) (sym c.as_slice-2.ensures.value) ∙ sym c.refusal-2.ensures ∙ c.in_default-refusal.is)

pub returns-clause-told : goal.returns-clause-told
returns-clause-told g c = λ readers writers. (
  subst AllKnown (sym c.in_ok-inputs.ensures.told) readers,
  subst AllKnown (sym (ap (map g.W.Write.contents) c.in_ok-names.ensures.writers ∙ told_of_devices g.W.Write.contents c.args.outputs.items)) writers,
)

pub returns-clause-known : goal.returns-clause-known
returns-clause-known g c = λ readers bytes writers. (returns-clause-told g c readers writers, subst HoldBytes (sym c.in_ok-inputs.ensures.content) bytes)
