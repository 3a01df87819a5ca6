use Rattle.std.proofs.Common.{◌≡◌, length, map, refl, sym, ap, ◌∙◌}
use Rattle.std.proofs.lemmas.List.{length-map}
use Rattle.std.specs.List.{position_from}
use Rattle.std.specs.Str.{bytes_eq}
use Rattle.bc_machine_defs.specs.StreamCalls.{number_or_none}
use Rattle.bc_machine.specs.FileContent.{file_input}
use Rattle.bc_machine.proofs.Tables.{names_of_inputs}
use Rattle.bc_machine.proofs.FileOutputs.{names_of_outputs}
use Rattle.bc_machine.proofs.files.FileStreamsStreams.find.Goals as goal

pub returns-in-Input : goal.returns-in-Input
returns-in-Input g c = λ known.
    rw (c.in-Input.is, c.number_of.ensures, c.as_slice.ensures.value)
    (ap (λ names. number_or_none (position_from (λ known. bytes_eq known c.args.name.now) 1 names))
    (sym (names_of_inputs (file_input g.R.Read.remaining) (λ i. i.name.items) (λ x. refl) c.args.self.now.inputs.items)))

pub returns-in-Output : goal.returns-in-Output
returns-in-Output g c = λ known.
    let f = c.args.self.now in
    let same_length : length f.outputs.items ≡ length (map g.W.Write.contents f.writers.items) =
    sym f.outputs.ok.0 ∙ sym f.same_length ∙ f.writers.ok.0 ∙ sym (length-map f.writers.items g.W.Write.contents) in
    rw (c.in-Output.is, c.number_of-in-Output.ensures, c.as_slice-in-Output.ensures.value)
    (ap (λ names. number_or_none (position_from (λ known. bytes_eq known c.args.name.now) 1 names))
    (sym (names_of_outputs f.outputs.items (map g.W.Write.contents f.writers.items) same_length)))
