use Rattle.std.proofs.Common.{◌≡◌, length, map, vec_len, refl, sym, ◌∙◌}
use Rattle.std.proofs.lemmas.List.{length-map}
use Rattle.bc_machine.specs.FileContent.{file_outputs}
use Rattle.bc_machine.proofs.FileOutputs.{length_outputs}
use Rattle.bc_machine.proofs.files.FileStreamsStreams.select.Goals as goal

pub returns-in-Output-clause-content : goal.returns-in-Output-clause-content
returns-in-Output-clause-content g c = λ known.
    let f = c.args.self.now in
    let same_length : length f.outputs.items ≡ length (map g.W.Write.contents f.writers.items) =
    sym f.outputs.ok.0 ∙ sym f.same_length ∙ f.writers.ok.0 ∙ sym (length-map f.writers.items g.W.Write.contents) in
    let long : length (file_outputs f.outputs.items (map g.W.Write.contents f.writers.items)) ≡ vec_len f.outputs =
    length_outputs f.outputs.items (map g.W.Write.contents f.writers.items) same_length ∙ sym f.outputs.ok.0 in
    rw (c.in-Output.is, c.chosen-self-in-Output.ensures.number, c.len-in-Output.ensures, long) refl
