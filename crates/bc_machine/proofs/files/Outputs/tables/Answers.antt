use Rattle.std.proofs.Common.{◌≡◌, ◌++◌, ◌∷◌, [], false, length, map, refl, sym, ap, ◌∙◌}
use Rattle.std.proofs.lemmas.List.{map-append, length-map}
use Rattle.bc_machine.specs.FileContent.{told}
use Rattle.bc_machine.proofs.FileOutputs.{file_outputs-append}
use Rattle.bc_machine.proofs.files.Outputs.tables.Goals as goal

pub loop-output-preserved : goal.loop-output-preserved
loop-output-preserved g c =
    let contents = g.W.Write.contents in
    let names = c.loop-output.names in
    let writers = c.loop-output.writers in
    let w = c.in-Some.output.device in
    let same_length : length names.items ≡ length (map contents writers.items) =
    sym names.ok.0 ∙ sym c.loop-output.invariant.same_length ∙ writers.ok.0 ∙ sym (length-map writers.items contents) in
    record {
      content =
          rw (c.in_ok-push.ensures.items, c.in_ok-push-2.ensures.items, map-append contents writers.items (w ∷ []))
          (file_outputs-append names.items (map contents writers.items) (record { name = c.in-Some.output.name; ended = false }) (contents w) same_length
          ∙ ap (λ os. os ++ record { name = c.in-Some.output.name.items; written = told (contents w); ended = false } ∷ []) c.loop-output.invariant.content
          ∙ sym (map-append _ c.loop-output.yielded (c.in-Some.output ∷ [])));
      writers = rw (c.in_ok-push-2.ensures.items, c.loop-output.invariant.writers) (sym (map-append _ c.loop-output.yielded (c.in-Some.output ∷ [])));
      same_length = rw (c.in_ok-push.ensures.len, c.in_ok-push-2.ensures.len, c.loop-output.invariant.same_length) refl;
    }
