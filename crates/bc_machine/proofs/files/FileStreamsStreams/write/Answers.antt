use Rattle.std.proofs.Common.{arith, ◌≤◌, ◌≡◌, ◌-◌, length, map, ap, sym, ◌∙◌, subst}
use Rattle.std.specs.Prelude.{IsSome}
use Rattle.bc_machine_defs.specs.StreamCalls.{after_write}
use Rattle.bc_machine.specs.FileContent.{file_content, file_input, file_outputs}
use Rattle.bc_machine.proofs.Tables.{content}
use Rattle.bc_machine.proofs.FileSteps.{dropped, writes, is_known, stay_known, appends_told, appends_known, keeps_same, same_told}
use Rattle.bc_machine.proofs.Held.{held}
use Rattle.bc_machine_defs.proofs.Bytes.{write_keeps}
use Rattle.bc_machine.proofs.files.FileStreamsStreams.write.Goals as goal

pub returns-then-index-clause-ok : goal.returns-then-index-clause-ok
returns-then-index-clause-ok g c = λ known.
    let f = c.args.self.now in
    let within : f.output ≤ length f.outputs.items = omega (arith, f.output_exists, f.outputs.ok.0) in
    let same_length : length f.writers.items ≡ length f.outputs.items = sym f.writers.ok.0 ∙ f.same_length ∙ f.outputs.ok.0 in
    dropped g.W.Write.contents (map (file_input g.R.Read.remaining) f.inputs.items) f.outputs.items f.writers.items f.input f.output c.index.result.now
    (omega arith) within same_length c.index.ensures c.args.byte c.if-index.true

pub returns-in-Ok-clause-ok : goal.returns-in-Ok-clause-ok
returns-in-Ok-clause-ok g c = λ known.
    let f = c.args.self.now in
    let w = c.index_mut-writer.result.now in
    let v = c.write_byte.new.writer in
    let inputs = map (file_input g.R.Read.remaining) f.inputs.items in
    let within : f.output ≤ length f.outputs.items = omega (arith, f.output_exists, f.outputs.ok.0) in
    let same_length : length f.writers.items ≡ length f.outputs.items = sym f.writers.ok.0 ∙ f.same_length ∙ f.outputs.ok.0 in
    let told = is_known g.W.Write.contents inputs f.outputs.items f.writers.items f.input f.output c.index.result.now (omega arith) within same_length c.index.ensures w v c.index_mut-writer.ensures.value known.0.1 in
    writes g.W.Write.contents inputs f.outputs.items f.writers.items f.input f.output c.index.result.now (omega arith) within same_length c.index.ensures w v c.index_mut-writer.ensures.value c.args.byte c.if-index.false
    (appends_told (g.W.Write.contents w) (g.W.Write.contents v) _ c.in-Ok.ensures.ok told)

pub returns-in-Ok-clause-known : goal.returns-in-Ok-clause-known
returns-in-Ok-clause-known g c = λ known.
    let f = c.args.self.now in
    let w = c.index_mut-writer.result.now in
    let v = c.write_byte.new.writer in
    let inputs = map (file_input g.R.Read.remaining) f.inputs.items in
    let within : f.output ≤ length f.outputs.items = omega (arith, f.output_exists, f.outputs.ok.0) in
    let same_length : length f.writers.items ≡ length f.outputs.items = sym f.writers.ok.0 ∙ f.same_length ∙ f.outputs.ok.0 in
    let told = is_known g.W.Write.contents inputs f.outputs.items f.writers.items f.input f.output c.index.result.now (omega arith) within same_length c.index.ensures w v c.index_mut-writer.ensures.value known.0.1 in
    let old = file_content g.R.Read.remaining g.W.Write.contents f in
    ((known.0.0, stay_known g.W.Write.contents inputs f.outputs.items f.writers.items f.input f.output c.index.result.now (omega arith) within same_length c.index.ensures w v c.index_mut-writer.ensures.value known.0.1 (appends_known (g.W.Write.contents w) (g.W.Write.contents v) _ c.in-Ok.ensures.ok told)), held _ (after_write c.args.byte old) (returns-in-Ok-clause-ok g c known) (write_keeps c.args.byte old known.1))

pub returns-in-Err-clause-err : goal.returns-in-Err-clause-err
returns-in-Err-clause-err g c = λ known.
    let f = c.args.self.now in
    let w = c.index_mut-writer.result.now in
    let v = c.write_byte.new.writer in
    let inputs = map (file_input g.R.Read.remaining) f.inputs.items in
    let within : f.output ≤ length f.outputs.items = omega (arith, f.output_exists, f.outputs.ok.0) in
    let same_length : length f.writers.items ≡ length f.outputs.items = sym f.writers.ok.0 ∙ f.same_length ∙ f.outputs.ok.0 in
    let told = is_known g.W.Write.contents inputs f.outputs.items f.writers.items f.input f.output c.index.result.now (omega arith) within same_length c.index.ensures w v c.index_mut-writer.ensures.value known.0.1 in
    let same = keeps_same (g.W.Write.contents w) (g.W.Write.contents v) c.in-Err.ensures.err told in
    ap (λ all. content inputs (file_outputs f.outputs.items all) f.input f.output)
    (same_told g.W.Write.contents f.writers.items (f.output - 1) w v c.index_mut-writer.ensures.value same)

pub returns-in-Err-clause-known : goal.returns-in-Err-clause-known
returns-in-Err-clause-known g c = λ known.
    let f = c.args.self.now in
    let w = c.index_mut-writer.result.now in
    let v = c.write_byte.new.writer in
    let inputs = map (file_input g.R.Read.remaining) f.inputs.items in
    let within : f.output ≤ length f.outputs.items = omega (arith, f.output_exists, f.outputs.ok.0) in
    let same_length : length f.writers.items ≡ length f.outputs.items = sym f.writers.ok.0 ∙ f.same_length ∙ f.outputs.ok.0 in
    let told = is_known g.W.Write.contents inputs f.outputs.items f.writers.items f.input f.output c.index.result.now (omega arith) within same_length c.index.ensures w v c.index_mut-writer.ensures.value known.0.1 in
    let same = keeps_same (g.W.Write.contents w) (g.W.Write.contents v) c.in-Err.ensures.err told in
    let old = file_content g.R.Read.remaining g.W.Write.contents f in
    ((known.0.0, stay_known g.W.Write.contents inputs f.outputs.items f.writers.items f.input f.output c.index.result.now (omega arith) within same_length c.index.ensures w v c.index_mut-writer.ensures.value known.0.1 (subst IsSome (sym same) told)), held _ old (returns-in-Err-clause-err g c known) known.1)
