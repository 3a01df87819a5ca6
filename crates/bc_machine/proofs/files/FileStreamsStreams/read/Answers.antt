use Rattle.std.proofs.Common.{arith, ◌≤◌, ◌-◌, length, map, ap}
use Rattle.bc_machine_defs.specs.StreamCalls.{after_read}
use Rattle.bc_machine.specs.FileContent.{file_content, file_input, file_outputs}
use Rattle.bc_machine.proofs.Tables.{content, reads, reads_on}
use Rattle.bc_machine.proofs.FileOutputs.{known_at, known_after}
use Rattle.bc_machine.proofs.FileSteps.{same_told}
use Rattle.bc_machine.proofs.Held.{held}
use Rattle.bc_machine_defs.proofs.Bytes.{read_keeps}
use Rattle.bc_machine.proofs.files.FileStreamsStreams.read.Goals as goal

pub returns-in-Ok-clause-byte : goal.returns-in-Ok-clause-byte
returns-in-Ok-clause-byte g c = λ known.
    let f = c.args.self.now in
    let within : f.input ≤ length f.inputs.items = omega (arith, f.input_exists, f.inputs.ok.0) in
    let told = known_at (λ i. g.R.Read.remaining i.reader) f.inputs.items f.input c.index_mut-input.result.now (omega arith) within c.index_mut-input.ensures.value known.0.0 in
    reads (file_input g.R.Read.remaining) f.inputs.items (file_outputs f.outputs.items (map g.W.Write.contents f.writers.items)) f.input f.output
    c.index_mut-input.result.now (omega arith) within c.index_mut-input.ensures.value c.in-Ok.byte (c.in-Ok.ensures.byte told)

pub returns-in-Ok-clause-ok : goal.returns-in-Ok-clause-ok
returns-in-Ok-clause-ok g c = λ known.
    let f = c.args.self.now in
    let within : f.input ≤ length f.inputs.items = omega (arith, f.input_exists, f.inputs.ok.0) in
    let told = known_at (λ i. g.R.Read.remaining i.reader) f.inputs.items f.input c.index_mut-input.result.now (omega arith) within c.index_mut-input.ensures.value known.0.0 in
    reads_on (file_input g.R.Read.remaining) f.inputs.items (file_outputs f.outputs.items (map g.W.Write.contents f.writers.items)) f.input f.output
    c.index_mut-input.result.now (omega arith) within c.index_mut-input.ensures.value c.next_byte.new.self (c.in-Ok.ensures.ok told)

pub returns-in-Ok-clause-known : goal.returns-in-Ok-clause-known
returns-in-Ok-clause-known g c = λ known.
    let f = c.args.self.now in
    let within : f.input ≤ length f.inputs.items = omega (arith, f.input_exists, f.inputs.ok.0) in
    let told = known_at (λ i. g.R.Read.remaining i.reader) f.inputs.items f.input c.index_mut-input.result.now (omega arith) within c.index_mut-input.ensures.value known.0.0 in
    let old = file_content g.R.Read.remaining g.W.Write.contents f in
    ((known_after (λ i. g.R.Read.remaining i.reader) f.inputs.items f.input c.index_mut-input.result.now (omega arith) within c.index_mut-input.ensures.value c.next_byte.new.self known.0.0 (c.in-Ok.ensures.known told), known.0.1), held _ (after_read old) (returns-in-Ok-clause-ok g c known) (read_keeps old known.1))

pub returns-in-Err-clause-err : goal.returns-in-Err-clause-err
returns-in-Err-clause-err g c = λ known.
    let f = c.args.self.now in
    let within : f.input ≤ length f.inputs.items = omega (arith, f.input_exists, f.inputs.ok.0) in
    let told = known_at (λ i. g.R.Read.remaining i.reader) f.inputs.items f.input c.index_mut-input.result.now (omega arith) within c.index_mut-input.ensures.value known.0.0 in
    ap (λ inputs. content inputs (file_outputs f.outputs.items (map g.W.Write.contents f.writers.items)) f.input f.output)
    (same_told (file_input g.R.Read.remaining) f.inputs.items (f.input - 1) c.index_mut-input.result.now c.next_byte.new.self c.index_mut-input.ensures.value (c.in-Err.ensures.err told))

pub returns-in-Err-clause-known : goal.returns-in-Err-clause-known
returns-in-Err-clause-known g c = λ known.
    let f = c.args.self.now in
    let within : f.input ≤ length f.inputs.items = omega (arith, f.input_exists, f.inputs.ok.0) in
    let told = known_at (λ i. g.R.Read.remaining i.reader) f.inputs.items f.input c.index_mut-input.result.now (omega arith) within c.index_mut-input.ensures.value known.0.0 in
    let old = file_content g.R.Read.remaining g.W.Write.contents f in
    ((known_after (λ i. g.R.Read.remaining i.reader) f.inputs.items f.input c.index_mut-input.result.now (omega arith) within c.index_mut-input.ensures.value c.next_byte.new.self known.0.0 (c.in-Err.ensures.known told), known.0.1), held _ old (returns-in-Err-clause-err g c known) known.1)
