use Rattle.std.proofs.Common.{arith, ◌≤◌, ◌≡◌, ◌-◌, true, length, map, ap, sym, ◌∙◌, refl, subst}
use Rattle.std.specs.Prelude.{IsSome}
use Rattle.bc_machine_defs.specs.StreamCalls.{end_stream}
use Rattle.bc_machine.specs.FileContent.{file_content, file_input, file_outputs}
use Rattle.bc_machine.proofs.Tables.{content, ends_input}
use Rattle.bc_machine.proofs.FileOutputs.{known_at, known_after}
use Rattle.bc_machine.proofs.FileSteps.{ends_output, keeps_same, same_told}
use Rattle.bc_machine.proofs.Held.{held}
use Rattle.bc_machine_defs.proofs.Bytes.{end_keeps}
use Rattle.bc_machine.proofs.files.FileStreamsStreams.end.Goals as goal

pub returns-then-self-gt0-clause-ok : goal.returns-then-self-gt0-clause-ok
returns-then-self-gt0-clause-ok g c = λ known.
    let f = c.args.self.now in
    let within : f.input ≤ length f.inputs.items = omega (arith, f.input_exists, f.inputs.ok.0) in
    rw c.in-Input.is (
    ends_input (file_input g.R.Read.remaining) f.inputs.items (file_outputs f.outputs.items (map g.W.Write.contents f.writers.items)) f.input f.output
    c.index_mut-input.result.now (omega arith) within c.index_mut-input.ensures.value (record c.index_mut-input.result.now { ended = true }) refl)

pub returns-then-self-gt0-clause-known : goal.returns-then-self-gt0-clause-known
returns-then-self-gt0-clause-known g c = λ known.
    let f = c.args.self.now in
    let x = c.index_mut-input.result.now in
    let within : f.input ≤ length f.inputs.items = omega (arith, f.input_exists, f.inputs.ok.0) in
    let told = known_at (λ i. g.R.Read.remaining i.reader) f.inputs.items f.input x (omega arith) within c.index_mut-input.ensures.value known.0.0 in
    let old = file_content g.R.Read.remaining g.W.Write.contents f in
    ((known_after (λ i. g.R.Read.remaining i.reader) f.inputs.items f.input x (omega arith) within c.index_mut-input.ensures.value (record x { ended = true }) known.0.0 told, known.0.1), held _ (end_stream c.args.side old) (returns-then-self-gt0-clause-ok g c known) (end_keeps c.args.side old known.1))

pub returns-in-Err-clause-err : goal.returns-in-Err-clause-err
returns-in-Err-clause-err g c = λ known.
    let f = c.args.self.now in
    let w = c.index_mut-writer.result.now in
    let v = c.flush.new.writer in
    let inputs = map (file_input g.R.Read.remaining) f.inputs.items in
    let within : f.output ≤ length f.writers.items = omega (arith, f.output_exists, f.same_length, f.writers.ok.0) in
    let told = known_at g.W.Write.contents f.writers.items f.output w (omega arith) within c.index_mut-writer.ensures.value known.0.1 in
    let same = keeps_same (g.W.Write.contents w) (g.W.Write.contents v) c.flush.ensures told in
    ap (λ all. content inputs (file_outputs f.outputs.items all) f.input f.output)
    (same_told g.W.Write.contents f.writers.items (f.output - 1) w v c.index_mut-writer.ensures.value same)

pub returns-in-Err-clause-known : goal.returns-in-Err-clause-known
returns-in-Err-clause-known g c = λ known.
    let f = c.args.self.now in
    let w = c.index_mut-writer.result.now in
    let v = c.flush.new.writer in
    let inputs = map (file_input g.R.Read.remaining) f.inputs.items in
    let within : f.output ≤ length f.writers.items = omega (arith, f.output_exists, f.same_length, f.writers.ok.0) in
    let told = known_at g.W.Write.contents f.writers.items f.output w (omega arith) within c.index_mut-writer.ensures.value known.0.1 in
    let same = keeps_same (g.W.Write.contents w) (g.W.Write.contents v) c.flush.ensures told in
    let old = file_content g.R.Read.remaining g.W.Write.contents f in
    ((known.0.0, known_after g.W.Write.contents f.writers.items f.output w (omega arith) within c.index_mut-writer.ensures.value v known.0.1 (subst IsSome (sym same) told)), held _ old (returns-in-Err-clause-err g c known) known.1)

pub returns-in_default-clause-ok : goal.returns-in_default-clause-ok
returns-in_default-clause-ok g c = λ known.
    let f = c.args.self.now in
    let w = c.index_mut-writer.result.now in
    let v = c.flush.new.writer in
    let inputs = map (file_input g.R.Read.remaining) f.inputs.items in
    let within : f.output ≤ length f.writers.items = omega (arith, f.output_exists, f.same_length, f.writers.ok.0) in
    let told = known_at g.W.Write.contents f.writers.items f.output w (omega arith) within c.index_mut-writer.ensures.value known.0.1 in
    let same = keeps_same (g.W.Write.contents w) (g.W.Write.contents v) c.flush.ensures told in
    let o = c.index_mut-output.result.now in
    let there : f.output ≤ length f.outputs.items = omega (arith, f.output_exists, f.outputs.ok.0) in
    let same_length : length f.writers.items ≡ length f.outputs.items = sym f.writers.ok.0 ∙ f.same_length ∙ f.outputs.ok.0 in
    rw c.in-Output.is (
    ends_output g.W.Write.contents inputs f.outputs.items f.writers.items f.input f.output o (omega arith) there same_length c.index_mut-output.ensures.value
    w v c.index_mut-writer.ensures.value (record o { ended = true }) refl refl same)

pub returns-in_default-clause-known : goal.returns-in_default-clause-known
returns-in_default-clause-known g c = λ known.
    let f = c.args.self.now in
    let w = c.index_mut-writer.result.now in
    let v = c.flush.new.writer in
    let inputs = map (file_input g.R.Read.remaining) f.inputs.items in
    let within : f.output ≤ length f.writers.items = omega (arith, f.output_exists, f.same_length, f.writers.ok.0) in
    let told = known_at g.W.Write.contents f.writers.items f.output w (omega arith) within c.index_mut-writer.ensures.value known.0.1 in
    let same = keeps_same (g.W.Write.contents w) (g.W.Write.contents v) c.flush.ensures told in
    let old = file_content g.R.Read.remaining g.W.Write.contents f in
    ((known.0.0, known_after g.W.Write.contents f.writers.items f.output w (omega arith) within c.index_mut-writer.ensures.value v known.0.1 (subst IsSome (sym same) told)), held _ (end_stream c.args.side old) (returns-in_default-clause-ok g c known) (end_keeps c.args.side old known.1))
