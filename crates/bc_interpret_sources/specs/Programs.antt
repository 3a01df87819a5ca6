-- What the interpreter promises of a program that was built: its meaning, and what its image does.
use Rattle.std.specs.Prelude.{ℕ, ◌≤◌, List, map}
use Rattle.bc_machine_defs.specs.Streams.{Content}
use Rattle.bc_machine_defs.specs.StreamCalls.{output_of}
use Rattle.bc_machine_defs.specs.declared.state.End.TheVariants as ends
use Rattle.bc_machine_defs.specs.declared.image.Image.{Image}
use Rattle.bc_lex.specs.Files.{File, files_of}
use Rattle.bc_parse_tree.specs.Tree.{Declarations}
use Rattle.bc_core.specs.Same.{IsAt, end_of}
use Rattle.bc_build.specs.Parsed.{AreParsed}
use Rattle.bc_scope_defs.specs.Translation.{core_of}
use Rattle.bc_build.specs.Runs.{addresses, meant, started, RunsAsMeant}
use Rattle.bc_interpret_steps.specs.Endings.{ending}
use Rattle.bc_interpret.specs.declared.run.Interpreted.{Interpreted}
use Rattle.bc_interpret.specs.declared.run.Outcome.{Outcome}
use Rattle.bc_interpret.specs.declared.run.Outcome.TheVariants as outcomes
use Rattle.bc_interpret.specs.Results.{IsResult}
use Rattle.bc_interpret.specs.Interpreted.{NamesFrom}
use Rattle.bc_interpret_sources.specs.declared.sources.BuiltProgram.{BuiltProgram}

-- the mains are these sections, and the image does what they mean, as the image that `build` returns does
pub record IsImageOf (files : List File) (mains : List ℕ) (image : Image) : Type 0 where
  pub sections : List Declarations
  pub parsed : AreParsed files mains sections
  pub runs : RunsAsMeant sections image

-- The machine, started from the image, agrees: after some number of instructions it has this ending and this output. If all turns were
-- taken, it is still running after at least as many instructions as turns, and has this output.
abbrev pub RunsTo : Image → (turns : ℕ) → (before : Content) → Outcome → (after : Content) → Type 0
RunsTo image turns before (outcomes.Ended e) after = (m : ℕ) × IsAt (started image before) m (end_of (ending e)) (output_of after)
RunsTo image turns before outcomes.Going after = (m : ℕ) × (turns ≤ m) × IsAt (started image before) m ends.BudgetSpent (output_of after)
RunsTo image turns before (outcomes.Wild cause) after = Unit {0}
RunsTo image turns before outcomes.Device after = Unit {0}

-- Over streams whose content is known: the outcome and the output are what the mains' sections mean, or a device failed.
abbrev pub MeansOn : {T : Type 0} → (T → Type 0) → (T → Content) → BuiltProgram → (turns : ℕ) → T → T → Outcome → Type 0
MeansOn known content program turns streams streams_new outcome =
    (sections : List Declarations) → AreParsed (files_of program.sources.now) program.mains.now sections → known streams
    → IsResult (meant sections program.image.now (content streams) turns) outcome (content streams_new)

-- If a wild access is reported: from the start of the run of the resolved sections, the machine of bc_interpret_defs reaches a step that
-- is wild with that cause, and the trail shows the calls that are open during that step.
abbrev pub NamesOn : {T : Type 0} → (T → Type 0) → (T → Content) → BuiltProgram → (turns : ℕ) → T → Interpreted → Type 0
NamesOn known content program turns streams i =
    (sections : List Declarations) → AreParsed (files_of program.sources.now) program.mains.now sections → known streams
    → NamesFrom (map core_of sections) (addresses program.image.now) (content streams) turns i

-- over streams whose content is known, the machine, started from the image, agrees
abbrev pub RunsOn : {T : Type 0} → (T → Type 0) → (T → Content) → BuiltProgram → (turns : ℕ) → T → T → Outcome → Type 0
RunsOn known content program turns streams streams_new outcome =
    known streams → RunsTo program.image.now turns (content streams) outcome (content streams_new)
