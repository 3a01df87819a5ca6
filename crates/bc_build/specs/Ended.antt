-- How a run of the machine from an image ends, compared with the meaning of its sections.
use Rattle.std.specs.Prelude.{ℕ, ◌≡◌, ◌⊎◌, suc, List}
use Rattle.bc_machine_defs.specs.Streams.{Content}
use Rattle.bc_machine_defs.specs.StreamCalls.{output_of}
use Rattle.bc_machine_defs.specs.declared.state.End.{End}
use Rattle.bc_machine_defs.specs.declared.state.End.TheVariants as ends
use Rattle.bc_machine_defs.specs.declared.image.Image.{Image}
use Rattle.bc_parse_tree.specs.Tree.{Declarations}
use Rattle.bc_core.specs.Outcome.{Ending, Finished, ZeroDivide}
use Rattle.bc_core.specs.Meaning.{Result, Ended, Wild}
use Rattle.bc_build.specs.Runs.{meant}

-- The meaning has this ending and this output, or it is wild.
abbrev pub IsEnding : Result → List (List ℕ) → Ending → Type 0
IsEnding result output ending = (result ≡ Ended output ending) ⊎ (result ≡ Wild)

-- A run of at most n instructions from the image had this end, and left the streams `after`. It is compared with the meaning in n + 1
-- turns. If the run finished or met a zero divisor, the meaning has the same ending and output, or is wild. If it met an invalid
-- instruction, the meaning is wild. If it was cut off or stopped by a device, nothing is claimed.
abbrev pub EndsAsMeant : List Declarations → Image → (before : Content) → (n : ℕ) → (after : Content) → End → Type 0
EndsAsMeant sections image before n after ends.Finished = IsEnding (meant sections image before (suc n)) (output_of after) Finished
EndsAsMeant sections image before n after ends.ZeroDivide = IsEnding (meant sections image before (suc n)) (output_of after) ZeroDivide
EndsAsMeant sections image before n after (ends.BadInstruction code) = meant sections image before (suc n) ≡ Wild
EndsAsMeant sections image before n after ends.BudgetSpent = Unit {0}
EndsAsMeant sections image before n after ends.Device = Unit {0}
