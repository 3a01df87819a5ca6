-- For proofs: what one call appends to the code.
use Rattle.std.specs.Prelude.{◌≡◌, ℕ, ◌<◌, ◌++◌, List, Result, Ok, Err}
use Rattle.bc_gen_defs.specs.Emit.{Code}
use Rattle.bc_gen_defs.specs.Entries.{Marked}
use Rattle.bc_gen.specs.declared.gen_error.GenError.{GenError}
use Rattle.bc_gen.specs.declared.gen_error.GenError.TheVariants as errors
use Rattle.bc_gen.specs.declared.writer.Writer.{Writer}
use Rattle.bc_gen.specs.Parts.{parts}

-- if the error says that labels ran out, then the next label is over 20,001
abbrev pub RunsOut : GenError → ℕ → Type 0
RunsOut errors.TooManyLabels next = 20001 < next
RunsOut errors.Memory next = Unit {0}

-- The call appended this code, and the next free label is the one after it; or it failed, because labels ran out in it or memory did.
abbrev pub Writes : {X : Type 0} → Result X GenError → Writer → Writer → Code Marked → Type 0
Writes (Ok x) before after code = (parts after.parts.items ≡ parts before.parts.items ++ code.0) × (after.next ≡ code.1)
Writes (Err e) before after code = RunsOut e code.1

-- The call appended these items and took no label, unless memory ran out.
abbrev pub Puts : {X : Type 0} → Result X GenError → Writer → Writer → List Marked → Type 0
Puts (Ok x) before after ps = (parts after.parts.items ≡ parts before.parts.items ++ ps) × (after.next ≡ before.next)
Puts (Err e) before after ps = e ≡ errors.Memory
