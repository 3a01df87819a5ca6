-- For proofs: positions as they are read off the continuations, from the innermost on.
use Rattle.std.specs.Prelude.{ℕ, Option, Some, None}
use Rattle.std.specs.Io.Iter.{u64_saturate}
use Rattle.bc_interpret_defs.specs.Trails.{before}
use Rattle.bc_interpret_defs.specs.Trails as trails
use Rattle.bc_interpret_trace.specs.declared.position.Position.{Position}

-- a position as the program has it: the number of roots is saturated
abbrev pub saturated : trails.Position → Position
saturated p = record { valof = p.valof; following = u64_saturate p.following }

-- So many roots follow by the inner continuations. If one of them is the outermost one of the body of a VALOF, those further out tell
-- nothing about a position in it.
abbrev pub within : (valof : Option ℕ) → (following : ℕ) → (outer : trails.Position) → trails.Position
within (Some n) following outer = record { valof = Some n; following = following }
within None following outer = before following outer

-- the position by some continuations that tell p, and then those that tell the outer one
abbrev pub joined : (p outer : trails.Position) → trails.Position
joined p outer = within p.valof p.following outer
