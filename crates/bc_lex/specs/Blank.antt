-- For proofs: the blanks, line breaks and comments at the start of a list of bytes, as the code reads them.
use Rattle.std.specs.Prelude.{ℕ, zero, suc, ◌+◌, Bool, false, not, ◌==◌, ◌&&◌, List, [], ◌∷◌, length, drop, Option, Some, None, option_map, Result, Ok, Err, if◌then◌else◌}
use Rattle.std.specs.List.{prefix_len}
use Rattle.bc_lex.specs.declared.fault.Fault.{Fault}
use Rattle.bc_lex.specs.declared.fault.FaultKind.TheVariants as faults
use Rattle.bc_lex.specs.Bytes.{is_space}
use Rattle.bc_lex.specs.Gaps.{begins, opens_line, opens_block}
use Rattle.bc_lex.specs.Reading.{fault_at}

-- whether a list begins with the end of a block comment
abbrev pub ends_comment : List ℕ → Bool
ends_comment [] = false
ends_comment (b ∷ bs) = (b == 42) && begins 47 bs

-- the number of bytes up to the end of an open block comment, of which `at` bytes are already read
abbrev pub closing_from : ℕ → List ℕ → Option ℕ
closing_from at [] = None
closing_from at (b ∷ bs) = if ends_comment (b ∷ bs) then Some (at + 2) else closing_from (at + 1) bs

-- the number of bytes before a line break
abbrev pub line_of : List ℕ → ℕ
line_of = prefix_len (λ b. not (b == 10))

-- the number of bytes of the blank, line break or comment at the start
abbrev pub blank_of : List ℕ → Option ℕ
blank_of [] = Some 0
blank_of (b ∷ bs) =
    if opens_line (b ∷ bs) then Some (2 + line_of (drop 1 bs))
    else (if opens_block (b ∷ bs) then option_map (λ n. 2 + n) (closing_from 0 (drop 1 bs))
    else (if is_space b then Some 1 else Some 0))

-- one iteration after `at` bytes, by what is at the start of the rest
abbrev pub gap_on : (ℕ → List ℕ → Result ℕ Fault) → ℕ → List ℕ → Option ℕ → Result ℕ Fault
gap_on again at bs None = Err (fault_at faults.Unterminated at)
gap_on again at bs (Some n) = if n == 0 then Ok at else again (at + n) (drop n bs)

-- at most so many iterations
abbrev pub gap_from : ℕ → ℕ → List ℕ → Result ℕ Fault
gap_from zero at bs = Ok at
gap_from (suc k) at bs = gap_on (gap_from k) at bs (blank_of bs)

-- the number of bytes of blanks, line breaks and comments at the start
unfoldable pub gap_of : List ℕ → Result ℕ Fault
gap_of bs = gap_from (length bs) 0 bs
