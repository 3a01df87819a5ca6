-- For proofs: numbers, strings and character constants at the start of a list of bytes, as the code reads them.
use Rattle.std.specs.Prelude.{ℕ, zero, suc, ◌+◌, ◌*◌, ◌≤◌, ◌==◌, nat_lt, List, [], ◌∷◌, length, take, drop, Option, Some, None, is_some, unwrap_or, Result, Ok, Err, if◌then◌else◌}
use Rattle.std.specs.List.{prefix_len}
use Rattle.bc_lex.specs.declared.fault.Fault.{Fault}
use Rattle.bc_lex.specs.declared.fault.FaultKind.{FaultKind}
use Rattle.bc_lex.specs.declared.fault.FaultKind.TheVariants as faults
use Rattle.bc_lex.specs.declared.quoted.Quoted.{Quoted}
use Rattle.bc_lex.specs.declared.quoted.Quoted.TheVariants as quoted
use Rattle.bc_lex.specs.Gaps.{begins}
use Rattle.bc_lex.specs.Bytes.{digit_of, escaped}

abbrev pub fault_at : FaultKind → ℕ → Fault
fault_at kind at = record { kind = kind; at = at }

-- the value of more digits after those of the value n
abbrev pub value_from : ℕ → ℕ → List ℕ → Option ℕ
value_from base n [] = Some n
value_from base n (b ∷ bs) =
    let m = n * base + unwrap_or (digit_of base b) 0 in
    if nat_lt 65535 m then None else value_from base m bs

-- the number of digits at the start
abbrev pub digits_of : ℕ → List ℕ → ℕ
digits_of base = prefix_len (λ b. is_some (digit_of base b))

-- a number of n bytes with this value, if it isn't too large
abbrev pub valued : ℕ → Option ℕ → Result (ℕ × ℕ) Fault
valued n None = Err (fault_at faults.NumberTooLarge 0)
valued n (Some v) = Ok (v, n)

-- a number of some base after a prefix, and how many bytes it takes with the prefix
abbrev pub based_of : ℕ → ℕ → List ℕ → Result (ℕ × ℕ) Fault
based_of base prefix bs =
    let n = digits_of base (drop prefix bs) in
    if n == 0 then Err (fault_at faults.BadCharacter 0) else valued (prefix + n) (value_from base 0 (take n (drop prefix bs)))

-- a number, and how many bytes it takes
abbrev pub number_of : List ℕ → Result (ℕ × ℕ) Fault
number_of bs =
    if begins 35 bs
    then (if begins 88 (drop 1 bs) then based_of 16 2 bs else based_of 8 1 bs)
    else based_of 10 0 bs

-- what comes after a *
abbrev pub escape_of : List ℕ → Quoted
escape_of [] = quoted.Cut
escape_of (c ∷ cs) = if c == 10 then quoted.Cut else (elim (escaped c) [ Some v ↦ quoted.Character v 2 | None ↦ quoted.BadEscape ])

-- what comes next in a string or character constant
abbrev pub quoted_of : ℕ → List ℕ → Quoted
quoted_of close [] = quoted.Cut
quoted_of close (b ∷ bs) =
    if b == 10 then quoted.Cut
    else (if b == close then quoted.Closed
    else (if b == 42 then escape_of bs
    else quoted.Character b 1))

-- the bytes are long enough for what was read
abbrev pub Fits : List ℕ → Quoted → Type 0
Fits bs quoted.Closed = 1 ≤ length bs
Fits bs quoted.Cut = Unit {0}
Fits bs quoted.BadEscape = 2 ≤ length bs
Fits bs (quoted.Character v n) = (1 ≤ n) × (n ≤ length bs)

-- one iteration in a string of which `at` bytes are read, by what comes next
abbrev pub string_on : (ℕ → List ℕ → Result ℕ Fault) → ℕ → List ℕ → Quoted → Result ℕ Fault
string_on again at bs quoted.Closed = Ok (at + 1)
string_on again at bs quoted.Cut = Err (fault_at faults.Unterminated 0)
string_on again at bs quoted.BadEscape = Err (fault_at faults.BadEscape at)
string_on again at bs (quoted.Character v n) = again (at + n) (drop n bs)

-- a string of which `at` bytes are read, and which may have fewer than so many characters more
abbrev pub string_from : ℕ → ℕ → List ℕ → Result ℕ Fault
string_from zero at bs = Err (fault_at faults.StringTooLong 0)
string_from (suc k) at bs = string_on (string_from k) at bs (quoted_of 34 bs)

-- the number of bytes of a string
unfoldable pub string_of : List ℕ → Result ℕ Fault
string_of bs = string_from 256 1 (drop 1 bs)

-- a character constant, by what comes after its opening quote
abbrev pub character_by : List ℕ → Quoted → Result (ℕ × ℕ) Fault
character_by bs quoted.Closed = Err (fault_at faults.Unterminated 0)
character_by bs quoted.Cut = Err (fault_at faults.Unterminated 0)
character_by bs quoted.BadEscape = Err (fault_at faults.BadEscape 1)
character_by bs (quoted.Character v n) = if begins 39 (drop (1 + n) bs) then Ok (v, n + 2) else Err (fault_at faults.Unterminated 0)

-- a character constant, and the number of its bytes
abbrev pub character_of : List ℕ → Result (ℕ × ℕ) Fault
character_of bs = character_by bs (quoted_of 39 (drop 1 bs))
