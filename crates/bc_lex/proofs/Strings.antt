-- The iterations of the loop that reads a string.
use Rattle.std.proofs.Common.{◌≡◌, arith, ℕ, suc, ◌+◌, ◌-◌, ◌<◌, List, drop, drop-drop, Result}
use Rattle.bc_lex.specs.declared.fault.Fault.{Fault}
use Rattle.bc_lex.specs.declared.quoted.Quoted.{Quoted}
use Rattle.bc_lex.specs.declared.quoted.Quoted.TheVariants as quoted
use Rattle.bc_lex.specs.Reading.{quoted_of, string_from, string_on}

pub string_turn : (i at : ℕ) (bs : List ℕ) (q : Quoted) (read : Result ℕ Fault) → i < 256 → q ≡ quoted_of 34 bs → string_from (256 - i) at bs ≡ read → string_on (string_from (255 - i)) at bs q ≡ read
string_turn i at bs q read h e r =
    let s : 256 - i ≡ suc (255 - i) = omega arith in
    rw e (rw s at r)

pub string_goes_on : (i at : ℕ) (bytes : List ℕ) (v n : ℕ) (read : Result ℕ Fault) → i < 256 → quoted.Character v n ≡ quoted_of 34 (drop at bytes) → string_from (256 - i) at (drop at bytes) ≡ read → string_from (256 - (i + 1)) (at + n) (drop (at + n) bytes) ≡ read
string_goes_on i at bytes v n read h e r =
    let s : 256 - (i + 1) ≡ 255 - i = omega arith in
    rw (s, ← drop-drop n at bytes) (string_turn i at (drop at bytes) (quoted.Character v n) read h e r)
