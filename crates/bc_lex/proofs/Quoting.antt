-- The text between quotes is read as its definition says.
use Rattle.std.proofs.Common.{◌≡◌, ◌≢◌, ◌∙◌, refl, sym, ap, arith, ℕ, zero, suc, ◌+◌, ◌<◌, Bool, true, false, List, [], ◌∷◌, ◌++◌, length, Option, Some, None, Result, Ok, Err, cond, nat_eq, append_assoc}
use Rattle.std.proofs.lemmas.Bool.{ne_eqb, eqb-true, eqb-false}
use Rattle.bc_lex.specs.declared.fault.Fault.{Fault}
use Rattle.bc_lex.specs.declared.fault.FaultKind.TheVariants as faults
use Rattle.bc_lex.specs.declared.quoted.Quoted.{Quoted}
use Rattle.bc_lex.specs.declared.quoted.Quoted.TheVariants as quoted
use Rattle.bc_lex.specs.Bytes.{escaped}
use Rattle.bc_lex.specs.Quotes.{IsCharacter, Plain, Escape, Spells, Empty, More, IsCut, End, Break, EndAfter, BreakAfter, IsBadEscape, Bad}
use Rattle.bc_lex.specs.Reading.{fault_at, escape_of, quoted_of, string_from, string_on}
use Rattle.bc_lex.proofs.Runs.{drop-front, length-append_ℕ}

-- what comes next
pub data Front (close : ℕ) : List ℕ → Quoted → Type 0 where
  Closes : (rest : List ℕ) → Front close (close ∷ rest) quoted.Closed
  Cuts : (bs : List ℕ) → IsCut bs → Front close bs quoted.Cut
  Spoils : (bs : List ℕ) → IsBadEscape bs → Front close bs quoted.BadEscape
  Stands : (text rest : List ℕ) (c : ℕ) → IsCharacter close text c → Front close (text ++ rest) (quoted.Character c (length text))

front_escaped : (close b : ℕ) (bs : List ℕ) (o : Option ℕ) → escaped b ≡ o → b ≢ 10 → Front close (42 ∷ b ∷ bs) (elim o [ Some v ↦ quoted.Character v 2 | None ↦ quoted.BadEscape ])
front_escaped close b bs (Some v) e ne = Stands (42 ∷ b ∷ []) bs v (Escape b v e)
front_escaped close b bs None e ne = Spoils (42 ∷ b ∷ bs) (Bad b bs ne e)

front_after : (close b : ℕ) (bs : List ℕ) (t : Bool) → nat_eq b 10 ≡ t → Front close (42 ∷ b ∷ bs) (cond t quoted.Cut (elim (escaped b) [ Some v ↦ quoted.Character v 2 | None ↦ quoted.BadEscape ]))
front_after close b bs true e = Cuts (42 ∷ b ∷ bs) (rw (eqb-true b 10 e) (BreakAfter bs))
front_after close b bs false e = front_escaped close b bs (escaped b) refl (eqb-false b 10 e)

front_star : (close : ℕ) (bs : List ℕ) → Front close (42 ∷ bs) (escape_of bs)
front_star close [] = Cuts (42 ∷ []) EndAfter
front_star close (b ∷ bs) = front_after close b bs (nat_eq b 10) refl

front_other : (close b : ℕ) (bs : List ℕ) (t : Bool) → nat_eq b 42 ≡ t → b ≢ 10 → b ≢ close → Front close (b ∷ bs) (cond t (escape_of bs) (quoted.Character b 1))
front_other close b bs true e ne nc = rw (eqb-true b 42 e) (front_star close bs)
front_other close b bs false e ne nc = Stands (b ∷ []) bs b (Plain b ne nc (eqb-false b 42 e))

front_close : (close b : ℕ) (bs : List ℕ) (t : Bool) → nat_eq b close ≡ t → b ≢ 10 → Front close (b ∷ bs) (cond t quoted.Closed (cond (nat_eq b 42) (escape_of bs) (quoted.Character b 1)))
front_close close b bs true e ne = rw (eqb-true b close e) (Closes bs)
front_close close b bs false e ne = front_other close b bs (nat_eq b 42) refl ne (eqb-false b close e)

front_break : (close b : ℕ) (bs : List ℕ) (t : Bool) → nat_eq b 10 ≡ t → Front close (b ∷ bs) (cond t quoted.Cut (cond (nat_eq b close) quoted.Closed (cond (nat_eq b 42) (escape_of bs) (quoted.Character b 1))))
front_break close b bs true e = Cuts (b ∷ bs) (rw (eqb-true b 10 e) (Break bs))
front_break close b bs false e = front_close close b bs (nat_eq b close) refl (eqb-false b 10 e)

pub quoted_front : (close : ℕ) (bs : List ℕ) → Front close bs (quoted_of close bs)
quoted_front close [] = Cuts [] End
quoted_front close (b ∷ bs) = front_break close b bs (nat_eq b 10) refl

no_escape : (b c : ℕ) → escaped b ≡ Some c → b ≢ 10
no_escape b c e h = let n : escaped 10 ≡ Some c = rw h at e in let m : None ≡ Some c = n in cc

pub quoted_character : (close : ℕ) (text rest : List ℕ) (c : ℕ) → nat_eq 42 close ≡ false → IsCharacter close text c → quoted_of close (text ++ rest) ≡ quoted.Character c (length text)
quoted_character close text rest c apart (Plain b n10 nc n42) = rw (ne_eqb b 10 n10, ne_eqb b close nc, ne_eqb b 42 n42) refl
quoted_character close text rest c apart (Escape b v e) = rw (apart, ne_eqb b 10 (no_escape b v e), e) refl

pub quoted_cut : (close : ℕ) (bs : List ℕ) → nat_eq 42 close ≡ false → IsCut bs → quoted_of close bs ≡ quoted.Cut
quoted_cut close bs apart End = refl
quoted_cut close bs apart (Break rest) = refl
quoted_cut close bs apart EndAfter = rw apart refl
quoted_cut close bs apart (BreakAfter rest) = rw apart refl

pub quoted_bad : (close : ℕ) (bs : List ℕ) → nat_eq 42 close ≡ false → IsBadEscape bs → quoted_of close bs ≡ quoted.BadEscape
quoted_bad close bs apart (Bad b rest ne e) = rw (apart, ne_eqb b 10 ne, e) refl

-- the possible results of reading a string that may have fewer than k more characters
pub data StringRead (k at : ℕ) (bs : List ℕ) : Result ℕ Fault → Type 0 where
  Closed : (text rest cs : List ℕ) (n : ℕ) → bs ≡ text ++ (34 ∷ rest) → Spells 34 text cs → length cs < k → n ≡ at + length text + 1 → StringRead k at bs (Ok n)
  Cut : (text after cs : List ℕ) → bs ≡ text ++ after → Spells 34 text cs → length cs < k → IsCut after → StringRead k at bs (Err (fault_at faults.Unterminated 0))
  Spoiled : (text after cs : List ℕ) (n : ℕ) → bs ≡ text ++ after → Spells 34 text cs → length cs < k → IsBadEscape after → n ≡ at + length text → StringRead k at bs (Err (fault_at faults.BadEscape n))
  Long : (text after cs : List ℕ) → bs ≡ text ++ after → Spells 34 text cs → length cs ≡ k → StringRead k at bs (Err (fault_at faults.StringTooLong 0))

string_prepend : (k at : ℕ) (first bs : List ℕ) (c : ℕ) (read : Result ℕ Fault) → IsCharacter 34 first c → StringRead k (at + length first) bs read → StringRead (suc k) at (first ++ bs) read
string_prepend k at first bs c read ch (Closed text rest cs n e sp short at_n) =
    Closed (first ++ text) rest (c ∷ cs) n (ap (λ ys. first ++ ys) e ∙ sym (append_assoc first text (34 ∷ rest))) (More first text c cs ch sp) (omega arith) (omega (arith, length-append_ℕ first text))
string_prepend k at first bs c read ch (Cut text after cs e sp short cut) =
    Cut (first ++ text) after (c ∷ cs) (ap (λ ys. first ++ ys) e ∙ sym (append_assoc first text after)) (More first text c cs ch sp) (omega arith) cut
string_prepend k at first bs c read ch (Spoiled text after cs n e sp short bad at_n) =
    Spoiled (first ++ text) after (c ∷ cs) n (ap (λ ys. first ++ ys) e ∙ sym (append_assoc first text after)) (More first text c cs ch sp) (omega arith) bad (omega (arith, length-append_ℕ first text))
string_prepend k at first bs c read ch (Long text after cs e sp long) =
    Long (first ++ text) after (c ∷ cs) (ap (λ ys. first ++ ys) e ∙ sym (append_assoc first text after)) (More first text c cs ch sp) (omega arith)

string_turn_reads : (k at : ℕ) (bs : List ℕ) (q : Quoted) → ((place : ℕ) (rest : List ℕ) → StringRead k place rest (string_from k place rest)) → Front 34 bs q → StringRead (suc k) at bs (string_on (string_from k) at bs q)
string_turn_reads k at bs q again (Closes rest) = Closed [] rest [] (at + 1) refl Empty (omega arith) (omega arith)
string_turn_reads k at bs q again (Cuts rest cut) = Cut [] rest [] refl Empty (omega arith) cut
string_turn_reads k at bs q again (Spoils rest bad) = Spoiled [] rest [] at refl Empty (omega arith) bad (omega arith)
string_turn_reads k at bs q again (Stands text rest c ch) =
    rw (drop-front text rest) (string_prepend k at text rest c (string_from k (at + length text) rest) ch (again (at + length text) rest))

pub string_reads : (k at : ℕ) (bs : List ℕ) → StringRead k at bs (string_from k at bs)
string_reads zero at bs = Long [] bs [] refl Empty refl
string_reads (suc k) at bs = string_turn_reads k at bs (quoted_of 34 bs) (string_reads k) (quoted_front 34 bs)

string_skip : (m at : ℕ) (first rest : List ℕ) (c : ℕ) → IsCharacter 34 first c → string_from (suc m) at (first ++ rest) ≡ string_from m (at + length first) rest
string_skip m at first rest c ch =
    ap (λ q. string_on (string_from m) at (first ++ rest) q) (quoted_character 34 first rest c refl ch)
    ∙ ap (λ ys. string_from m (at + length first) ys) (drop-front first rest)

pub string_skips : (text cs : List ℕ) → Spells 34 text cs → (j k at : ℕ) (rest : List ℕ) → j ≡ length cs + k → string_from j at (text ++ rest) ≡ string_from k (at + length text) rest
string_skips text cs Empty j k at rest e =
    let e' : j ≡ k = omega arith in
    let z : at + 0 ≡ at = omega arith in
    rw (e', z) refl
string_skips text cs (More first more c others ch sp) j k at rest e =
    let e' : j ≡ suc (length others + k) = omega arith in
    let s : at + length (first ++ more) ≡ at + length first + length more = omega (arith, length-append_ℕ first more) in
    rw (e', s, append_assoc first more rest) (string_skip (length others + k) at first (more ++ rest) c ch ∙ string_skips more others sp (length others + k) k (at + length first) rest refl)
