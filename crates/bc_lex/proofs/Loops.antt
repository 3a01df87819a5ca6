-- The iterations of the loops over bytes.
use Rattle.std.proofs.Common.{◌≡◌, ◌∙◌, ap, arith, ℕ, suc, ◌+◌, ◌-◌, ◌<◌, false, true, List, [], ◌∷◌, get_or, length, drop, drop-drop, drop-cons, add-one, Result, Option, Some, Ok, nat_eq}
use Rattle.std.proofs.lemmas.Bool.{ne_eqb, cond-true}
use Rattle.bc_lex_tokens.specs.Token.{Kind}
use Rattle.bc_lex.specs.declared.fault.Fault.{Fault}
use Rattle.bc_lex.specs.Bytes.{is_letter}
use Rattle.bc_lex.specs.Blank.{ends_comment, closing_from, blank_of, gap_from, gap_on}
use Rattle.bc_lex.specs.Lexeme.{lexeme_in_front, word_of}

pub closing_turn : (at : ℕ) (bytes : List ℕ) (read : Option ℕ) → at < length bytes → ends_comment (drop at bytes) ≡ false → closing_from at (drop at bytes) ≡ read → closing_from (at + 1) (drop (at + 1) bytes) ≡ read
closing_turn at bytes read h e r =
    let cut = drop-cons bytes at 0 h in
    let e' : ends_comment (get_or bytes at 0 ∷ drop (suc at) bytes) ≡ false = rw cut at e in
    rw add-one (rw add-one at (rw e' at (rw cut at r)))

pub gap_turn : (k i at : ℕ) (bs : List ℕ) (q : Option ℕ) (read : Result ℕ Fault) → i < k → q ≡ blank_of bs → gap_from (k - i) at bs ≡ read → gap_on (gap_from (k - (i + 1))) at bs q ≡ read
gap_turn k i at bs q read h e r =
    let s : k - i ≡ suc (k - (i + 1)) = omega arith in
    rw e (rw s at r)

pub gap_goes_on : (k i at n : ℕ) (bytes : List ℕ) (read : Result ℕ Fault) → i < k → (n ≡ 0 → ⊥) → Some n ≡ blank_of (drop at bytes) → gap_from (k - i) at (drop at bytes) ≡ read → gap_from (k - (i + 1)) (at + n) (drop (at + n) bytes) ≡ read
gap_goes_on k i at n bytes read h ne e r =
    let no : nat_eq n 0 ≡ false = ne_eqb n 0 ne in
    rw (← drop-drop n at bytes) (rw no at (gap_turn k i at (drop at bytes) (Some n) read h e r))

pub lexeme_in_front-word : (bs : List ℕ) (x : Kind × ℕ) → 0 < length bs → is_letter (get_or bs 0 0) ≡ true → word_of bs ≡ x → lexeme_in_front bs ≡ Ok x
unfolding lexeme_in_front
lexeme_in_front-word [] x h e w = absurd (omega arith)
lexeme_in_front-word (b ∷ bs) x h e w = cond-true (is_letter b) _ _ e ∙ ap Ok w
