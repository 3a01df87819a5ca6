-- Codes of different lengths differ.
use Rattle.std.proofs.Common.{◌≡◌, ℕ, ◌+◌, ◌++◌, ap, sym, ◌∙◌, append_assoc, length-append, Bool, true, false, List, [], ◌∷◌, map, length, cond, refl, arith}
use Rattle.std.proofs.lemmas.List.{length-replicate, map-append}
use Rattle.bc_cert_defs.specs.declared.verdict.Judged as code
use Rattle.bc_cert_defs.specs.View.{judged}
use Rattle.bc_cert.specs.View.{gone, no_entry}
use Rattle.bc_rules_defs.specs.declared.piece.Piece.{Piece}
use Rattle.bc_cert_laws.specs.Judging.{same_piece, same_code}

other_step : (t u : Bool) → false ≡ u → false ≡ cond t u false
other_step true u h = h
other_step false u h = refl

pub other_length : (ps qs : List Piece) → (length ps ≡ length qs → ⊥) → false ≡ same_code ps qs
other_length [] [] h = absurd (h refl)
other_length [] (q ∷ qs) h = refl
other_length (p ∷ ps) [] h = refl
other_length (p ∷ ps) (q ∷ qs) h = other_step (same_piece p q) (same_code ps qs) (other_length ps qs (λ e. h (omega arith)))

pub seen_length : {A B : Type 0} (f : A → B) (xs : List A) → length (map f xs) ≡ length xs
seen_length f [] = refl
seen_length f (x ∷ xs) = let h : length (map f xs) ≡ length xs = seen_length f xs in omega arith

-- dropped entries are counted, and a new entry comes after all others
pub counted_length : (n : ℕ) (es : List code.Judged) → length (gone n ++ map judged es) ≡ n + length es
counted_length n es = length-append (gone n) (map judged es) ∙ ap (λ k. k + length (map judged es)) (length-replicate n no_entry) ∙ ap (λ k. n + k) (seen_length judged es)

pub entries_pushed : (n : ℕ) (es : List code.Judged) (e : code.Judged) → gone n ++ map judged (es ++ e ∷ []) ≡ (gone n ++ map judged es) ++ judged e ∷ []
entries_pushed n es e = ap (λ js. gone n ++ js) (map-append judged es (e ∷ [])) ∙ sym (append_assoc (gone n) (map judged es) (judged e ∷ []))
