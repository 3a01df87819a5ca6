-- What passes after a byte of a format, before it.
use Rattle.std.proofs.Common.{◌≡◌, ℕ, ◌==◌, ◌≤◌, Bool, true, false, inl, inr, List, [], ◌∷◌, length, map, Option, Some, None, refl, sym, ap, ◌∙◌, subst, arith}
use Rattle.std.specs.Prelude.{◌&&◌, ◌||◌, not, nat_le}
use Rattle.std.proofs.lemmas.Bool.Decides.{eqb_tells}
use Rattle.bc_core.specs.declared.command.Place.{Place}
use Rattle.bc_core.specs.declared.expression.CoreExp.{CoreExp}
use Rattle.bc_core.specs.View.{exp, args, place_of}
use Rattle.bc_core.specs.Tree as tree
use Rattle.bc_tame.specs.Tame.{Knows, Note, AWord, AText, Says, is_text, note_of, note_of_place, notes_of}
use Rattle.bc_tame.specs.Programs.{fits_format, with_text, with_format, text_from, gives_from}
use Rattle.bc_tame_check.specs.declared.at.At.{At}
use Rattle.bc_tame_check.specs.Views.{reads_at, notes_in}
use Rattle.bc_tame_check.proofs.Tests.{and_true, most_true}

apart : (a b : ℕ) → ((a ≡ b) → ⊥) → (a == b) ≡ false
apart a b h = elim (eqb_tells a b) [ inl e ↦ absurd (h e.1) | inr e ↦ e.0 ]

pub plain : (b : ℕ) (notes : List Note) (left : List ℕ) → fits_format (b == 37) left notes ≡ true → fits_format false (b ∷ left) notes ≡ true
plain b notes left h = branch (b == 37) h where
  branch : (t : Bool) → fits_format t left notes ≡ true → elim t as (λ z. Bool) [ true ↦ fits_format true left notes | false ↦ fits_format false left notes ] ≡ true
  branch true h = h
  branch false h = h

pub number : (note : Note) (notes : List Note) (left : List ℕ) → fits_format false left notes ≡ true → fits_format true (78 ∷ left) (note ∷ notes) ≡ true
number note notes left h = h

pub character : (note : Note) (notes : List Note) (left : List ℕ) → fits_format false left notes ≡ true → fits_format true (67 ∷ left) (note ∷ notes) ≡ true
character note notes left h = h

pub string : (note : Note) (notes : List Note) (left : List ℕ) → is_text note ≡ true → fits_format false left notes ≡ true → fits_format true (83 ∷ left) (note ∷ notes) ≡ true
string note notes left e h = and_true (is_text note) (fits_format false left notes) e h

pub other : (b : ℕ) (notes : List Note) (left : List ℕ) → ((b ≡ 83) → ⊥) → ((b ≡ 78) → ⊥) → ((b ≡ 67) → ⊥) → fits_format false left notes ≡ true → fits_format true (b ∷ left) notes ≡ true
other b [] left s w c h = none (b == 78) (b == 83) (b == 67) (apart b 78 w) (apart b 83 s) (apart b 67 c) where
  none : (x y z : Bool) → x ≡ false → y ≡ false → z ≡ false → (not (x || (y || z)) && fits_format false left []) ≡ true
  none true y z e f g = absurd (let n : ⊥ = cc in n)
  none false true z e f g = absurd (let n : ⊥ = cc in n)
  none false false true e f g = absurd (let n : ⊥ = cc in n)
  none false false false e f g = h
other b (note ∷ notes) left s w c h = none (b == 83) (b == 78) (b == 67) (apart b 83 s) (apart b 78 w) (apart b 67 c) where
  none : (x y z : Bool) → x ≡ false → y ≡ false → z ≡ false
      → elim x as (λ t. Bool) [
        | true ↦ is_text note && fits_format false left notes
        | false ↦ elim (y || z) as (λ t. Bool) [ true ↦ fits_format false left notes | false ↦ fits_format false left (note ∷ notes) ]
      ] ≡ true
  none true y z e f g = absurd (let n : ⊥ = cc in n)
  none false true z e f g = absurd (let n : ⊥ = cc in n)
  none false false true e f g = absurd (let n : ⊥ = cc in n)
  none false false false e f g = h

-- a string alone
pub alone : (note : Note) (room : ℕ) → is_text note ≡ true → with_text (note ∷ []) room ≡ Some room
alone AWord room e = let z : ⊥ = cc in absurd z
alone AText room e = refl
alone (Says bytes) room e = refl

many_notes : (text : ℕ → Option (List ℕ)) (gives : ℕ → Bool) (R : Knows) (es : List CoreExp) → length (notes_of text gives R (args es)) ≡ length es
many_notes text gives R [] = refl
many_notes text gives R (e ∷ es) = let h = many_notes text gives R es in omega arith

formatted : (text : ℕ → Option (List ℕ)) (gives : ℕ → Bool) (R : Knows) (e : tree.Exp) (m : ℕ) (bytes : List ℕ) (notes : List Note)
    → e ≡ tree.Place m → text m ≡ Some bytes → length notes ≤ 4 → fits_format false bytes notes ≡ true → with_format (note_of text gives R e ∷ notes) ≡ Some 37
formatted text gives R e m bytes notes is there few fits =
    ap (λ x. with_format (note_of text gives R x ∷ notes)) is
    ∙ (ap (λ o. with_format (note_of_place o ∷ notes)) there
    ∙ ap (λ t. elim t as (λ z. Option ℕ) [ true ↦ Some 37 | false ↦ None ]) (and_true (nat_le (length notes) 4) (fits_format false bytes notes) (most_true (length notes) 4 few) fits))

-- a format and what it takes
pub formatted_with : (at : At) (es : List CoreExp) (e : CoreExp) (rest : List CoreExp) (m : ℕ) (bytes : List ℕ)
    → es ≡ e ∷ rest → exp e ≡ tree.Place m → text_from (map place_of at.around.places.now) 1 m ≡ Some bytes → length rest ≤ 4 → fits_format false bytes (notes_in at rest) ≡ true
    → with_format (notes_in at es) ≡ Some 37
formatted_with at es e rest m bytes split is there few fits =
    let places : List Place = at.around.places.now in
    subst (λ xs. with_format (notes_in at xs) ≡ Some 37) (sym split)
    (formatted (text_from (map place_of places) 1) (gives_from (text_from (map place_of places) 1) (map place_of places) 1) (reads_at at) (exp e) m bytes (notes_in at rest) is there
    (omega (arith, few, many_notes (text_from (map place_of places) 1) (gives_from (text_from (map place_of places) 1) (map place_of places) 1) (reads_at at) rest)) fits)
