-- Expressions that are strings, and routines that return them.
use Rattle.std.proofs.Common.{◌≡◌, ℕ, ◌+◌, ◌<◌, Bool, true, false, List, ◌∷◌, Option, Some, sym, ap, subst}
use Rattle.std.specs.Prelude.{◌||◌, nat_lt}
use Rattle.std.proofs.lemmas.Bool.{eq-eqb}
use Rattle.bc_core.specs.Tree.{Exp, Place, Load, Cond, Call, Args}
use Rattle.bc_core.specs.Commands as commands
use Rattle.bc_core.specs.Commands.{Code, Routine}
use Rattle.bc_tame.specs.Tame.{Knows, Note, AWord, AText, Says, is_string, all_between, offsets_at, is_text, either_note, note_of, note_of_place, note_of_call}
use Rattle.bc_tame.specs.Programs.{is_some, gives_text, gives_from}
use Rattle.bc_tame_check.specs.declared.held.Bounds.{Bounds}
use Rattle.bc_tame_check.specs.Views.{bounds_in}
use Rattle.bc_tame_check.proofs.Tests.{less_true}
use Rattle.bc_tame_check.proofs.Places.{apart}

pub text_there : (text : ℕ → Option (List ℕ)) (n m : ℕ) (bytes : List ℕ) → text m ≡ Some bytes → (is_some (text m) || nat_lt 0 n) ≡ true
text_there text n m bytes e = ap (λ o. is_some o || nat_lt 0 n) e

or_true : (a b : Bool) → b ≡ true → (a || b) ≡ true
or_true true b e = λ i. true
or_true false b e = e

pub table_there : (text : ℕ → Option (List ℕ)) (m n k : ℕ) → k ≡ n → 0 < k → (is_some (text m) || nat_lt 0 n) ≡ true
table_there text m n k e h = or_true (is_some (text m)) (nat_lt 0 n) (less_true 0 n (subst (λ x. 0 < x) e h))

pub place_text : (text : ℕ → Option (List ℕ)) (gives : ℕ → Bool) (R : Knows) (m : ℕ) (bytes : List ℕ) → text m ≡ Some bytes → is_text (note_of text gives R (Place m)) ≡ true
place_text text gives R m bytes e = ap (λ o. is_text (note_of_place o)) e

either_text : (a b : Note) → is_text a ≡ true → is_text b ≡ true → is_text (either_note a b) ≡ true
either_text AWord b e f = let z : ⊥ = cc in absurd z
either_text AText AWord e f = let z : ⊥ = cc in absurd z
either_text (Says bytes) AWord e f = let z : ⊥ = cc in absurd z
either_text AText AText e f = e
either_text AText (Says bytes) e f = e
either_text (Says bytes) AText e f = e
either_text (Says bytes) (Says others) e f = e

pub choice_text : (text : ℕ → Option (List ℕ)) (gives : ℕ → Bool) (R : Knows) (c x y : Exp) → is_text (note_of text gives R x) ≡ true → is_text (note_of text gives R y) ≡ true → is_text (note_of text gives R (Cond c x y)) ≡ true
choice_text text gives R c x y e f = either_text (note_of text gives R x) (note_of text gives R y) e f

pub call_text : (text : ℕ → Option (List ℕ)) (gives : ℕ → Bool) (R : Knows) (es : Args) (f : Exp) (m : ℕ) → f ≡ Place m → gives m ≡ true → is_text (note_of text gives R (Call es f)) ≡ true
call_text text gives R es f m is e = subst (λ g. is_text (note_of text gives R (Call es g)) ≡ true) (sym is) (ap (λ t. is_text (note_of_call t)) e)

pub cells_text : (text : ℕ → Option (List ℕ)) (gives : ℕ → Bool) (R : Knows) (a : Exp) (b : Bounds) → Some (bounds_in b) ≡ offsets_at R a → all_between is_string R (Some (bounds_in b)) ≡ true
    → is_text (note_of text gives R (Load a)) ≡ true
cells_text text gives R a b e h = ap (λ t. is_text (note_of_call t)) (subst (λ o. all_between is_string R o ≡ true) e h)

pub gives_here : (text : ℕ → Option (List ℕ)) (r : Routine) (ps : List commands.Place) (label m : ℕ) → label ≡ m → gives_from text (Code r ∷ ps) label m ≡ gives_text text r.body
gives_here text r ps label m e = ap (λ t. elim t as (λ z. Bool) [ true ↦ gives_text text r.body | false ↦ gives_from text ps (label + 1) m ]) (eq-eqb label m e)

pub gives_else : (text : ℕ → Option (List ℕ)) (r : Routine) (ps : List commands.Place) (label m : ℕ) → ((label ≡ m) → ⊥) → gives_from text (Code r ∷ ps) label m ≡ gives_from text ps (label + 1) m
gives_else text r ps label m h = ap (λ t. elim t as (λ z. Bool) [ true ↦ gives_text text r.body | false ↦ gives_from text ps (label + 1) m ]) (apart label m h)
