-- Comparing a place with the label that is searched for.
use Rattle.std.proofs.Common.{◌≡◌, ℕ, ◌+◌, ◌==◌, Bool, true, false, inl, inr, List, ◌∷◌, Option, Some, length, ap}
use Rattle.std.proofs.lemmas.Bool.{eq-eqb}
use Rattle.std.proofs.lemmas.Bool.Decides.{eqb_tells}
use Rattle.bc_core.specs.Commands.{Routine, Place, Code, Static, Table, Text}
use Rattle.bc_tame.specs.Tame.{Known}
use Rattle.bc_tame.specs.Programs.{known, routine_from, static_from, table_from, text_from}

pub apart : (a b : ℕ) → ((a ≡ b) → ⊥) → (a == b) ≡ false
apart a b h = elim (eqb_tells a b) [ inl e ↦ absurd (h e.1) | inr e ↦ e.0 ]

pub routine_here : (r : Routine) (ps : List Place) (room : ℕ) (rooms : List ℕ) (label m : ℕ) → label ≡ m
    → routine_from (Code r ∷ ps) (room ∷ rooms) label m ≡ Some (known r.parameters room)
routine_here r ps room rooms label m e =
    ap (λ t. elim t as (λ z. Option Known) [ true ↦ Some (known r.parameters room) | false ↦ routine_from ps rooms (label + 1) m ]) (eq-eqb label m e)

pub routine_else : (r : Routine) (ps : List Place) (room : ℕ) (rooms : List ℕ) (label m : ℕ) → ((label ≡ m) → ⊥)
    → routine_from (Code r ∷ ps) (room ∷ rooms) label m ≡ routine_from ps rooms (label + 1) m
routine_else r ps room rooms label m h =
    ap (λ t. elim t as (λ z. Option Known) [ true ↦ Some (known r.parameters room) | false ↦ routine_from ps rooms (label + 1) m ]) (apart label m h)

pub static_here : (w : ℕ) (ps : List Place) (label m : ℕ) → label ≡ m → static_from (Static w ∷ ps) label m ≡ true
static_here w ps label m e = ap (λ t. elim t as (λ z. Bool) [ true ↦ true | false ↦ static_from ps (label + 1) m ]) (eq-eqb label m e)

pub static_else : (w : ℕ) (ps : List Place) (label m : ℕ) → ((label ≡ m) → ⊥) → static_from (Static w ∷ ps) label m ≡ static_from ps (label + 1) m
static_else w ps label m h = ap (λ t. elim t as (λ z. Bool) [ true ↦ true | false ↦ static_from ps (label + 1) m ]) (apart label m h)

pub text_here : (bytes : List ℕ) (ps : List Place) (label m : ℕ) → label ≡ m → text_from (Text bytes ∷ ps) label m ≡ Some bytes
text_here bytes ps label m e = ap (λ t. elim t as (λ z. Option (List ℕ)) [ true ↦ Some bytes | false ↦ text_from ps (label + 1) m ]) (eq-eqb label m e)

pub text_else : (bytes : List ℕ) (ps : List Place) (label m : ℕ) → ((label ≡ m) → ⊥) → text_from (Text bytes ∷ ps) label m ≡ text_from ps (label + 1) m
text_else bytes ps label m h = ap (λ t. elim t as (λ z. Option (List ℕ)) [ true ↦ Some bytes | false ↦ text_from ps (label + 1) m ]) (apart label m h)

pub table_here : (ws : List ℕ) (ps : List Place) (label m : ℕ) → label ≡ m → table_from (Table ws ∷ ps) label m ≡ length ws
table_here ws ps label m e = ap (λ t. elim t as (λ z. ℕ) [ true ↦ length ws | false ↦ table_from ps (label + 1) m ]) (eq-eqb label m e)

pub table_else : (ws : List ℕ) (ps : List Place) (label m : ℕ) → ((label ≡ m) → ⊥) → table_from (Table ws ∷ ps) label m ≡ table_from ps (label + 1) m
table_else ws ps label m h = ap (λ t. elim t as (λ z. ℕ) [ true ↦ length ws | false ↦ table_from ps (label + 1) m ]) (apart label m h)
