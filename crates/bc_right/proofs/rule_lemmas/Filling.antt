-- Filling bodies into pieces can be done part by part, since a label follows each body.
use Rattle.std.proofs.Common.{◌≡◌, ℕ, List, [], ◌∷◌, ◌++◌, refl, sym, ap, ◌∙◌, subst, append_assoc}
use Rattle.bc_text_items.specs.declared.item.Item.{Item}
use Rattle.bc_text_items.specs.declared.item.Item.TheVariants as items
use Rattle.bc_rules_defs.specs.declared.piece.Piece.{Piece}
use Rattle.bc_rules_defs.specs.declared.piece.Piece.TheVariants as pieces
use Rattle.bc_gen_defs.specs.Bodies.{BodiesCode, label_ahead, fill}
use Rattle.bc_right.specs.steps.Landing.{Moment, Stands}
use Rattle.bc_right.proofs.step_lemmas.Steps.{parts}

-- a label comes right after each body
abbrev pub LabelAhead : List Piece → Type 0
LabelAhead (pieces.Item (items.Label l) ∷ ps) = Unit {0}
LabelAhead _ = ⊥

abbrev pub Closed : List Piece → Type 0
Closed [] = Unit {0}
Closed (pieces.Item i ∷ ps) = Closed ps
Closed (pieces.Body n ∷ ps) = LabelAhead ps × Closed ps

ahead_front : (ps qs : List Piece) → LabelAhead ps → LabelAhead (ps ++ qs)
ahead_front (pieces.Item (items.Label l) ∷ ps) qs h = h
ahead_front [] qs h = absurd h
ahead_front _ qs h = absurd h

label_front : (ps qs : List Piece) → LabelAhead ps → label_ahead (ps ++ qs) ≡ label_ahead ps
label_front (pieces.Item (items.Label l) ∷ ps) qs h = refl
label_front [] qs h = absurd h
label_front _ qs h = absurd h

pub closed_both : (ps qs : List Piece) → Closed ps → Closed qs → Closed (ps ++ qs)
closed_both [] qs h k = k
closed_both (pieces.Item i ∷ ps) qs h k = closed_both ps qs h k
closed_both (pieces.Body n ∷ ps) qs h k = (ahead_front ps qs h.0, closed_both ps qs h.1 k)

module _ (levels : ℕ → ℕ) (bodies : BodiesCode Item) where
  abbrev pub filled : List Piece → ℕ → List Item
  filled ps g = (fill (λ i. i) levels bodies ps g).0

  -- the next free label after pieces
  abbrev pub next : List Piece → ℕ → ℕ
  next ps g = (fill (λ i. i) levels bodies ps g).1

  pub filled_both : (ps qs : List Piece) (g : ℕ) → Closed ps → filled (ps ++ qs) g ≡ filled ps g ++ filled qs (next ps g)
  filled_both [] qs g h = refl
  filled_both (pieces.Item i ∷ ps) qs g h = ap (λ xs. i ∷ xs) (filled_both ps qs g h)
  filled_both (pieces.Body n ∷ ps) qs g h =
      let b = bodies n (levels n) (label_ahead ps) g in
      ap (λ l. (bodies n (levels n) l g).0 ++ filled (ps ++ qs) (bodies n (levels n) l g).1) (label_front ps qs h.0)
      ∙ ap (λ xs. b.0 ++ xs) (filled_both ps qs b.1 h.1) ∙ sym (append_assoc b.0 (filled ps b.1) (filled qs (next ps b.1)))

  pub record FilledParts (address : ℕ → ℕ) (S : Moment) (c : ℕ) (ps qs : List Piece) (g end : ℕ) : Type 0 where
    pub middle : ℕ
    pub front : Stands address S c (filled ps g) middle
    pub back : Stands address S middle (filled qs (next ps g)) end

  pub filled_parts : {address : ℕ → ℕ} {S : Moment} {c end : ℕ} (ps qs : List Piece) (g : ℕ) → Closed ps → Stands address S c (filled (ps ++ qs) g) end → FilledParts address S c ps qs g end
  filled_parts {address = address} {S = S} {c = c} {end = end} ps qs g h s =
      let q = parts (filled ps g) (filled qs (next ps g)) (subst (λ xs. Stands address S c xs end) (filled_both ps qs g h) s) in
      record { middle = q.middle; front = q.front; back = q.back }
