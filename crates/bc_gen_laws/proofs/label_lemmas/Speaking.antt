-- Which labels items and pieces use.
use Rattle.std.proofs.Common.{◌≡◌, ℕ, ◌≤◌, ◌<◌, Bool, Option, Some, None, List, [], ◌∷◌, ◌++◌, refl, sym, subst, arith}
use Rattle.bc_text_items.specs.declared.item.Item.{Item}
use Rattle.bc_text_items.specs.declared.item.Item.TheVariants as items
use Rattle.bc_text_items.specs.declared.item.Base.{Base}
use Rattle.bc_text_items.specs.declared.item.Base.TheVariants as bases
use Rattle.bc_text_items.specs.declared.item.Function.{Function}
use Rattle.bc_rules_defs.specs.declared.piece.Piece.{Piece}
use Rattle.bc_rules_defs.specs.declared.piece.Piece.TheVariants as pieces
use Rattle.bc_gen_defs.specs.Bodies.{label_ahead}
use Rattle.bc_link.specs.Labels.{use_of}

-- the labels from 1 to n - 1
abbrev pub In : ℕ → ℕ → Type 0
In n l = (1 ≤ l) × (l < n)

abbrev pub Known : ℕ → Option ℕ → Type 0
Known n None = Unit {0}
Known n (Some l) = In n l

-- items that use only these labels
abbrev pub AllKnown : ℕ → List Item → Type 0
AllKnown n [] = Unit {0}
AllKnown n (i ∷ is) = Known n (use_of i) × AllKnown n is

-- pieces that use only these labels, and in which each body is followed by one of them
abbrev pub PiecesKnown : ℕ → List Piece → Type 0
PiecesKnown n [] = Unit {0}
PiecesKnown n (pieces.Item i ∷ ps) = Known n (use_of i) × PiecesKnown n ps
PiecesKnown n (pieces.Body m ∷ ps) = In n (label_ahead ps) × PiecesKnown n ps

-- the same as a record, so that a call shows which items are meant
pub record Speaks (n : ℕ) (is : List Item) : Type 0 where
  pub all : AllKnown n is

pub record PiecesSpeak (n : ℕ) (ps : List Piece) : Type 0 where
  pub all : PiecesKnown n ps

known_both : (n : ℕ) (xs ys : List Item) → AllKnown n xs → AllKnown n ys → AllKnown n (xs ++ ys)
known_both n [] ys h k = k
known_both n (i ∷ xs) ys h k = (h.0, known_both n xs ys h.1 k)

pub both : {n : ℕ} (xs ys : List Item) → Speaks n xs → Speaks n ys → Speaks n (xs ++ ys)
both {n = n} xs ys h k = record { all = known_both n xs ys h.all k.all }

pub nothing : {n : ℕ} → Speaks n []
nothing = record { all = tt }

pub item : {n : ℕ} (i : Item) (is : List Item) → Known n (use_of i) → Speaks n is → Speaks n (i ∷ is)
item i is u h = record { all = (u, h.all) }

not_ahead : (n : ℕ) (xs ys : List Piece) → In n (label_ahead xs) → label_ahead (xs ++ ys) ≡ label_ahead xs
not_ahead n [] ys h = let h0 = h.0 in absurd (omega arith)
not_ahead n (pieces.Item (items.Label l) ∷ ps) ys h = refl
not_ahead n (pieces.Item (items.Data l) ∷ ps) ys h = let h0 = h.0 in absurd (omega arith)
not_ahead n (pieces.Item (items.DataLabel l) ∷ ps) ys h = let h0 = h.0 in absurd (omega arith)
not_ahead n (pieces.Item (items.Byte l) ∷ ps) ys h = let h0 = h.0 in absurd (omega arith)
not_ahead n (pieces.Item (items.Operation function indirect base l) ∷ ps) ys h = let h0 = h.0 in absurd (omega arith)
not_ahead n (pieces.Item (items.Global g l) ∷ ps) ys h = let h0 = h.0 in absurd (omega arith)
not_ahead n (pieces.Body m ∷ ps) ys h = let h0 = h.0 in absurd (omega arith)

pieces_known : (n : ℕ) (xs ys : List Piece) → PiecesKnown n xs → PiecesKnown n ys → PiecesKnown n (xs ++ ys)
pieces_known n [] ys h k = k
pieces_known n (pieces.Item i ∷ xs) ys h k = (h.0, pieces_known n xs ys h.1 k)
pieces_known n (pieces.Body m ∷ xs) ys h k = (subst (In n) (sym (not_ahead n xs ys h.0)) h.0, pieces_known n xs ys h.1 k)

pub pieces_both : {n : ℕ} {xs ys : List Piece} → PiecesSpeak n xs → PiecesSpeak n ys → PiecesSpeak n (xs ++ ys)
pieces_both {n = n} {xs = xs} {ys = ys} h k = record { all = pieces_known n xs ys h.all k.all }

pub no_piece : {n : ℕ} → PiecesSpeak n []
no_piece = record { all = tt }

pub piece : {n : ℕ} {i : Item} {ps : List Piece} → Known n (use_of i) → PiecesSpeak n ps → PiecesSpeak n (pieces.Item i ∷ ps)
piece u h = record { all = (u, h.all) }

pub body : {n m : ℕ} {ps : List Piece} → In n (label_ahead ps) → PiecesSpeak n ps → PiecesSpeak n (pieces.Body m ∷ ps)
body u h = record { all = (u, h.all) }

-- an address that is no other label
abbrev pub BaseKnown : ℕ → Base → ℕ → Type 0
BaseKnown n bases.Label l = In n l
BaseKnown n bases.Number l = Unit {0}
BaseKnown n bases.P l = Unit {0}
BaseKnown n bases.G l = Unit {0}

pub operation_known : (n : ℕ) (function : Function) (indirect : Bool) (base : Base) (l : ℕ) → BaseKnown n base l → Known n (use_of (items.Operation function indirect base l))
operation_known n function indirect bases.Label l h = h
operation_known n function indirect bases.Number l h = tt
operation_known n function indirect bases.P l h = tt
operation_known n function indirect bases.G l h = tt
