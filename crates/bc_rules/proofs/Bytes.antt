-- The words of a list of pieces, piece by piece.
use Rattle.std.proofs.Common.{◌≡◌, ℕ, ◌+◌, ◌<◌, ◌≤◌, Bool, true, false, cond, nat_le, List, [], ◌∷◌, length, get_or, drop, refl, sym, ap, ◌∙◌, arith, add-one, zero-add, drop-cons}
use Rattle.bc_text_items.specs.declared.item.Item.TheVariants.{Label, Data, DataLabel, Byte, Operation, Global}
use Rattle.bc_text_items.specs.declared.item.Base.{Base}
use Rattle.bc_text_items.specs.declared.item.Base.TheVariants as bases
use Rattle.bc_text_items.specs.Sizes.{operation_size}
use Rattle.bc_rules_defs.specs.declared.piece.Piece.{Piece}
use Rattle.bc_rules_defs.specs.declared.piece.Piece.TheVariants as pieces
use Rattle.bc_rules_defs.specs.declared.piece.Piece.TheVariants.{Body}
use Rattle.bc_rules_defs.specs.Piece.{words}
use Rattle.bc_rules.specs.Words.{rest_words, added_words, half_left}

pub first_byte : (b : ℕ) (ps : List Piece) → words (pieces.Item (Byte b) ∷ ps) ≡ 1 + rest_words true ps
first_byte b [] = refl
first_byte b (pieces.Item (Byte c) ∷ ps) = refl
first_byte b (pieces.Item (Label m) ∷ ps) = refl
first_byte b (pieces.Item (Data n) ∷ ps) = refl
first_byte b (pieces.Item (DataLabel m) ∷ ps) = refl
first_byte b (pieces.Item (Operation f i s n) ∷ ps) = refl
first_byte b (pieces.Item (Global g l) ∷ ps) = refl
first_byte b (Body n ∷ ps) = refl

step : (half : Bool) (p : Piece) (ps : List Piece) → rest_words half (p ∷ ps) ≡ added_words half p + rest_words (half_left half p) ps
step false (pieces.Item (Byte b)) ps = first_byte b ps
step true (pieces.Item (Byte b)) ps = sym (zero-add (words ps))
step false (pieces.Item (Label m)) ps = refl
step false (pieces.Item (Data n)) ps = refl
step false (pieces.Item (DataLabel m)) ps = refl
step false (pieces.Item (Operation f i s n)) ps = refl
step false (pieces.Item (Global g l)) ps = refl
step true (pieces.Item (Label m)) ps = refl
step true (pieces.Item (Data n)) ps = refl
step true (pieces.Item (DataLabel m)) ps = refl
step true (pieces.Item (Operation f i s n)) ps = refl
step true (pieces.Item (Global g l)) ps = refl
step false (Body n) ps = sym (zero-add (words ps))
step true (Body n) ps = sym (zero-add (words ps))

pub words_next : (ps : List Piece) (i : ℕ) (half : Bool) (p : Piece) → i < length ps → rest_words half (drop i ps) ≡ added_words half (get_or ps i p) + rest_words (half_left half (get_or ps i p)) (drop (i + 1) ps)
words_next ps i half p h = ap (rest_words half) (drop-cons ps i p h ∙ ap (λ n. get_or ps i p ∷ drop n ps) (sym (add-one i))) ∙ step half (get_or ps i p) (drop (i + 1) ps)

cond_small : (b : Bool) → cond b 1 2 ≤ 2
cond_small true = omega arith
cond_small false = omega arith

operation_small : (s : Base) (n : ℕ) → operation_size s n ≤ 2
operation_small bases.Label n = omega arith
operation_small bases.Number n = cond_small (nat_le n 511)
operation_small bases.P n = cond_small (nat_le n 511)
operation_small bases.G n = cond_small (nat_le n 511)

pub added_small : (half : Bool) (p : Piece) → added_words half p ≤ 2
added_small true (pieces.Item (Byte b)) = omega arith
added_small false (pieces.Item (Byte b)) = omega arith
added_small half (pieces.Item (Label m)) = omega arith
added_small half (pieces.Item (Data n)) = omega arith
added_small half (pieces.Item (DataLabel m)) = omega arith
added_small half (pieces.Item (Operation f i s n)) = operation_small s n
added_small half (pieces.Item (Global g l)) = omega arith
added_small half (Body n) = omega arith
