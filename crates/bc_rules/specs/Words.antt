-- For proofs: the words of the remaining pieces of a list, whose first byte may share a word with the byte before it.
use Rattle.std.specs.Prelude.{ℕ, Bool, true, false, not, cond, List, ◌∷◌}
use Rattle.bc_text_items.specs.declared.item.Item.TheVariants.{Byte}
use Rattle.bc_rules_defs.specs.declared.piece.Piece.{Piece}
use Rattle.bc_rules_defs.specs.declared.piece.Piece.TheVariants.{Item, Body}
use Rattle.bc_text_items.specs.Sizes.{size}
use Rattle.bc_rules_defs.specs.Piece.{words}

-- the words of the remaining pieces; `half` says that the last word before them has room for one more byte
abbrev pub rest_words : (half : Bool) → List Piece → ℕ
rest_words false ps = words ps
rest_words true (Item (Byte low) ∷ ps) = words ps
rest_words true ps = words ps

-- the words that a piece adds, and whether its last word has room for one more byte
abbrev pub added_words : (half : Bool) → Piece → ℕ
added_words half (Item (Byte b)) = cond half 0 1
added_words half (Item i) = size i
added_words half (Body n) = 0

-- whether there is room for one more byte after the piece
abbrev pub half_left : (half : Bool) → Piece → Bool
half_left half (Item (Byte b)) = not half
half_left half _ = false
