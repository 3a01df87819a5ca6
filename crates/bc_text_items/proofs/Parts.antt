-- Lists of items that are assembled in parts.
use Rattle.std.proofs.Common.{◌≡◌, ℕ, ◌+◌, ◌*◌, List, [], ◌∷◌, ◌++◌, length, refl, sym, ap, ◌∙◌, arith, append_assoc, length-append}
use Rattle.bc_text_items.specs.Sizes.{size_of_all, operation_size}
use Rattle.bc_text_items.specs.Assembled.{assembled, operation_words, short_or_long, instruction, label_places}
use Rattle.bc_text_items.specs.Laws.{BeginsWithNoByte, HasItsSize, StandApart}
use Rattle.bc_text_items.specs.declared.item.Item.{Item}
use Rattle.bc_text_items.specs.declared.item.Item.TheVariants.{Label, Data, DataLabel, Byte, Operation, Global}
use Rattle.bc_text_items.specs.declared.item.Base.{Base}
use Rattle.bc_text_items.specs.declared.item.Base.TheVariants as bases
use Rattle.bc_text_items.specs.declared.item.Function.{Function}
use Rattle.std.proofs.Common.{Bool, true, false, cond, leb}

-- ---- Sizes

one_or_two : (short : Bool) (one two three : ℕ) → length (cond short (one ∷ []) (two ∷ three ∷ [])) ≡ cond short 1 2
one_or_two true one two three = refl
one_or_two false one two three = refl

length-short_or_long : (function : Function) (indirect : Bool) (base : Base) (n : ℕ) → length (short_or_long function indirect base n) ≡ cond (leb n 511) 1 2
length-short_or_long function indirect base n = one_or_two (leb n 511) (instruction function indirect base n) (instruction function indirect base 512) n

length-operation_words : (address : ℕ → ℕ) (function : Function) (indirect : Bool) (base : Base) (n : ℕ)
    → length (operation_words address function indirect base n) ≡ operation_size base n
length-operation_words address function indirect bases.Label n = refl
length-operation_words address function indirect bases.Number n = length-short_or_long function indirect bases.Number n
length-operation_words address function indirect bases.P n = length-short_or_long function indirect bases.P n
length-operation_words address function indirect bases.G n = length-short_or_long function indirect bases.G n

pub length-assembled : (address : ℕ → ℕ) (items : List Item) → HasItsSize address items
length-assembled address [] = refl
length-assembled address (Byte a ∷ Byte b ∷ items) = omega (arith, length-assembled address items)
length-assembled address (Byte a ∷ []) = refl
length-assembled address (Byte a ∷ Label m ∷ items) = omega (arith, length-assembled address (Label m ∷ items))
length-assembled address (Byte a ∷ Data n ∷ items) = omega (arith, length-assembled address (Data n ∷ items))
length-assembled address (Byte a ∷ DataLabel m ∷ items) = omega (arith, length-assembled address (DataLabel m ∷ items))
length-assembled address (Byte a ∷ Operation f i b n ∷ items) = omega (arith, length-assembled address (Operation f i b n ∷ items))
length-assembled address (Byte a ∷ Global n m ∷ items) = omega (arith, length-assembled address (Global n m ∷ items))
length-assembled address (Label m ∷ items) = omega (arith, length-assembled address items)
length-assembled address (Data n ∷ items) = omega (arith, length-assembled address items)
length-assembled address (DataLabel m ∷ items) = omega (arith, length-assembled address items)
length-assembled address (Operation f i b n ∷ items) =
    omega (arith, length-append (operation_words address f i b n) (assembled address items), length-operation_words address f i b n, length-assembled address items)
length-assembled address (Global n m ∷ items) = omega (arith, length-assembled address items)

-- ---- Parts

-- a byte before an item that isn't a byte has a word of its own
byte_apart : (address : ℕ → ℕ) (start a : ℕ) (others : List Item) → BeginsWithNoByte others → StandApart address start (Byte a ∷ []) others
byte_apart address start a [] h = record { words = refl; size = refl; places = refl; settings = refl }
byte_apart address start a (Byte b ∷ others) h = absurd h
byte_apart address start a (Label m ∷ others) h = record { words = refl; size = refl; places = refl; settings = refl }
byte_apart address start a (Data n ∷ others) h = record { words = refl; size = refl; places = refl; settings = refl }
byte_apart address start a (DataLabel m ∷ others) h = record { words = refl; size = refl; places = refl; settings = refl }
byte_apart address start a (Operation f i b n ∷ others) h = record { words = refl; size = refl; places = refl; settings = refl }
byte_apart address start a (Global n m ∷ others) h = record { words = refl; size = refl; places = refl; settings = refl }

-- the address after k words, and after n more
moved : (start k n : ℕ) (others : List Item) → label_places (start + k + n) others ≡ label_places (start + (k + n)) others
moved start k n others = ap (λ at. label_places at others) (omega arith)

pub parts : (address : ℕ → ℕ) (start : ℕ) (items others : List Item) → BeginsWithNoByte others → StandApart address start items others
parts address start [] others h = record { words = refl; size = omega arith; places = ap (λ at. label_places at others) (omega arith); settings = refl }
parts address start (Byte a ∷ Byte b ∷ items) others h =
    let s = parts address (start + 1) items others h in
    record {
      words = ap (λ ws. (a * 256 + b) ∷ ws) s.words;
      size = omega (arith, s.size);
      places = s.places ∙ ap (λ ps. label_places (start + 1) items ++ ps) (moved start 1 (size_of_all items) others);
      settings = s.settings;
    }
parts address start (Byte a ∷ []) others h =
    let s = byte_apart address start a others h in record { words = s.words; size = s.size; places = s.places; settings = s.settings }
parts address start (Byte a ∷ Label m ∷ items) others h =
    let s = parts address (start + 1) (Label m ∷ items) others h in
    record {
      words = ap (λ ws. a * 256 ∷ ws) s.words;
      size = omega (arith, s.size);
      places = s.places ∙ ap (λ ps. label_places (start + 1) (Label m ∷ items) ++ ps) (moved start 1 (size_of_all (Label m ∷ items)) others);
      settings = s.settings;
    }
parts address start (Byte a ∷ Data n ∷ items) others h =
    let s = parts address (start + 1) (Data n ∷ items) others h in
    record {
      words = ap (λ ws. a * 256 ∷ ws) s.words;
      size = omega (arith, s.size);
      places = s.places ∙ ap (λ ps. label_places (start + 1) (Data n ∷ items) ++ ps) (moved start 1 (size_of_all (Data n ∷ items)) others);
      settings = s.settings;
    }
parts address start (Byte a ∷ DataLabel m ∷ items) others h =
    let s = parts address (start + 1) (DataLabel m ∷ items) others h in
    record {
      words = ap (λ ws. a * 256 ∷ ws) s.words;
      size = omega (arith, s.size);
      places = s.places ∙ ap (λ ps. label_places (start + 1) (DataLabel m ∷ items) ++ ps) (moved start 1 (size_of_all (DataLabel m ∷ items)) others);
      settings = s.settings;
    }
parts address start (Byte a ∷ Operation f i b n ∷ items) others h =
    let s = parts address (start + 1) (Operation f i b n ∷ items) others h in
    record {
      words = ap (λ ws. a * 256 ∷ ws) s.words;
      size = omega (arith, s.size);
      places = s.places ∙ ap (λ ps. label_places (start + 1) (Operation f i b n ∷ items) ++ ps) (moved start 1 (size_of_all (Operation f i b n ∷ items)) others);
      settings = s.settings;
    }
parts address start (Byte a ∷ Global g m ∷ items) others h =
    let s = parts address (start + 1) (Global g m ∷ items) others h in
    record {
      words = ap (λ ws. a * 256 ∷ ws) s.words;
      size = omega (arith, s.size);
      places = s.places ∙ ap (λ ps. label_places (start + 1) (Global g m ∷ items) ++ ps) (moved start 1 (size_of_all (Global g m ∷ items)) others);
      settings = s.settings;
    }
parts address start (Label m ∷ items) others h =
    let s = parts address start items others h in
    record {
      words = s.words;
      size = omega (arith, s.size);
      places = ap (λ ps. (m, start) ∷ ps) (s.places ∙ ap (λ ps. label_places start items ++ ps) (ap (λ k. label_places (start + k) others) (omega arith)));
      settings = s.settings;
    }
parts address start (Data n ∷ items) others h =
    let s = parts address (start + 1) items others h in
    record {
      words = ap (λ ws. n ∷ ws) s.words;
      size = omega (arith, s.size);
      places = s.places ∙ ap (λ ps. label_places (start + 1) items ++ ps) (moved start 1 (size_of_all items) others);
      settings = s.settings;
    }
parts address start (DataLabel m ∷ items) others h =
    let s = parts address (start + 1) items others h in
    record {
      words = ap (λ ws. address m ∷ ws) s.words;
      size = omega (arith, s.size);
      places = s.places ∙ ap (λ ps. label_places (start + 1) items ++ ps) (moved start 1 (size_of_all items) others);
      settings = s.settings;
    }
parts address start (Operation f i b n ∷ items) others h =
    let k = operation_size b n in
    let s = parts address (start + k) items others h in
    let words = operation_words address f i b n in
    record {
      words = ap (λ ws. words ++ ws) s.words ∙ sym (append_assoc words (assembled address items) (assembled address others));
      size = omega (arith, s.size);
      places = s.places ∙ ap (λ ps. label_places (start + k) items ++ ps) (moved start k (size_of_all items) others);
      settings = s.settings;
    }
parts address start (Global g m ∷ items) others h =
    let s = parts address (start + 0) items others h in
    record {
      words = s.words;
      size = omega (arith, s.size);
      places = s.places ∙ ap (λ ps. label_places (start + 0) items ++ ps) (moved start 0 (size_of_all items) others);
      settings = ap (λ gs. (g, m) ∷ gs) s.settings;
    }
