-- Words in a store are items that are there, and the data of a section's places.
use Rattle.std.proofs.Common.{◌≡◌, ℕ, zero, suc, ◌+◌, ◌*◌, ◌<◌, ◌≤◌, Option, Some, None, List, [], ◌∷◌, ◌++◌, length, append_assoc, length-append, refl, sym, ap, ◌∙◌, subst, arith}
use Rattle.std.specs.Prelude.{map, slice_index}
use Rattle.bc_text_items.specs.declared.item.Item.{Item}
use Rattle.bc_text_items.specs.declared.item.Item.TheVariants.{Label, Data, DataLabel, Byte, Operation, Global}
use Rattle.bc_text_items.specs.Sizes.{size, size_of_all}
use Rattle.bc_text_items.specs.Assembled.{operation_words, assembled, label_places}
use Rattle.bc_text_items.specs.Laws.{BeginsWithNoByte}
use Rattle.bc_text_items.proofs.Parts as items
use Rattle.bc_core.specs.Commands as commands
use Rattle.bc_core.specs.Commands.{Place}
use Rattle.bc_core.specs.Words.{packed}
use Rattle.bc_core.specs.Map.{Holding, ARoutine, Words, Standing, standing_from}
use Rattle.bc_gen_defs.specs.Section.{data_items, setting, setting_items}
use Rattle.bc_right.specs.steps.CodeAt.{HasWords, HasItems, words}
use Rattle.bc_right.proofs.step_lemmas.Items.{item_size}
use Rattle.bc_right.proofs.program_lemmas.Plain.{Plain}

-- words in their parts
pub words_front : (store : List ℕ) (c : ℕ) (xs ys : List ℕ) → HasWords store c (xs ++ ys) → HasWords store c xs
words_front store c [] ys h = tt
words_front store c (x ∷ xs) ys h = (h.0, words_front store (c + 1) xs ys h.1)

pub words_back : (store : List ℕ) (c : ℕ) (xs ys : List ℕ) → HasWords store c (xs ++ ys) → HasWords store (c + length xs) ys
words_back store c [] ys h = let e : c ≡ c + 0 = omega arith in subst (λ z. HasWords store z ys) e h
words_back store c (x ∷ xs) ys h = let e : c + 1 + length xs ≡ c + suc (length xs) = omega arith in subst (λ z. HasWords store z ys) e (words_back store (c + 1) xs ys h.1)

pub word_at : (store : List ℕ) (c k : ℕ) (ws : List ℕ) → HasWords store c ws → k < length ws → slice_index store (c + k) ≡ slice_index ws k
word_at store c k [] h lt = absurd (omega arith)
word_at store c zero (w ∷ ws) h lt = let e : c + 0 ≡ c = omega arith in ap (λ z. slice_index store z) e ∙ h.0
word_at store c (suc k) (w ∷ ws) h lt = let e : c + suc k ≡ c + 1 + k = omega arith in ap (λ z. slice_index store z) e ∙ word_at store (c + 1) k ws h.1 (omega arith)

first_word : (front : List ℕ) (x : ℕ) (rest : List ℕ) → slice_index (front ++ x ∷ rest) (length front) ≡ x
first_word [] x rest = refl
first_word (f ∷ fs) x rest = first_word fs x rest

-- what follows other words
pub words_after : (front xs rest : List ℕ) → HasWords (front ++ (xs ++ rest)) (length front) xs
words_after front [] rest = tt
words_after front (x ∷ xs) rest =
    let all : (front ++ x ∷ []) ++ (xs ++ rest) ≡ front ++ (x ∷ (xs ++ rest)) = append_assoc front (x ∷ []) (xs ++ rest) in
    let len : length (front ++ x ∷ []) ≡ length front + 1 = length-append front (x ∷ []) in (
      first_word front x (xs ++ rest),
      subst (λ z. HasWords (front ++ (x ∷ (xs ++ rest))) z xs) len (subst (λ z. HasWords z (length (front ++ x ∷ [])) xs) all (words_after (front ++ x ∷ []) xs rest)),
    )

-- each label's address is its place
abbrev pub LabelsAt : (ℕ → ℕ) → List (ℕ × ℕ) → Type 0
LabelsAt address [] = Unit {0}
LabelsAt address (p ∷ ps) = (address p.0 ≡ p.1) × LabelsAt address ps

pub labels_front : (address : ℕ → ℕ) (ps qs : List (ℕ × ℕ)) → LabelsAt address (ps ++ qs) → LabelsAt address ps
labels_front address [] qs h = tt
labels_front address (p ∷ ps) qs h = (h.0, labels_front address ps qs h.1)

pub labels_back : (address : ℕ → ℕ) (ps qs : List (ℕ × ℕ)) → LabelsAt address (ps ++ qs) → LabelsAt address qs
labels_back address [] qs h = h
labels_back address (p ∷ ps) qs h = labels_back address ps qs h.1

-- words and labels at their places are items in the store
pub items_stand : (address : ℕ → ℕ) (store : List ℕ) (c : ℕ) (is : List Item) → Plain is → HasWords store c (assembled address is) → LabelsAt address (label_places c is) → HasItems address store c is
items_stand address store c [] plain h l = tt
items_stand address store c (Byte b ∷ is) plain h l = absurd plain
items_stand address store c (Label m ∷ is) plain h l =
    let e : c ≡ c + 0 = omega arith in (tt, l.0, subst (λ z. HasItems address store z is) e (items_stand address store c is plain h l.1))
items_stand address store c (Data n ∷ is) plain h l = ((h.0, tt), tt, items_stand address store (c + 1) is plain h.1 l)
items_stand address store c (DataLabel n ∷ is) plain h l = ((h.0, tt), tt, items_stand address store (c + 1) is plain h.1 l)
items_stand address store c (Operation f i b n ∷ is) plain h l =
    let ws = operation_words address f i b n in
    let e : c + length ws ≡ c + size (Operation f i b n) = ap (λ z. c + z) (item_size address (Operation f i b n)) in
    (words_front store c ws (assembled address is) h, tt, items_stand address store (c + size (Operation f i b n)) is plain (subst (λ z. HasWords store z (assembled address is)) e (words_back store c ws (assembled address is) h)) l)
items_stand address store c (Global g m ∷ is) plain h l = absurd plain

pub plain_size : (is : List Item) → Plain is → size_of_all is ≡ words is
plain_size [] h = refl
plain_size (Byte b ∷ is) h = absurd h
plain_size (Label m ∷ is) h = ap (λ z. 0 + z) (plain_size is h)
plain_size (Data n ∷ is) h = ap (λ z. 1 + z) (plain_size is h)
plain_size (DataLabel n ∷ is) h = ap (λ z. 1 + z) (plain_size is h)
plain_size (Operation f i b n ∷ is) h = ap (λ z. size (Operation f i b n) + z) (plain_size is h)
plain_size (Global g m ∷ is) h = absurd h

-- data: the words of the places that have some are at their addresses, in order between two bounds
abbrev pub DataAfter : List ℕ → Holding → (a low : ℕ) → (ℕ → Type 0) → Type 0
DataAfter store (ARoutine g) a low rest = rest low
DataAfter store (Words ws) a low rest = HasWords store a ws × (low ≤ a) × rest (a + length ws)

abbrev pub DataAt : List ℕ → (low high : ℕ) → List Standing → Type 0
DataAt store low high [] = low ≤ high
DataAt store low high (s ∷ ss) = DataAfter store s.holding s.address low (λ z. DataAt store z high ss)

table_words : (address : ℕ → ℕ) (ws : List ℕ) (rest : List Item) → assembled address (map Data ws ++ rest) ≡ ws ++ assembled address rest
table_words address [] rest = refl
table_words address (w ∷ ws) rest = ap (λ z. w ∷ z) (table_words address ws rest)

table_places : (c : ℕ) (ws : List ℕ) (rest : List Item) → label_places c (map Data ws ++ rest) ≡ label_places (c + length ws) rest
table_places c [] rest = let e : c ≡ c + 0 = omega arith in ap (λ z. label_places z rest) e
table_places c (w ∷ ws) rest = let e : c + 1 + length ws ≡ c + suc (length ws) = omega arith in table_places (c + 1) ws rest ∙ ap (λ z. label_places z rest) e

table_size : (ws : List ℕ) (rest : List Item) → size_of_all (map Data ws ++ rest) ≡ length ws + size_of_all rest
table_size [] rest = omega arith
table_size (w ∷ ws) rest = let h = table_size ws rest in omega arith

bytes_words : (address : ℕ → ℕ) (bs : List ℕ) → assembled address (map Byte bs) ≡ packed bs
bytes_words address [] = refl
bytes_words address (b ∷ []) = refl
bytes_words address (b ∷ c ∷ bs) = ap (λ z. (b * 256 + c) ∷ z) (bytes_words address bs)

bytes_places : (c : ℕ) (bs : List ℕ) → label_places c (map Byte bs) ≡ []
bytes_places c [] = refl
bytes_places c (b ∷ []) = refl
bytes_places c (b ∷ d ∷ bs) = bytes_places (c + 1) bs

bytes_size : (bs : List ℕ) → size_of_all (map Byte bs) ≡ length (packed bs)
bytes_size [] = refl
bytes_size (b ∷ []) = refl
bytes_size (b ∷ c ∷ bs) = let h = bytes_size bs in omega arith

pub no_byte_in_settings : (j : ℕ) (ps : List Place) → BeginsWithNoByte (setting_items j ps)
no_byte_in_settings j [] = tt
no_byte_in_settings j (commands.Code r ∷ ps) = by_global r.global (no_byte_in_settings (j + 1) ps) where
  by_global : (g : Option ℕ) → BeginsWithNoByte (setting_items (j + 1) ps) → BeginsWithNoByte (setting g (j + 1) ++ setting_items (j + 1) ps)
  by_global None h = h
  by_global (Some n) h = tt
no_byte_in_settings j (commands.Static w ∷ ps) = no_byte_in_settings (j + 1) ps
no_byte_in_settings j (commands.Table ws ∷ ps) = no_byte_in_settings (j + 1) ps
no_byte_in_settings j (commands.Text bytes ∷ ps) = no_byte_in_settings (j + 1) ps

pub no_byte_in_data : (j : ℕ) (ps : List Place) (others : List Item) → BeginsWithNoByte others → BeginsWithNoByte (data_items j ps ++ others)
no_byte_in_data j [] others h = h
no_byte_in_data j (commands.Code r ∷ ps) others h = no_byte_in_data (j + 1) ps others h
no_byte_in_data j (commands.Static w ∷ ps) others h = tt
no_byte_in_data j (commands.Table ws ∷ ps) others h = tt
no_byte_in_data j (commands.Text bytes ∷ ps) others h = tt

pub data_stand : (address : ℕ → ℕ) (store : List ℕ) (low high j : ℕ) (ps : List Place) (others : List Item) (c : ℕ) → BeginsWithNoByte others → low ≤ c → c + size_of_all (data_items j ps ++ others) ≤ high
    → HasWords store c (assembled address (data_items j ps ++ others)) → LabelsAt address (label_places c (data_items j ps ++ others)) → DataAt store low high (standing_from address (j + 1) ps)
data_stand address store low high j [] others c n lo hi h l = omega arith
data_stand address store low high j (commands.Code r ∷ ps) others c n lo hi h l = data_stand address store low high (j + 1) ps others c n lo hi h l
data_stand address store low high j (commands.Static w ∷ ps) others c n lo hi h l = (
  subst (λ z. HasWords store z (w ∷ [])) (sym l.0) (h.0, tt),
  omega (arith, l.0),
  data_stand address store (address (j + 1) + 1) high (j + 1) ps others (c + 1) n (omega (arith, l.0)) (omega arith) h.1 l.1,
)
data_stand address store low high j (commands.Table ws ∷ ps) others c n lo hi h l =
    let rest = data_items (j + 1) ps ++ others in
    let same : (map Data ws ++ data_items (j + 1) ps) ++ others ≡ map Data ws ++ rest = append_assoc (map Data ws) (data_items (j + 1) ps) others in
    let size = ap size_of_all same ∙ table_size ws rest in
    let here = subst (λ z. HasWords store c z) (ap (assembled address) same ∙ table_words address ws rest) h in
    let labels = subst (λ z. LabelsAt address z) (ap (label_places c) same ∙ table_places c ws rest) l.1 in (
      subst (λ z. HasWords store z ws) (sym l.0) (words_front store c ws (assembled address rest) here),
      omega (arith, l.0),
      data_stand address store (address (j + 1) + length ws) high (j + 1) ps others (c + length ws) n (omega (arith, l.0)) (omega (arith, size, hi)) (words_back store c ws (assembled address rest) here) labels,
    )
data_stand address store low high j (commands.Text bytes ∷ ps) others c n lo hi h l =
    let rest = data_items (j + 1) ps ++ others in
    let all = length bytes ∷ bytes in
    let same : (map Byte bytes ++ data_items (j + 1) ps) ++ others ≡ map Byte bytes ++ rest = append_assoc (map Byte bytes) (data_items (j + 1) ps) others in
    let whole : Byte (length bytes) ∷ ((map Byte bytes ++ data_items (j + 1) ps) ++ others) ≡ map Byte all ++ rest = ap (λ z. Byte (length bytes) ∷ z) same in
    let apart = items.parts address c (map Byte all) rest (no_byte_in_data (j + 1) ps others n) in
    let count = bytes_size all in
    let size = ap size_of_all whole ∙ apart.size in
    let here = subst (λ z. HasWords store c z) (ap (assembled address) whole ∙ apart.words ∙ ap (λ z. z ++ assembled address rest) (bytes_words address all)) h in
    let labels = subst (λ z. LabelsAt address z) (ap (label_places c) whole ∙ apart.places ∙ ap (λ z. z ++ label_places (c + size_of_all (map Byte all)) rest) (bytes_places c all)) l.1 in (
      subst (λ z. HasWords store z (packed all)) (sym l.0) (words_front store c (packed all) (assembled address rest) here),
      omega (arith, l.0),
      data_stand address store (address (j + 1) + length (packed all)) high (j + 1) ps others (c + length (packed all)) n (omega (arith, l.0)) (omega (arith, size, count, hi)) (words_back store c (packed all) (assembled address rest) here)
          (subst (λ z. LabelsAt address (label_places (c + z) rest)) count labels),
    )
