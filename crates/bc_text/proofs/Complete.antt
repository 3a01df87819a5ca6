-- Every text is read as what it spells: each element advances the reader by what it spells.
use Rattle.std.proofs.Common.{◌≡◌, inl, inr, ℕ, ◌+◌, ◌-◌, ◌*◌, ◌%◌, ◌≤◌, List, [], ◌∷◌, ◌++◌, length, map, Result, Ok, Err, Bool, true, false, ◌&&◌, cond, eqb, refl, sym, ap, ◌∙◌, arith, append_assoc, append-nil, length-append, ◌≢◌}
use Rattle.std.proofs.lemmas.Bool.Decides.{nat_tests}
use Rattle.std.proofs.lemmas.Bool.{le-ltb}
use Rattle.std.specs.Char.{is_ascii_digit}
use Rattle.std.specs.Str.{all_ascii_digits}
use Rattle.bc_text_items.specs.declared.item.Item.{Item}
use Rattle.bc_text_items.specs.declared.item.Item.TheVariants as items
use Rattle.bc_text_items.specs.declared.item.Base.{Base}
use Rattle.bc_text_items.specs.declared.item.Base.TheVariants as bases
use Rattle.bc_text_items.specs.declared.item.Function.{Function}
use Rattle.bc_text_items.specs.declared.item.Function.TheVariants as functions
use Rattle.bc_text.specs.Numbers.{value_from, IsNumber, IsSignedNumber}
use Rattle.bc_text.specs.Letters.{letter, indirection, base_letter, operation_letters, is_blank}
use Rattle.bc_text.specs.Spelling.{Spells, IsOperationNumber}
use Rattle.bc_text.specs.Texts.{BeginsWithNoDigit, HasNoLineEnd, BeginsWithLineEnd, Begins, IsText, elements_of, Element, an_item, end_of_segment, nothing, blank, comment, item, segment_end}
use Rattle.bc_text.specs.Heads.{IsHead, allows, limit}
use Rattle.bc_text.specs.Faults.{capped}
use Rattle.bc_text.specs.Steps.{Progress, at_place, with_digit, if_in_range, greatest, placed_at, begun, between, ended_number, word_of, answer, answer_of, run, finished_at, on_ok, start}
use Rattle.bc_text.specs.declared.head.Head.{Head}
use Rattle.bc_text.specs.declared.head.Head.TheVariants as heads
use Rattle.bc_text.specs.declared.head.Ended.TheVariants as ended
use Rattle.bc_text.specs.declared.head.Position.{Position}
use Rattle.bc_text.specs.declared.head.Position.TheVariants as places
use Rattle.bc_text.specs.declared.text_error.TextError.{TextError}
use Rattle.bc_text.specs.declared.text_error.TextError.TheVariants as errors
use Rattle.bc_text.proofs.States.{state, step-state, answer-step}

-- ---- Bytes

pub and_true : (a b : Bool) → (a && b) ≡ true → (a ≡ true) × (b ≡ true)
and_true true b e = (refl, e)
and_true false b e = absurd cc

-- a digit isn't `Z`, a blank or `/`
pub digit_is_no_sign : (d : ℕ) → is_ascii_digit d ≡ true → (eqb d 90 ≡ false) × (is_blank d ≡ false) × (eqb d 47 ≡ false)
digit_is_no_sign d h = (grind (arith, nat_tests), grind (arith, nat_tests), grind (arith, nat_tests))

-- ---- Numbers

pub value_from-ge : (n : ℕ) (digits : List ℕ) → n ≤ value_from n digits
value_from-ge n [] = omega arith
value_from-ge n (d ∷ digits) = omega (arith, value_from-ge (n * 10 + (d - 48)) digits)

-- the count of bytes may be written in another way
pub counted : (bytes : List ℕ) (s : List (List Item)) (i : List Item) (place : Position) (m n : ℕ) → m ≡ n
    → answer bytes (state s i place m) ≡ answer bytes (state s i place n)
counted bytes s i place m n e = ap (λ k. answer bytes (state s i place k)) e

-- a digit that stays in range
pub in_range : (head : Head) (from : ℕ) (negative : Bool) (value : ℕ) → value ≤ greatest head negative
    → if_in_range head from negative value ≡ Ok (places.Digits head from negative value)
in_range head from negative value h = rw (le-ltb _ _ h) refl

-- digits continue the number while it is in range
pub digits_read : (s : List (List Item)) (i : List Item) (head : Head) (from : ℕ) (negative : Bool) (value n : ℕ) (digits more : List ℕ)
    → all_ascii_digits digits ≡ true → value_from value digits ≤ greatest head negative
    → answer (digits ++ more) (state s i (places.Digits head from negative value) n)
    ≡ answer more (state s i (places.Digits head from negative (value_from value digits)) (n + length digits))
digits_read s i head from negative value n [] more all fits = counted more s i _ n (n + 0) (omega arith)
digits_read s i head from negative value n (d ∷ digits) more all fits =
    let here : (is_ascii_digit d ≡ true) × (all_ascii_digits digits ≡ true) = and_true _ _ all in
    let next : ℕ = value * 10 + (d - 48) in
    let low : next ≤ greatest head negative = omega (arith, value_from-ge next digits) in
    let place = places.Digits head from negative value in
    answer-step s i place n d (digits ++ more) (state s i (places.Digits head from negative next) (n + 1))
    (rw (here.0) (ap (placed_at (state s i place (n + 1))) (in_range head from negative next low)))
    ∙ digits_read s i head from negative next (n + 1) digits more here.1 fits
    ∙ counted more s i _ (n + 1 + length digits) (n + length (d ∷ digits)) (omega arith)

-- the place takes a first digit as the beginning of a number after this head
abbrev pub TakesNumber : Position → Head → ℕ → Bool → ℕ → Type 0
TakesNumber place head from negative n =
    (s : List (List Item)) (i : List Item) (d : ℕ) → is_ascii_digit d ≡ true
    → at_place (state s i place (n + 1)) place d (capped n) ≡ placed_at (state s i place (n + 1)) (with_digit head from negative 0 d)

pub between_takes_label : (n : ℕ) → TakesNumber places.Between heads.Label (capped n) false n
between_takes_label n s i d h = let no = digit_is_no_sign d h in rw (no.0, no.1, no.2, h) refl

pub head_takes_number : (head : Head) (n : ℕ) → TakesNumber (places.Head head) head (capped n) false n
head_takes_number head n s i d h = rw h refl

pub minus_takes_number : (head : Head) (from n : ℕ) → TakesNumber (places.Minus head from) head from true n
minus_takes_number head from n s i d h = rw h refl

-- a number is read, up to what follows its digits
pub number_read : (s : List (List Item)) (i : List Item) (place : Position) (head : Head) (from : ℕ) (negative : Bool) (limit value n : ℕ) (digits more : List ℕ)
    → TakesNumber place head from negative n → limit ≡ greatest head negative → IsNumber limit digits value
    → answer (digits ++ more) (state s i place n) ≡ answer more (state s i (places.Digits head from negative value) (n + length digits))
number_read s i place head from negative limit value n [] more takes same number = absurd number
number_read s i place head from negative limit value n (d ∷ digits) more takes same number =
    let here : (is_ascii_digit d ≡ true) × (all_ascii_digits digits ≡ true) = and_true _ _ number.0 in
    let first : ℕ = 0 * 10 + (d - 48) in
    let fits : value_from first digits ≤ greatest head negative = omega (arith, number.1, number.2) in
    let low : first ≤ greatest head negative = omega (arith, value_from-ge first digits) in
    answer-step s i place n d (digits ++ more) (state s i (places.Digits head from negative first) (n + 1))
    (takes s i d here.0 ∙ ap (placed_at (state s i place (n + 1))) (in_range head from negative first low))
    ∙ digits_read s i head from negative first (n + 1) digits more here.1 fits
    ∙ ap (λ v. answer more (state s i (places.Digits head from negative v) (n + 1 + length digits))) number.1
    ∙ counted more s i _ (n + 1 + length digits) (n + length (d ∷ digits)) (omega arith)

-- ---- Heads

abbrev plain : Function → Bool → Base → Head
plain function indirect base = heads.Operation function indirect base

pub letter_read : (function : Function) (s : List (List Item)) (i : List Item) (n : ℕ)
    → at_place (state s i places.Between (n + 1)) places.Between (letter function) (capped n) ≡ Ok (state s i (places.Head (plain function false bases.Number)) (n + 1))
letter_read functions.Load s i n = refl
letter_read functions.Store s i n = refl
letter_read functions.Add s i n = refl
letter_read functions.Jump s i n = refl
letter_read functions.JumpIfTrue s i n = refl
letter_read functions.JumpIfFalse s i n = refl
letter_read functions.Call s i n = refl
letter_read functions.Execute s i n = refl

pub indirection_read : (function : Function) (indirect : Bool) (s : List (List Item)) (i : List Item) (n : ℕ) (more : List ℕ)
    → answer (indirection indirect ++ more) (state s i (places.Head (plain function false bases.Number)) n)
    ≡ answer more (state s i (places.Head (plain function indirect bases.Number)) (n + length (indirection indirect)))
indirection_read function true s i n more = answer-step s i _ n 73 more _ refl
indirection_read function false s i n more = counted more s i _ n (n + 0) (omega arith)

pub base_read : (function : Function) (indirect : Bool) (base : Base) (s : List (List Item)) (i : List Item) (n : ℕ) (more : List ℕ)
    → answer (base_letter base ++ more) (state s i (places.Head (plain function indirect bases.Number)) n)
    ≡ answer more (state s i (places.Head (plain function indirect base)) (n + length (base_letter base)))
base_read function indirect bases.Number s i n more = counted more s i _ n (n + 0) (omega arith)
base_read function indirect bases.P s i n more = answer-step s i _ n 80 more _ refl
base_read function indirect bases.G s i n more = answer-step s i _ n 71 more _ refl
base_read function indirect bases.Label s i n more = answer-step s i _ n 76 more _ refl

pub operation_read : (function : Function) (indirect : Bool) (base : Base) (s : List (List Item)) (i : List Item) (n : ℕ) (more : List ℕ)
    → answer (operation_letters function indirect base ++ more) (state s i places.Between n)
    ≡ answer more (state s i (places.Head (plain function indirect base)) (n + length (operation_letters function indirect base)))
operation_read function indirect base s i n more =
    let two = indirection indirect in
    let three = base_letter base in
    answer-step s i places.Between n (letter function) ((two ++ three) ++ more) _ (letter_read function s i n)
    ∙ ap (λ bytes. answer bytes (state s i (places.Head (plain function false bases.Number)) (n + 1))) (append_assoc two three more)
    ∙ indirection_read function indirect s i (n + 1) (three ++ more)
    ∙ base_read function indirect base s i (n + 1 + length two) more
    ∙ counted more s i _ (n + 1 + length two + length three) (n + length (operation_letters function indirect base)) (omega (arith, length-append two three))

-- the number of a global
pub global_read : (s : List (List Item)) (i : List Item) (g n : ℕ) (number more : List ℕ) → IsNumber 511 number g
    → answer (71 ∷ (number ++ more)) (state s i places.Between n)
    ≡ answer more (state s i (places.Digits heads.Global (capped (n + 1)) false g) (n + (1 + length number)))
global_read s i g n number more is =
    answer-step s i places.Between n 71 (number ++ more) (state s i (places.Head heads.Global) (n + 1)) refl
    ∙ number_read s i (places.Head heads.Global) heads.Global (capped (n + 1)) false 511 g (n + 1) number more (head_takes_number heads.Global (n + 1)) refl is
    ∙ counted more s i _ (n + 1 + length number) (n + (1 + length number)) (omega arith)

pub label_mark_read : (s : List (List Item)) (i : List Item) (g from n : ℕ) (more : List ℕ)
    → answer (76 ∷ more) (state s i (places.Digits heads.Global from false g) n) ≡ answer more (state s i (places.Head (heads.GlobalLabel g)) (n + 1))
label_mark_read s i g from n more = answer-step s i (places.Digits heads.Global from false g) n 76 more (state s i (places.Head (heads.GlobalLabel g)) (n + 1)) refl

-- a head is read
pub head_read : (s : List (List Item)) (i : List Item) (head : Head) (n : ℕ) (front more : List ℕ) → IsHead front head → head ≢ heads.Label
    → answer (front ++ more) (state s i places.Between n) ≡ answer more (state s i (places.Head head) (n + length front))
head_read s i heads.Label n front more is other = absurd (other refl)
head_read s i heads.Data n front more is other = rw is (answer-step s i places.Between n 68 more _ refl)
head_read s i heads.DataLabel n front more is other =
    rw is (answer-step s i places.Between n 68 (76 ∷ more) (state s i (places.Head heads.Data) (n + 1)) refl
    ∙ answer-step s i (places.Head heads.Data) (n + 1) 76 more (state s i (places.Head heads.DataLabel) (n + 1 + 1)) refl
    ∙ counted more s i _ (n + 1 + 1) (n + 2) (omega arith))
head_read s i heads.Byte n front more is other = rw is (answer-step s i places.Between n 67 more _ refl)
head_read s i (heads.Operation function indirect base) n front more is other = rw is (operation_read function indirect base s i n more)
head_read s i heads.Global n front more is other = rw is (answer-step s i places.Between n 71 more _ refl)
head_read s i (heads.GlobalLabel g) n front more is other =
    rw (is.1, append_assoc is.0 (76 ∷ []) more)
    (global_read s i g n is.0 (76 ∷ more) is.2
    ∙ label_mark_read s i g (capped (n + 1)) (n + (1 + length is.0)) more
    ∙ counted more s i _ (n + (1 + length is.0) + 1) (n + length (71 ∷ (is.0 ++ 76 ∷ []))) (omega (arith, length-append is.0 (76 ∷ []))))

-- ---- Items

-- an item may begin after a complete number exactly as between items
begun-place : (s : List (List Item)) (i : List Item) (place : Position) (n byte at : ℕ)
    → begun (state s i place n) byte at ≡ begun (state s i places.Between n) byte at
begun-place s i place n byte at = go (eqb byte 90) (between byte at)
  where
    go : (z : Bool) (r : Result Position TextError)
        → cond z (Ok (state (s ++ i ∷ []) [] places.Between n)) (placed_at (state s i place n) r)
        ≡ cond z (Ok (state (s ++ i ∷ []) [] places.Between n)) (placed_at (state s i places.Between n) r)
    go true r = refl
    go false (Ok q) = refl
    go false (Err f) = refl

unended : (i : List Item) (it : Item) (s : List (List Item)) → Err errors.Unended ≡ finished_at places.Between (i ++ it ∷ []) s
unended [] it s = refl
unended (x ∷ i) it s = refl

-- a byte that isn't a digit ends a number, and begins what follows its item
number_ended : (s : List (List Item)) (i : List Item) (head : Head) (from : ℕ) (negative : Bool) (value n : ℕ) (it : Item) (byte at : ℕ)
    → is_ascii_digit byte ≡ false → ended_number head negative value ≡ ended.Item it
    → at_place (state s i (places.Digits head from negative value) n) (places.Digits head from negative value) byte at
    ≡ begun (state s (i ++ it ∷ []) (places.Digits head from negative value) n) byte at
number_ended s i head from negative value n it byte at last made = rw (made, last) refl

-- where no digit follows, a number has ended and completed its item
pub ended_read : (s : List (List Item)) (i : List Item) (head : Head) (from : ℕ) (negative : Bool) (value n : ℕ) (it : Item) (more : List ℕ)
    → BeginsWithNoDigit more → ended_number head negative value ≡ ended.Item it
    → answer more (state s i (places.Digits head from negative value) n) ≡ answer more (state s (i ++ it ∷ []) places.Between n)
unfolding run
ended_read s i head from negative value n it [] last made = unended i it s
ended_read s i head from negative value n it (byte ∷ more) last made =
    let place = places.Digits head from negative value in
    ap (λ r. answer_of (on_ok r (run more)))
    (step-state s i place n byte
    ∙ number_ended s i head from negative value (n + 1) it byte (capped n) last made
    ∙ begun-place s (i ++ it ∷ []) place (n + 1) byte (capped n)
    ∙ sym (step-state s (i ++ it ∷ []) places.Between n byte))

-- a number without sign after a head, and its item
pub unsigned_read : (s : List (List Item)) (i : List Item) (place : Position) (head : Head) (from limit value n : ℕ) (it : Item) (digits more : List ℕ)
    → TakesNumber place head from false n → limit ≡ greatest head false → IsNumber limit digits value → BeginsWithNoDigit more
    → ended_number head false value ≡ ended.Item it
    → answer (digits ++ more) (state s i place n) ≡ answer more (state s (i ++ it ∷ []) places.Between (n + length digits))
unsigned_read s i place head from limit value n it digits more takes same number last made =
    number_read s i place head from false limit value n digits more takes same number
    ∙ ended_read s i head from false value (n + length digits) it more last made

-- the place that a `-` leads to after a head
pub minus_read : (head : Head) (s : List (List Item)) (i : List Item) (n : ℕ) → allows head 45 ≡ true
    → at_place (state s i (places.Head head) (n + 1)) (places.Head head) 45 (capped n) ≡ Ok (state s i (places.Minus head (capped n)) (n + 1))
minus_read head s i n h = rw h refl

-- a number that may have a sign after a head, and its item
pub signed_read : (s : List (List Item)) (i : List Item) (head : Head) (value n : ℕ) (item_of : ℕ → Item) (text more : List ℕ)
    → allows head 45 ≡ true → limit head ≡ 65535 → ((negative : Bool) (v : ℕ) → ended_number head negative v ≡ ended.Item (item_of (word_of negative v)))
    → IsSignedNumber text value → BeginsWithNoDigit more
    → answer (text ++ more) (state s i (places.Head head) n) ≡ answer more (state s (i ++ item_of value ∷ []) places.Between (n + length text))
signed_read s i head value n item_of text more allowed high made (inl number) last =
    unsigned_read s i (places.Head head) head (capped n) 65535 value n (item_of value) text more (head_takes_number head n) (sym high) number last (made false value)
signed_read s i head value n item_of text more allowed high made (inr (digits, m, is, number, stands)) last =
    rw is (answer-step s i (places.Head head) n 45 (digits ++ more) (state s i (places.Minus head (capped n)) (n + 1)) (minus_read head s i n allowed)
    ∙ number_read s i (places.Minus head (capped n)) head (capped n) true 32768 m (n + 1) digits more (minus_takes_number head (capped n) (n + 1)) (lowest head high) number
    ∙ ended_read s i head (capped n) true m (n + 1 + length digits) (item_of ((65536 - m) % 65536)) more last (made true m)
    ∙ ap (λ v. answer more (state s (i ++ item_of v ∷ []) places.Between (n + 1 + length digits))) (sym stands)
    ∙ counted more s (i ++ item_of value ∷ []) places.Between (n + 1 + length digits) (n + length (45 ∷ digits)) (omega arith))
  where
    lowest : (head : Head) → limit head ≡ 65535 → 32768 ≡ greatest head true
    lowest head high = rw high refl

abbrev allowed_with : Function → Bool → Base → Type 0
allowed_with function indirect base = allows (plain function indirect base) 45 ≡ true

operation_number_read : (s : List (List Item)) (i : List Item) (function : Function) (indirect : Bool) (base : Base) (value n : ℕ) (text more : List ℕ)
    → IsOperationNumber base text value → BeginsWithNoDigit more
    → answer (text ++ more) (state s i (places.Head (plain function indirect base)) n)
    ≡ answer more (state s (i ++ items.Operation function indirect base value ∷ []) places.Between (n + length text))
operation_number_read s i function indirect bases.Label value n text more number last =
    let head = plain function indirect bases.Label in
    unsigned_read s i (places.Head head) head (capped n) 65535 value n _ text more (head_takes_number head n) refl number last refl
operation_number_read s i function true bases.Number value n text more number last =
    signed_read s i (plain function true bases.Number) value n (items.Operation function true bases.Number) text more refl refl (λ _ _. refl) number last
operation_number_read s i function false bases.Number value n text more number last =
    signed_read s i (plain function false bases.Number) value n (items.Operation function false bases.Number) text more refl refl (λ _ _. refl) number last
operation_number_read s i function indirect bases.P value n text more number last =
    signed_read s i (plain function indirect bases.P) value n (items.Operation function indirect bases.P) text more refl refl (λ _ _. refl) number last
operation_number_read s i function indirect bases.G value n text more number last =
    signed_read s i (plain function indirect bases.G) value n (items.Operation function indirect bases.G) text more refl refl (λ _ _. refl) number last

-- a head and what follows it
after_read : (s : List (List Item)) (i : List Item) (head : Head) (n : ℕ) (front rest text more : List ℕ) (it : Item)
    → text ≡ front ++ rest → IsHead front head → head ≢ heads.Label
    → answer (rest ++ more) (state s i (places.Head head) (n + length front)) ≡ answer more (state s (i ++ it ∷ []) places.Between (n + length front + length rest))
    → answer (text ++ more) (state s i places.Between n) ≡ answer more (state s (i ++ it ∷ []) places.Between (n + length text))
after_read s i head n front rest text more it is opens other h =
    ap (λ bytes. answer bytes (state s i places.Between n)) (ap (λ bytes. bytes ++ more) is ∙ append_assoc front rest more)
    ∙ head_read s i head n front (rest ++ more) opens other
    ∙ h
    ∙ counted more s (i ++ it ∷ []) places.Between (n + length front + length rest) (n + length text) (omega (arith, ap length is, length-append front rest))

-- an item is read, where no digit follows
pub item_read : (s : List (List Item)) (i : List Item) (it : Item) (n : ℕ) (text more : List ℕ) → Spells text it → BeginsWithNoDigit more
    → answer (text ++ more) (state s i places.Between n) ≡ answer more (state s (i ++ it ∷ []) places.Between (n + length text))
item_read s i (items.Label m) n text more number last =
    unsigned_read s i places.Between heads.Label (capped n) 65535 m n (items.Label m) text more (between_takes_label n) refl number last refl
item_read s i (items.Data m) n text more (rest, is, number) last =
    after_read s i heads.Data n (68 ∷ []) rest text more (items.Data m) is refl (λ e. cc)
    (signed_read s i heads.Data m (n + 1) items.Data rest more refl refl (λ _ _. refl) number last)
item_read s i (items.DataLabel m) n text more (rest, is, number) last =
    after_read s i heads.DataLabel n (68 ∷ 76 ∷ []) rest text more (items.DataLabel m) is refl (λ e. cc)
    (unsigned_read s i (places.Head heads.DataLabel) heads.DataLabel (capped (n + 2)) 65535 m (n + 2) (items.DataLabel m) rest more (head_takes_number heads.DataLabel (n + 2)) refl number last refl)
item_read s i (items.Byte m) n text more (rest, is, number) last =
    after_read s i heads.Byte n (67 ∷ []) rest text more (items.Byte m) is refl (λ e. cc)
    (unsigned_read s i (places.Head heads.Byte) heads.Byte (capped (n + 1)) 255 m (n + 1) (items.Byte m) rest more (head_takes_number heads.Byte (n + 1)) refl number last refl)
item_read s i (items.Operation function indirect base m) n text more (rest, is, number) last =
    let front = operation_letters function indirect base in
    after_read s i (plain function indirect base) n front rest text more (items.Operation function indirect base m) is refl (λ e. cc)
    (operation_number_read s i function indirect base m (n + length front) rest more number last)
item_read s i (items.Global g m) n text more (number, label, is, one, two) last =
    let head = heads.GlobalLabel g in
    let front = 71 ∷ (number ++ 76 ∷ []) in
    after_read s i head n front label text more (items.Global g m) (is ∙ ap (λ t. 71 ∷ t) (sym (append_assoc number (76 ∷ []) label))) (number, refl, one) (λ e. cc)
    (unsigned_read s i (places.Head head) head (capped (n + length front)) 65535 m (n + length front) (items.Global g m) label more (head_takes_number head (n + length front)) refl two last refl)

-- ---- Elements and separators

blank_is_no_z : (byte : ℕ) → is_blank byte ≡ true → eqb byte 90 ≡ false
blank_is_no_z byte h = grind (arith, nat_tests)

not_line_end : (byte : ℕ) → byte ≢ 10 → eqb byte 10 ≡ false
not_line_end byte h = grind (arith, nat_tests)

-- a line of a comment is skipped
line_read : (s : List (List Item)) (i : List Item) (n : ℕ) (line more : List ℕ) → HasNoLineEnd line
    → answer (line ++ more) (state s i places.Comment n) ≡ answer more (state s i places.Comment (n + length line))
line_read s i n [] more none = counted more s i places.Comment n (n + 0) (omega arith)
line_read s i n (byte ∷ line) more none =
    answer-step s i places.Comment n byte (line ++ more) (state s i places.Comment (n + 1)) (rw (not_line_end byte none.0) refl)
    ∙ line_read s i (n + 1) line more none.1
    ∙ counted more s i places.Comment (n + 1 + length line) (n + length (byte ∷ line)) (omega arith)

comment_finished : (i : List Item) (s : List (List Item)) → finished_at places.Comment i s ≡ finished_at places.Between i s
comment_finished [] s = refl
comment_finished (x ∷ i) s = refl

-- a comment ends at the end of its line
line_end_read : (s : List (List Item)) (i : List Item) (n : ℕ) (more : List ℕ) → BeginsWithLineEnd more
    → answer more (state s i places.Comment n) ≡ answer more (state s i places.Between n)
unfolding run
line_end_read s i n [] ends = comment_finished i s
line_end_read s i n (byte ∷ more) ends =
    rw ends (answer-step s i places.Comment n 10 more (state s i places.Between (n + 1)) refl
    ∙ sym (answer-step s i places.Between n 10 more (state s i places.Between (n + 1)) refl))

-- the segments and the items that elements lead to
abbrev pub segments_after : List Element → List (List Item) → List Item → List (List Item)
segments_after [] s i = s
segments_after (an_item it ∷ elements) s i = segments_after elements s (i ++ it ∷ [])
segments_after (end_of_segment ∷ elements) s i = segments_after elements (s ++ i ∷ []) []

abbrev pub items_after : List Element → List Item → List Item
items_after [] i = i
items_after (an_item it ∷ elements) i = items_after elements (i ++ it ∷ [])
items_after (end_of_segment ∷ elements) i = items_after elements []

-- the state between items that elements lead to
abbrev pub state_after : List Element → List (List Item) → List Item → ℕ → Progress
state_after elements s i n = state (segments_after elements s i) (items_after elements i) places.Between n

-- elements and separators advance the reader by what they are
pub begins_read : {bytes rest : List ℕ} {elements : List Element} → Begins bytes elements rest
    → (s : List (List Item)) (i : List Item) (n m : ℕ) → m + length rest ≡ n + length bytes
    → answer bytes (state s i places.Between n) ≡ answer rest (state_after elements s i m)
begins_read {rest = rest} nothing s i n m e = counted rest s i places.Between n m (omega arith)
begins_read (blank {byte = byte} {bytes = bytes} is more) s i n m e =
    answer-step s i places.Between n byte bytes (state s i places.Between (n + 1)) (rw (blank_is_no_z byte is, is) refl)
    ∙ begins_read more s i (n + 1) m (omega arith)
begins_read (comment {bytes = bytes} line none ends more) s i n m e =
    answer-step s i places.Between n 47 (line ++ bytes) (state s i places.Comment (n + 1)) refl
    ∙ line_read s i (n + 1) line bytes none
    ∙ line_end_read s i (n + 1 + length line) bytes ends
    ∙ begins_read more s i (n + 1 + length line) m (omega (arith, length-append line bytes))
begins_read (item {bytes = bytes} text it spells last more) s i n m e =
    item_read s i it n text bytes spells last
    ∙ begins_read more s (i ++ it ∷ []) (n + length text) m (omega (arith, length-append text bytes))
begins_read (segment_end {bytes = bytes} more) s i n m e =
    answer-step s i places.Between n 90 bytes (state (s ++ i ∷ []) [] places.Between (n + 1)) refl
    ∙ begins_read more (s ++ i ∷ []) [] (n + 1) m (omega arith)

-- ---- Texts

items_then : (segment : List Item) (elements : List Element) (s : List (List Item)) (i : List Item)
    → (segments_after (map an_item segment ++ elements) s i ≡ segments_after elements s (i ++ segment)) × (items_after (map an_item segment ++ elements) i ≡ items_after elements (i ++ segment))
items_then [] elements s i = (ap (segments_after elements s) (sym (append-nil i)), ap (items_after elements) (sym (append-nil i)))
items_then (it ∷ segment) elements s i =
    let h = items_then segment elements s (i ++ it ∷ []) in
    (h.0 ∙ ap (segments_after elements s) (append_assoc i (it ∷ []) segment), h.1 ∙ ap (items_after elements) (append_assoc i (it ∷ []) segment))

segments_then : (segments s : List (List Item)) → (segments_after (elements_of segments) s [] ≡ s ++ segments) × (items_after (elements_of segments) [] ≡ [])
segments_then [] s = (sym (append-nil s), refl)
segments_then (segment ∷ segments) s =
    let h = items_then segment (end_of_segment ∷ elements_of segments) s [] in
    let k = segments_then segments (s ++ segment ∷ []) in
    (h.0 ∙ k.0 ∙ append_assoc s (segment ∷ []) segments, h.1 ∙ k.1)

-- a text is read as its segments
pub text_read : (bytes : List ℕ) (segments : List (List Item)) → IsText bytes segments → answer bytes start ≡ Ok segments
unfolding run
text_read bytes segments is =
    let h = segments_then segments [] in
    begins_read is [] [] 0 (length bytes) (omega arith)
    ∙ ap (λ i. finished_at places.Between i (segments_after (elements_of segments) [] [])) h.1
    ∙ ap (λ s. finished_at places.Between [] s) h.0
