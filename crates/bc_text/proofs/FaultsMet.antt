-- Every fault of the definition is found by the reader.
use Rattle.std.proofs.Common.{◌≡◌, ◌≢◌, ◌⊎◌, inl, inr, ℕ, ◌+◌, ◌-◌, ◌*◌, ◌<◌, ◌≤◌, List, [], ◌∷◌, ◌++◌, length, Some, None, Result, Ok, Err, Bool, true, false, ◌&&◌, ◌||◌, cond, eqb, refl, sym, ap, ◌∙◌, arith, append_assoc}
use Rattle.std.proofs.lemmas.Bool.Decides.{nat_tests}
use Rattle.std.proofs.lemmas.Bool.{lt-ltb, eqb-true}
use Rattle.std.specs.Char.{is_ascii_digit}
use Rattle.std.specs.Str.{all_ascii_digits}
use Rattle.std.specs.List.{list_any}
use Rattle.bc_text_items.specs.declared.item.Item.{Item}
use Rattle.bc_text_items.specs.declared.item.Base.TheVariants as bases
use Rattle.bc_text.specs.Numbers.{value_from, value_of_digits}
use Rattle.bc_text.specs.Letters.{is_blank}
use Rattle.bc_text.specs.Heads.{IsHead, allows, limit}
use Rattle.bc_text.specs.Faults.{capped, may_begin, first_letters, Breaks, no_item, no_digit, no_digit_after_minus, too_large, too_small, no_label, HasFault}
use Rattle.bc_text.specs.Steps.{Progress, at_place, longer, head_of, if_in_range, greatest, placed_at, answer, answer_of, run, start, finished_at}
use Rattle.bc_text.specs.declared.head.Head.{Head}
use Rattle.bc_text.specs.declared.head.Head.TheVariants as heads
use Rattle.bc_text.specs.declared.head.Position.{Position}
use Rattle.bc_text.specs.declared.head.Position.TheVariants as places
use Rattle.bc_text.specs.declared.text_error.TextError.{TextError}
use Rattle.bc_text.specs.declared.text_error.TextError.TheVariants as errors
use Rattle.bc_text.proofs.States.{state, run-stop, answer-step}
use Rattle.bc_text.proofs.Complete.{and_true, TakesNumber, between_takes_label, head_takes_number, minus_takes_number, number_read, head_read, minus_read, global_read, begins_read, segments_after, items_after}

pub or_false : (a b : Bool) → (a || b) ≡ false → (a ≡ false) × (b ≡ false)
or_false true b e = absurd cc
or_false false b e = (refl, e)

answer-stop : (s : List (List Item)) (i : List Item) (place : Position) (n byte : ℕ) (bytes : List ℕ) (fault : TextError)
    → at_place (state s i place (n + 1)) place byte (capped n) ≡ Err fault → answer (byte ∷ bytes) (state s i place n) ≡ Err fault
answer-stop s i place n byte bytes fault e = ap answer_of (run-stop s i place n byte bytes fault e)

-- every head begins with one of the first letters
pub no_head : (byte : ℕ) → list_any (λ letter. eqb byte letter) first_letters ≡ false → head_of byte ≡ None
no_head byte h =
    let a = or_false (eqb byte 76) _ h in
    let b = or_false (eqb byte 83) _ a.1 in
    let c = or_false (eqb byte 65) _ b.1 in
    let d = or_false (eqb byte 74) _ c.1 in
    let e = or_false (eqb byte 84) _ d.1 in
    let f = or_false (eqb byte 70) _ e.1 in
    let g = or_false (eqb byte 75) _ f.1 in
    let k = or_false (eqb byte 88) _ g.1 in
    let l = or_false (eqb byte 68) _ k.1 in
    let m = or_false (eqb byte 67) _ l.1 in
    let n = or_false (eqb byte 71) _ m.1 in
    rw (a.0, b.0, c.0, d.0, e.0, f.0, g.0, k.0, l.0, m.0, n.0) refl

no_item_met : (s : List (List Item)) (i : List Item) (n byte : ℕ) → may_begin byte ≡ false
    → at_place (state s i places.Between (n + 1)) places.Between byte (capped n) ≡ Err (errors.BadCharacter (capped n))
no_item_met s i n byte h =
    let a = or_false (is_blank byte || eqb byte 47 || eqb byte 90 || is_ascii_digit byte) _ h in
    let b = or_false (is_blank byte || eqb byte 47 || eqb byte 90) _ a.0 in
    let c = or_false (is_blank byte || eqb byte 47) _ b.0 in
    let d = or_false (is_blank byte) _ c.0 in
    rw (c.1, d.0, d.1, b.1, no_head byte a.1) refl

-- a letter that a head doesn't allow doesn't extend it
pub not_longer : (head : Head) (byte : ℕ) → allows head byte ≡ false → longer head byte ≡ None
not_longer heads.Label byte h = refl
not_longer heads.Data byte h = let a = or_false (eqb byte 76) _ h in rw (a.0) refl
not_longer heads.DataLabel byte h = refl
not_longer heads.Byte byte h = refl
not_longer (heads.Operation function false bases.Number) byte h =
    let a = or_false (eqb byte 73) _ h in
    let b = or_false (eqb byte 80) _ a.1 in
    let c = or_false (eqb byte 71) _ b.1 in
    let d = or_false (eqb byte 76) _ c.1 in
    rw (a.0, b.0, c.0, d.0) refl
not_longer (heads.Operation function true bases.Number) byte h =
    let b = or_false (eqb byte 80) _ h in
    let c = or_false (eqb byte 71) _ b.1 in
    let d = or_false (eqb byte 76) _ c.1 in
    never (eqb byte 73) (b.0) (c.0) (d.0)
  where
    never : (a : Bool) → eqb byte 80 ≡ false → eqb byte 71 ≡ false → eqb byte 76 ≡ false
        → cond (a && false) (Some (heads.Operation function true bases.Number)) (cond (eqb byte 80) (Some (heads.Operation function true bases.P)) (cond (eqb byte 71) (Some (heads.Operation function true bases.G)) (cond (eqb byte 76) (Some (heads.Operation function true bases.Label)) None))) ≡ None
    never true p q r = rw (p, q, r) refl
    never false p q r = rw (p, q, r) refl
not_longer (heads.Operation function indirect bases.P) byte h = refl
not_longer (heads.Operation function indirect bases.G) byte h = refl
not_longer (heads.Operation function indirect bases.Label) byte h = refl
not_longer heads.Global byte h = refl
not_longer (heads.GlobalLabel n) byte h = refl

-- a head that doesn't allow `-` isn't followed by one
pub no_minus : (head : Head) (byte : ℕ) → allows head byte ≡ false → (eqb byte 45 && allows head 45) ≡ false
no_minus head byte h = go (eqb byte 45) refl
  where
    go : (b : Bool) → eqb byte 45 ≡ b → (b && allows head 45) ≡ false
    go true e = ap (allows head) (sym (eqb-true byte 45 e)) ∙ h
    go false e = refl

no_digit_met : (s : List (List Item)) (i : List Item) (head : Head) (n byte : ℕ) → is_ascii_digit byte ≡ false → allows head byte ≡ false
    → at_place (state s i (places.Head head) (n + 1)) (places.Head head) byte (capped n) ≡ Err (errors.BadNumber (capped n))
no_digit_met s i head n byte d h =
    let a = no_minus head byte h in
    let b = not_longer head byte h in
    rw (d, a, b) refl

-- ---- Numbers out of range

pub value_from-append : (n d : ℕ) (digits : List ℕ) → value_from n (digits ++ d ∷ []) ≡ value_from n digits * 10 + (d - 48)
value_from-append n d [] = refl
value_from-append n d (x ∷ digits) = value_from-append (n * 10 + (x - 48)) d digits

pub all_digits-append : (digits : List ℕ) (d : ℕ) → all_ascii_digits (digits ++ d ∷ []) ≡ true → (all_ascii_digits digits ≡ true) × (is_ascii_digit d ≡ true)
all_digits-append [] d h = (refl, (and_true _ _ h).0)
all_digits-append (x ∷ digits) d h =
    let a = and_true (is_ascii_digit x) (all_ascii_digits (digits ++ d ∷ [])) h in
    let b = all_digits-append digits d a.1 in
    (rw (a.0) b.0, b.1)

out_of_range : (head : Head) (from : ℕ) (negative : Bool) (value : ℕ) → greatest head negative < value
    → if_in_range head from negative value ≡ Err (errors.BadNumber from)
out_of_range head from negative value h = rw (lt-ltb _ _ h) refl

-- a digit that makes a number too large is a fault
digits_stop : (s : List (List Item)) (i : List Item) (place : Position) (head : Head) (from : ℕ) (negative : Bool) (n d : ℕ) (digits more : List ℕ)
    → TakesNumber place head from negative n → all_ascii_digits (digits ++ d ∷ []) ≡ true
    → value_of_digits digits ≤ greatest head negative → greatest head negative < value_of_digits (digits ++ d ∷ [])
    → answer (digits ++ d ∷ more) (state s i place n) ≡ Err (errors.BadNumber from)
digits_stop s i place head from negative n d [] more takes all low high =
    let a = all_digits-append [] d all in
    answer-stop s i place n d more (errors.BadNumber from)
    (takes s i d a.1 ∙ ap (placed_at (state s i place (n + 1))) (out_of_range head from negative (0 * 10 + (d - 48)) high))
digits_stop s i place head from negative n d (x ∷ digits) more takes all low high =
    let a = all_digits-append (x ∷ digits) d all in
    let value = value_of_digits (x ∷ digits) in
    let there = places.Digits head from negative value in
    let past : greatest head negative < value * 10 + (d - 48) = omega (arith, high, value_from-append 0 d (x ∷ digits)) in
    let m = n + length (x ∷ digits) in
    number_read s i place head from negative (greatest head negative) value n (x ∷ digits) (d ∷ more) takes refl (a.0, refl, low)
    ∙ answer-stop s i there m d more (errors.BadNumber from)
    (rw (a.1) (ap (placed_at (state s i there (m + 1))) (out_of_range head from negative (value * 10 + (d - 48)) past)))

-- the same after a head other than that of a label
head_digits_stop : (s : List (List Item)) (i : List Item) (head : Head) (n d : ℕ) (front digits more : List ℕ) → IsHead front head
    → all_ascii_digits (digits ++ d ∷ []) ≡ true → value_of_digits digits ≤ limit head → limit head < value_of_digits (digits ++ d ∷ [])
    → answer (front ++ digits ++ d ∷ more) (state s i places.Between n) ≡ Err (errors.BadNumber (capped (n + length front)))
head_digits_stop s i head n d front digits more is all low high =
    ap (λ bytes. answer bytes (state s i places.Between n)) (append_assoc front digits (d ∷ more)) ∙ go head is low high
  where
    stop : (head : Head) → IsHead front head → head ≢ heads.Label → value_of_digits digits ≤ limit head → limit head < value_of_digits (digits ++ d ∷ [])
        → answer (front ++ (digits ++ d ∷ more)) (state s i places.Between n) ≡ Err (errors.BadNumber (capped (n + length front)))
    stop head is other low high =
        head_read s i head n front (digits ++ d ∷ more) is other
        ∙ digits_stop s i (places.Head head) head (capped (n + length front)) false (n + length front) d digits more (head_takes_number head (n + length front)) all low high

    go : (head : Head) → IsHead front head → value_of_digits digits ≤ limit head → limit head < value_of_digits (digits ++ d ∷ [])
        → answer (front ++ (digits ++ d ∷ more)) (state s i places.Between n) ≡ Err (errors.BadNumber (capped (n + length front)))
    go heads.Label is low high =
        rw is (digits_stop s i places.Between heads.Label (capped n) false n d digits more (between_takes_label n) all low high
        ∙ ap (λ k. Err (errors.BadNumber (capped k))) (omega arith))
    go heads.Data is low high = stop heads.Data is (λ e. cc) low high
    go heads.DataLabel is low high = stop heads.DataLabel is (λ e. cc) low high
    go heads.Byte is low high = stop heads.Byte is (λ e. cc) low high
    go (heads.Operation function indirect base) is low high = stop (heads.Operation function indirect base) is (λ e. cc) low high
    go heads.Global is low high = stop heads.Global is (λ e. cc) low high
    go (heads.GlobalLabel g) is low high = stop (heads.GlobalLabel g) is (λ e. cc) low high

-- a head that allows a `-` is that of a word, and not a label's
pub minus_is_of_word : (head : Head) → allows head 45 ≡ true → (head ≢ heads.Label) × (greatest head true ≡ 32768)
minus_is_of_word heads.Label h = absurd cc
minus_is_of_word heads.Data h = (λ e. cc, refl)
minus_is_of_word heads.DataLabel h = absurd cc
minus_is_of_word heads.Byte h = absurd cc
minus_is_of_word (heads.Operation function indirect base) h = (λ e. cc, refl)
minus_is_of_word heads.Global h = absurd cc
minus_is_of_word (heads.GlobalLabel g) h = absurd cc

-- a head and the `-` after it are read
minus_after_read : (s : List (List Item)) (i : List Item) (head : Head) (n : ℕ) (front more : List ℕ) → IsHead front head → allows head 45 ≡ true
    → answer (front ++ 45 ∷ more) (state s i places.Between n)
    ≡ answer more (state s i (places.Minus head (capped (n + length front))) (n + length front + 1))
minus_after_read s i head n front more is allowed =
    head_read s i head n front (45 ∷ more) is (minus_is_of_word head allowed).0
    ∙ answer-step s i (places.Head head) (n + length front) 45 more _ (minus_read head s i (n + length front) allowed)

-- what breaks a text is reported, with its position
pub breaks_met : (s : List (List Item)) (i : List Item) {at : ℕ} {rest : List ℕ} {fault : TextError} → Breaks at rest fault
    → answer rest (state s i places.Between at) ≡ Err fault
breaks_met s i (no_item at byte more h) = answer-stop s i places.Between at byte more _ (no_item_met s i at byte h)
breaks_met s i (no_digit at byte more front head is other d h) =
    head_read s i head at front (byte ∷ more) is other
    ∙ answer-stop s i (places.Head head) (at + length front) byte more _ (no_digit_met s i head (at + length front) byte d h)
breaks_met s i (no_digit_after_minus at byte more front head is allowed d) =
    let n = at + length front in
    minus_after_read s i head at front (byte ∷ more) is allowed
    ∙ answer-stop s i (places.Minus head (capped n)) (n + 1) byte more (errors.BadNumber (capped (n + 1))) (rw d refl)
breaks_met s i (too_large at digit more front digits head is all low high) = head_digits_stop s i head at digit front digits more is all low high
breaks_met s i (too_small at digit more front digits head is allowed all low high) =
    let n = at + length front in
    let bound = (minus_is_of_word head allowed).1 in
    minus_after_read s i head at front (digits ++ digit ∷ more) is allowed
    ∙ digits_stop s i (places.Minus head (capped n)) head (capped n) true (n + 1) digit digits more (minus_takes_number head (capped n) (n + 1)) all (rw bound low) (rw bound high)
breaks_met s i (no_label at byte n more number is d other) =
    let m = at + (1 + length number) in
    let there = places.Digits heads.Global (capped (at + 1)) false n in
    global_read s i n at number (byte ∷ more) is
    ∙ answer-stop s i there m byte more (errors.MissingLabel (capped m)) (rw (d, not_l byte other) refl)
    ∙ ap (λ k. Err (errors.MissingLabel (capped k))) (omega arith)
  where
    not_l : (byte : ℕ) → byte ≢ 76 → eqb byte 76 ≡ false
    not_l byte h = grind (arith, nat_tests)

-- Unended is reported only at the end of the bytes
pub only_unended : (place : Position) (i : List Item) (s : List (List Item)) (fault : TextError) → finished_at place i s ≡ Err fault → fault ≡ errors.Unended
only_unended places.Between [] s fault e = absurd cc
only_unended places.Between (x ∷ i) s fault e = cc
only_unended places.Comment [] s fault e = absurd cc
only_unended places.Comment (x ∷ i) s fault e = cc
only_unended (places.Head head) i s fault e = cc
only_unended (places.Minus head from) i s fault e = cc
only_unended (places.Digits head from negative value) i s fault e = cc

pub refused_in_run : (r : Result Progress TextError) (fault : TextError) → answer_of r ≡ Err fault → (r ≡ Err fault) ⊎ (fault ≡ errors.Unended)
refused_in_run (Ok p) fault e = inr (only_unended p.place p.items p.segments fault e)
refused_in_run (Err f) fault e = inl (let same : f ≡ fault = cc in ap (λ x. Err x) same)

-- what breaks a text isn't reported as Unended
not_unended : {at : ℕ} {rest : List ℕ} {fault : TextError} → Breaks at rest fault → fault ≢ errors.Unended
not_unended (no_item at byte more h) e = cc
not_unended (no_digit at byte more front head is other d h) e = cc
not_unended (no_digit_after_minus at byte more front head is allowed d) e = cc
not_unended (too_large at digit more front digits head is all low high) e = cc
not_unended (too_small at digit more front digits head is allowed all low high) e = cc
not_unended (no_label at byte n more number is d other) e = cc

-- a fault of bytes is found in reading them
pub fault_met : (bytes : List ℕ) (fault : TextError) → HasFault bytes fault → run bytes start ≡ Err fault
fault_met bytes fault (at, elements, rest, begins, place, breaks) =
    let h = begins_read begins [] [] 0 at (omega arith) ∙ breaks_met (segments_after elements [] []) (items_after elements []) breaks in
    elim (refused_in_run (run bytes start) fault h) [ inl e ↦ e | inr e ↦ absurd (not_unended breaks e) ]
