-- What is read is what the bytes spell, and what is reported is their fault: the reader's state determines what its bytes are.
use Rattle.std.proofs.Common.{◌≡◌, ◌≢◌, inl, inr, ℕ, ◌+◌, ◌-◌, ◌*◌, ◌<◌, ◌≤◌, List, [], ◌∷◌, ◌++◌, length, map, Option, Some, None, Result, Ok, Err, Bool, true, false, ◌&&◌, cond, eqb, ltb, refl, sym, ap, subst, ◌∙◌, arith, append_assoc, append-nil, length-append, add-zero}
use Rattle.std.proofs.lemmas.Bool.{eqb-true, ltb-true, ltb-false}
use Rattle.std.specs.Char.{is_ascii_digit}
use Rattle.std.specs.Str.{all_ascii_digits}
use Rattle.std.specs.List.{list_any}
use Rattle.bc_text_items.specs.declared.item.Item.{Item}
use Rattle.bc_text_items.specs.declared.item.Item.TheVariants as items
use Rattle.bc_text_items.specs.declared.item.Base.{Base}
use Rattle.bc_text_items.specs.declared.item.Base.TheVariants as bases
use Rattle.bc_text_items.specs.declared.item.Function.{Function}
use Rattle.bc_text.specs.Numbers.{value_of_digits, IsNumber}
use Rattle.bc_text.specs.Letters.{letter, operation_letters, is_blank}
use Rattle.bc_text.specs.Spelling.{Spells}
use Rattle.bc_text.specs.Texts.{HasNoLineEnd, Begins, elements_of, Element, an_item, end_of_segment, nothing, blank, comment, item, segment_end}
use Rattle.bc_text.specs.Heads.{IsHead, allows, limit}
use Rattle.bc_text.specs.Faults.{capped, first_letters, Breaks, no_item, no_digit, no_digit_after_minus, too_large, too_small, no_label, HasFault}
use Rattle.bc_text.specs.Steps.{Progress, step, at_place, after_letter, longer, head_of, with_digit, greatest, placed, placed_at, closed, with_item, begun, between, ended_number, word_of, after_number}
use Rattle.bc_text.specs.declared.head.Head.{Head}
use Rattle.bc_text.specs.declared.head.Head.TheVariants as heads
use Rattle.bc_text.specs.declared.head.Ended.{Ended}
use Rattle.bc_text.specs.declared.head.Ended.TheVariants as ended
use Rattle.bc_text.specs.declared.head.Position.{Position}
use Rattle.bc_text.specs.declared.head.Position.TheVariants as places
use Rattle.bc_text.specs.declared.text_error.TextError.{TextError}
use Rattle.bc_text.specs.declared.text_error.TextError.TheVariants as errors
use Rattle.bc_text.proofs.States.{capped-more}
use Rattle.bc_text.proofs.Complete.{and_true}
use Rattle.bc_text.proofs.FaultsMet.{minus_is_of_word, value_from-append}

-- ---- Elements and what follows them

-- elements after elements
pub begins-trans : {bytes mid rest : List ℕ} {one two : List Element} → Begins bytes one mid → Begins mid two rest → Begins bytes (one ++ two) rest
begins-trans nothing h = h
begins-trans (blank is more) h = blank is (begins-trans more h)
begins-trans (comment line none ends more) h = comment line none ends (begins-trans more h)
begins-trans (item text it spells last more) h = item text it spells last (begins-trans more h)
begins-trans (segment_end more) h = segment_end (begins-trans more h)

-- the elements that were read
abbrev pub elements_so_far : Progress → List Element
elements_so_far p = elements_of p.segments ++ map an_item p.items

elements-append : (xs ys : List (List Item)) → elements_of (xs ++ ys) ≡ elements_of xs ++ elements_of ys
elements-append [] ys = refl
elements-append (x ∷ xs) ys =
    ap (λ es. map an_item x ++ end_of_segment ∷ es) (elements-append xs ys)
    ∙ sym (append_assoc (map an_item x) (end_of_segment ∷ elements_of xs) (elements_of ys))

items-append : (xs : List Item) (it : Item) → map an_item (xs ++ it ∷ []) ≡ map an_item xs ++ an_item it ∷ []
items-append [] it = refl
items-append (x ∷ xs) it = ap (λ es. an_item x ∷ es) (items-append xs it)

elements-with_item : (p : Progress) (it : Item) → elements_so_far (with_item p it) ≡ elements_so_far p ++ an_item it ∷ []
elements-with_item p it =
    ap (λ es. elements_of p.segments ++ es) (items-append p.items it)
    ∙ sym (append_assoc (elements_of p.segments) (map an_item p.items) (an_item it ∷ []))

elements-closed : (p : Progress) → elements_so_far (closed p) ≡ elements_so_far p ++ end_of_segment ∷ []
elements-closed p =
    append-nil (elements_of (p.segments ++ p.items ∷ []))
    ∙ elements-append p.segments (p.items ∷ [])
    ∙ sym (append_assoc (elements_of p.segments) (map an_item p.items) (end_of_segment ∷ []))

-- ---- What a state says about its bytes

-- the sign of a number
abbrev pub sign : Bool → List ℕ
sign true = 45 ∷ []
sign false = []

-- the bytes of the incomplete part at a place, which began at position `at`
abbrev pub IsOpen : Position → ℕ → List ℕ → Type 0
IsOpen places.Between at held = held ≡ []
IsOpen places.Comment at held = (line : List ℕ) × (held ≡ 47 ∷ line) × HasNoLineEnd line
IsOpen (places.Head head) at held = IsHead held head × (head ≢ heads.Label)
IsOpen (places.Minus head from) at held =
    (front : List ℕ) × (held ≡ front ++ 45 ∷ []) × IsHead front head × (allows head 45 ≡ true) × (from ≡ capped (at + length front))
IsOpen (places.Digits head from negative value) at held =
    (front digits : List ℕ) × (held ≡ front ++ (sign negative ++ digits)) × IsHead front head × (negative ≡ true → allows head 45 ≡ true)
    × IsNumber (greatest head negative) digits value × (from ≡ capped (at + length front))

-- the bytes are the elements that were read, and then the incomplete part, whatever follows
pub record Stands (bytes : List ℕ) (p : Progress) : Type 0 where
  pub before : List ℕ
  pub held : List ℕ
  pub whole : bytes ≡ before ++ held
  pub count : p.at ≡ capped (length bytes)
  pub begins : (after : List ℕ) → Begins (before ++ (held ++ after)) (elements_so_far p) (held ++ after)
  pub is_open : IsOpen p.place (length before) held

-- the same before this byte
pub record Meets (bytes : List ℕ) (byte : ℕ) (p : Progress) : Type 0 where
  pub before : List ℕ
  pub held : List ℕ
  pub whole : bytes ≡ before ++ held
  pub count : p.at ≡ capped (length (bytes ++ byte ∷ []))
  pub begins : (after : List ℕ) → Begins (before ++ (held ++ byte ∷ after)) (elements_so_far p) (held ++ byte ∷ after)

-- with this byte: the state to which it led, or the fault that it made
abbrev pub LeadsOn : List ℕ → ℕ → Result Progress TextError → Type 0
LeadsOn bytes byte (Ok q) = Stands (bytes ++ byte ∷ []) q
LeadsOn bytes byte (Err fault) = (more : List ℕ) → HasFault (bytes ++ byte ∷ more) fault

-- a test one way or the other
by_test : {X : Type 0} (P : X → Type 0) (test : Bool) (x y : X) → (test ≡ true → P x) → (test ≡ false → P y) → P (cond test x y)
by_test P true x y if_so if_not = if_so refl
by_test P false x y if_so if_not = if_not refl

-- ---- A byte after an incomplete part

-- the progress that the byte meets
abbrev counted : Progress → Progress
counted p = record p { at = capped (p.at + 1) }

abbrev meets : (bytes : List ℕ) (byte : ℕ) (p : Progress) → Stands bytes p → Meets bytes byte (counted p)
meets bytes byte p s = record {
  before = s.before;
  held = s.held;
  whole = s.whole;
  count = ap (λ n. capped (n + 1)) s.count ∙ capped-more (length bytes) 1 ∙ ap capped (sym (length-append bytes (byte ∷ [])));
  begins = λ after. s.begins (byte ∷ after);
}

-- the part is still incomplete
grown : (bytes : List ℕ) (byte : ℕ) (p : Progress) (place : Position) (m : Meets bytes byte p) → IsOpen place (length m.before) (m.held ++ byte ∷ [])
    → Stands (bytes ++ byte ∷ []) (placed p place)
grown bytes byte p place m open_now = record {
  before = m.before;
  held = m.held ++ byte ∷ [];
  whole = ap (λ t. t ++ byte ∷ []) m.whole ∙ append_assoc m.before m.held (byte ∷ []);
  count = m.count;
  begins = λ after. subst (λ t. Begins (m.before ++ t) (elements_so_far p) t) (sym (append_assoc m.held (byte ∷ []) after)) (m.begins after);
  is_open = open_now;
}

-- it breaks the text
broken : (bytes : List ℕ) (byte : ℕ) (p : Progress) (fault : TextError) (m : Meets bytes byte p)
    → ((more : List ℕ) → Breaks (length m.before) (m.held ++ byte ∷ more) fault) → (more : List ℕ) → HasFault (bytes ++ byte ∷ more) fault
broken bytes byte p fault m breaks more =
    let rest = m.held ++ byte ∷ more in
    let whole : bytes ++ byte ∷ more ≡ m.before ++ rest = ap (λ t. t ++ byte ∷ more) m.whole ∙ append_assoc m.before m.held (byte ∷ more) in (
      length m.before,
      elements_so_far p,
      rest,
      subst (λ t. Begins t (elements_so_far p) rest) (sym whole) (m.begins more),
      omega (arith, ap length whole, length-append m.before rest),
      breaks more,
    )

-- ---- Digits

number_parts : (limit value : ℕ) (digits : List ℕ) → IsNumber limit digits value → (all_ascii_digits digits ≡ true) × (value_of_digits digits ≡ value) × (value ≤ limit)
number_parts limit value [] h = absurd h
number_parts limit value (d ∷ digits) h = h

pub all_digits-more : (digits : List ℕ) (d : ℕ) → all_ascii_digits digits ≡ true → is_ascii_digit d ≡ true → all_ascii_digits (digits ++ d ∷ []) ≡ true
all_digits-more [] d h e = rw e refl
all_digits-more (x ∷ digits) d h e =
    let a = and_true (is_ascii_digit x) (all_ascii_digits digits) h in rw (a.0) (all_digits-more digits d a.1 e)

pub number_from : (limit value : ℕ) (digits : List ℕ) (d : ℕ) → all_ascii_digits (digits ++ d ∷ []) ≡ true → value_of_digits (digits ++ d ∷ []) ≡ value → value ≤ limit
    → IsNumber limit (digits ++ d ∷ []) value
number_from limit value [] d all is fits = (all, is, fits)
number_from limit value (x ∷ digits) d all is fits = (all, is, fits)

-- a number that its next digit makes too large
out_of_range_breaks : (at byte from : ℕ) (head : Head) (negative : Bool) (held front digits more : List ℕ)
    → held ≡ front ++ (sign negative ++ digits) → IsHead front head → (negative ≡ true → allows head 45 ≡ true)
    → all_ascii_digits (digits ++ byte ∷ []) ≡ true → value_of_digits digits ≤ greatest head negative
    → greatest head negative < value_of_digits (digits ++ byte ∷ []) → from ≡ capped (at + length front)
    → Breaks at (held ++ byte ∷ more) (errors.BadNumber from)
out_of_range_breaks at byte from head false held front digits more is opens allowed all low high place =
    rw (is, place) (too_large at byte more front digits head opens all low high)
out_of_range_breaks at byte from head true held front digits more is opens allowed all low high place =
    let bound = (minus_is_of_word head (allowed refl)).1 in
    rw (is, place, append_assoc front (45 ∷ digits) (byte ∷ more))
    (too_small at byte more front digits head opens (allowed refl) all (subst (λ k. value_of_digits digits ≤ k) bound low) (subst (λ k. k < value_of_digits (digits ++ byte ∷ [])) bound high))

-- a digit continues a number, or makes it too large
digit_leads : (bytes : List ℕ) (byte : ℕ) (p : Progress) (m : Meets bytes byte p) (head : Head) (from : ℕ) (negative : Bool) (value : ℕ) (front digits : List ℕ)
    → m.held ≡ front ++ (sign negative ++ digits) → IsHead front head → (negative ≡ true → allows head 45 ≡ true)
    → all_ascii_digits digits ≡ true → value_of_digits digits ≡ value → value ≤ greatest head negative → from ≡ capped (length m.before + length front)
    → is_ascii_digit byte ≡ true → LeadsOn bytes byte (placed_at p (with_digit head from negative value byte))
digit_leads bytes byte p m head from negative value front digits is opens allowed all stands fits place d =
    let more_digits = digits ++ byte ∷ [] in
    let next : ℕ = value * 10 + (byte - 48) in
    let all_more = all_digits-more digits byte all d in
    let stands_more : value_of_digits more_digits ≡ next = value_from-append 0 byte digits ∙ ap (λ v. v * 10 + (byte - 48)) stands in
    by_test (λ r. LeadsOn bytes byte (placed_at p r)) (ltb (greatest head negative) next) (Err (errors.BadNumber from)) (Ok (places.Digits head from negative next))
    (λ high. broken bytes byte p (errors.BadNumber from) m (λ more.
    out_of_range_breaks (length m.before) byte from head negative m.held front digits more is opens allowed all_more (subst (λ v. v ≤ greatest head negative) (sym stands) fits)
    (subst (λ v. greatest head negative < v) (sym stands_more) (ltb-true _ _ high)) place))
    (λ low. grown bytes byte p (places.Digits head from negative next) m (
      front,
      more_digits,
      ap (λ t. t ++ byte ∷ []) is ∙ append_assoc front (sign negative ++ digits) (byte ∷ []) ∙ ap (λ t. front ++ t) (append_assoc (sign negative) digits (byte ∷ [])),
      opens,
      allowed,
      number_from (greatest head negative) next digits byte all_more stands_more (ltb-false _ _ low),
      place,
    ))

-- ---- A byte where an item may begin

-- all of the bytes are elements, where this byte follows
abbrev pub AreElements : List ℕ → ℕ → Progress → Type 0
AreElements bytes byte p = (after : List ℕ) → Begins (bytes ++ byte ∷ after) (elements_so_far p) (byte ∷ after)

abbrev meets_at : (bytes : List ℕ) (byte : ℕ) (p : Progress) → AreElements bytes byte p → p.at ≡ capped (length (bytes ++ byte ∷ [])) → Meets bytes byte p
meets_at bytes byte p h count = record {
  before = bytes;
  held = [];
  whole = sym (append-nil bytes);
  count = count;
  begins = h;
}

-- the incomplete part and the byte are elements and separators
passes : (bytes : List ℕ) (byte : ℕ) (p q : Progress) (elements : List Element) (m : Meets bytes byte p) → q.at ≡ capped (length (bytes ++ byte ∷ []))
    → q.place ≡ places.Between → elements_so_far q ≡ elements_so_far p ++ elements → ((after : List ℕ) → Begins (m.held ++ byte ∷ after) elements after)
    → Stands (bytes ++ byte ∷ []) q
passes bytes byte p q elements m count place same begins = record {
  before = bytes ++ byte ∷ [];
  held = [];
  whole = sym (append-nil (bytes ++ byte ∷ []));
  count = count;
  begins = λ after. rw (append_assoc bytes (byte ∷ []) after, same) (subst (λ t. Begins t (elements_so_far p ++ elements) after) (sym (whole after)) (begins-trans (m.begins after) (begins after)));
  is_open = rw place refl;
}
  where
    whole : (after : List ℕ) → bytes ++ byte ∷ after ≡ m.before ++ (m.held ++ byte ∷ after)
    whole after = ap (λ t. t ++ byte ∷ after) m.whole ∙ append_assoc m.before m.held (byte ∷ after)

-- the head that a letter begins, or that none does
abbrev pub IsHeadOf : ℕ → Option Head → Type 0
IsHeadOf byte (Some head) = IsHead (byte ∷ []) head × (head ≢ heads.Label)
IsHeadOf byte None = list_any (λ letter. eqb byte letter) first_letters ≡ false

one_byte : (byte other : ℕ) → eqb byte other ≡ true → byte ∷ [] ≡ other ∷ []
one_byte byte other h = ap (λ b. b ∷ []) (eqb-true byte other h)

head_of_is : (byte : ℕ) → IsHeadOf byte (head_of byte)
head_of_is byte =
    let P : Option Head → Type 0 = IsHeadOf byte in
    by_test P (eqb byte 76) _ _ (λ e. (one_byte byte 76 e, λ n. cc)) (λ a.
    by_test P (eqb byte 83) _ _ (λ e. (one_byte byte 83 e, λ n. cc)) (λ b.
    by_test P (eqb byte 65) _ _ (λ e. (one_byte byte 65 e, λ n. cc)) (λ c.
    by_test P (eqb byte 74) _ _ (λ e. (one_byte byte 74 e, λ n. cc)) (λ d.
    by_test P (eqb byte 84) _ _ (λ e. (one_byte byte 84 e, λ n. cc)) (λ f.
    by_test P (eqb byte 70) _ _ (λ e. (one_byte byte 70 e, λ n. cc)) (λ g.
    by_test P (eqb byte 75) _ _ (λ e. (one_byte byte 75 e, λ n. cc)) (λ k.
    by_test P (eqb byte 88) _ _ (λ e. (one_byte byte 88 e, λ n. cc)) (λ l.
    by_test P (eqb byte 68) _ _ (λ e. (one_byte byte 68 e, λ n. cc)) (λ m.
    by_test P (eqb byte 67) _ _ (λ e. (one_byte byte 67 e, λ n. cc)) (λ o.
    by_test P (eqb byte 71) _ _ (λ e. (one_byte byte 71 e, λ n. cc)) (λ q.
    rw (a, b, c, d, f, g, k, l, m, o, q) refl)))))))))))

letter_leads : (bytes : List ℕ) (byte : ℕ) (p : Progress) → AreElements bytes byte p → p.at ≡ capped (length (bytes ++ byte ∷ []))
    → (is_blank byte ≡ false) → (eqb byte 47 ≡ false) → (eqb byte 90 ≡ false) → (is_ascii_digit byte ≡ false)
    → LeadsOn bytes byte (placed_at p (after_letter (head_of byte) (errors.BadCharacter (capped (length bytes)))))
letter_leads bytes byte p h count a b c d = go (head_of byte) (head_of_is byte)
  where
    go : (found : Option Head) → IsHeadOf byte found → LeadsOn bytes byte (placed_at p (after_letter found (errors.BadCharacter (capped (length bytes)))))
    go (Some head) is = grown bytes byte p (places.Head head) (meets_at bytes byte p h count) is
    go None is = broken bytes byte p _ (meets_at bytes byte p h count) (λ more. no_item (length bytes) byte more (rw (a, b, c, d, is) refl))

begun_leads : (bytes : List ℕ) (byte : ℕ) (p : Progress) → AreElements bytes byte p → p.at ≡ capped (length (bytes ++ byte ∷ []))
    → LeadsOn bytes byte (begun p byte (capped (length bytes)))
begun_leads bytes byte p h count =
    let at = capped (length bytes) in
    let P : Result Position TextError → Type 0 = λ r. LeadsOn bytes byte (placed_at p r) in
    by_test (LeadsOn bytes byte) (eqb byte 90) (Ok (closed p)) (placed_at p (between byte at))
    (λ z. passes bytes byte p (closed p) (end_of_segment ∷ []) (meets_at bytes byte p h count) count refl (elements-closed p)
    (λ after. subst (λ b. Begins (b ∷ after) (end_of_segment ∷ []) after) (sym (eqb-true byte 90 z)) (segment_end nothing)))
    (λ not_z. by_test P (is_blank byte) _ _
    (λ e. passes bytes byte p (placed p places.Between) [] (meets_at bytes byte p h count) count refl (sym (append-nil (elements_so_far p))) (λ after. blank e nothing))
    (λ not_blank. by_test P (eqb byte 47) _ _
    (λ e. grown bytes byte p places.Comment (meets_at bytes byte p h count) ([], one_byte byte 47 e, tt))
    (λ not_slash. by_test P (is_ascii_digit byte) _ _
    (λ d. digit_leads bytes byte p (meets_at bytes byte p h count) heads.Label at false 0 [] [] refl refl (λ e. absurd cc) refl refl (omega arith) (ap capped (sym (add-zero (length bytes)))) d)
    (λ d. letter_leads bytes byte p h count not_blank not_slash not_z d))))

-- ---- A byte at each place

no_line_end-more : (line : List ℕ) (byte : ℕ) → HasNoLineEnd line → eqb byte 10 ≡ false → HasNoLineEnd (line ++ byte ∷ [])
no_line_end-more [] byte h e = ((λ is. absurd (lines_differ is)), tt)
  where
    lines_differ : byte ≡ 10 → ⊥
    lines_differ is = let f : eqb 10 10 ≡ false = ap (λ b. eqb b 10) (sym is) ∙ e in cc
no_line_end-more (b ∷ line) byte h e = (h.0, no_line_end-more line byte h.1 e)

-- a progress by its parts
abbrev stood : List (List Item) → List Item → Position → ℕ → Progress
stood segments i place at = record { segments = segments; items = i; place = place; at = at }

-- what a byte leads to at a place
abbrev LeadsFrom : List ℕ → ℕ → List (List Item) → List Item → Position → ℕ → Type 0
LeadsFrom bytes byte segments i place at = LeadsOn bytes byte (at_place (counted (stood segments i place at)) place byte at)

length-whole : (bytes before held : List ℕ) (at : ℕ) → bytes ≡ before ++ held → at ≡ capped (length bytes) → at ≡ capped (length before + length held)
length-whole bytes before held at is e = e ∙ ap capped (ap length is ∙ length-append before held)

between_leads : (bytes : List ℕ) (byte : ℕ) (segments : List (List Item)) (i : List Item) (at : ℕ) → Stands bytes (stood segments i places.Between at)
    → LeadsFrom bytes byte segments i places.Between at
between_leads bytes byte segments i at s =
    let p = stood segments i places.Between at in
    let whole : bytes ≡ s.before = s.whole ∙ ap (λ t. s.before ++ t) s.is_open ∙ append-nil s.before in
    let h : AreElements bytes byte (counted p) = λ after.
    subst (λ t. Begins (t ++ byte ∷ after) (elements_so_far p) (byte ∷ after)) (sym whole)
    (subst (λ t. Begins (s.before ++ (t ++ byte ∷ after)) (elements_so_far p) (t ++ byte ∷ after)) s.is_open (s.begins (byte ∷ after))) in
    subst (λ k. LeadsOn bytes byte (begun (counted p) byte k)) (sym s.count) (begun_leads bytes byte (counted p) h (meets bytes byte p s).count)

comment_leads : (bytes : List ℕ) (byte : ℕ) (segments : List (List Item)) (i : List Item) (at : ℕ) → Stands bytes (stood segments i places.Comment at)
    → LeadsFrom bytes byte segments i places.Comment at
comment_leads bytes byte segments i at s =
    let p = stood segments i places.Comment at in
    let m = meets bytes byte p s in
    let line = s.is_open.0 in
    by_test (LeadsOn bytes byte) (eqb byte 10) (Ok (placed (counted p) places.Between)) (Ok (counted p))
    (λ e. passes bytes byte (counted p) (placed (counted p) places.Between) [] m m.count refl (sym (append-nil (elements_so_far p)))
    (λ after. rw (s.is_open.1) (comment line s.is_open.2 (eqb-true byte 10 e) (blank (subst (λ b. is_blank b ≡ true) (sym (eqb-true byte 10 e)) refl) nothing))))
    (λ e. grown bytes byte (counted p) places.Comment m (line ++ byte ∷ [], ap (λ t. t ++ byte ∷ []) s.is_open.1, no_line_end-more line byte s.is_open.2 e))

-- the head that a letter extends another to, or that none does
abbrev pub IsLonger : List ℕ → Head → ℕ → Option Head → Type 0
IsLonger held head byte (Some longer_head) = IsHead (held ++ byte ∷ []) longer_head × (longer_head ≢ heads.Label)
IsLonger held head byte None = allows head byte ≡ false

and_false : (a : Bool) → (a && true) ≡ false → a ≡ false
and_false true h = h
and_false false h = h

and_is : (a : Bool) → (a && true) ≡ true → a ≡ true
and_is true h = h
and_is false h = h

with_letter : (held front : List ℕ) (byte other : ℕ) → held ≡ front → eqb byte other ≡ true → held ++ byte ∷ [] ≡ front ++ other ∷ []
with_letter held front byte other is e = ap (λ t. t ++ byte ∷ []) is ∙ ap (λ b. front ++ b ∷ []) (eqb-true byte other e)

longer_is : (held : List ℕ) (head : Head) (byte : ℕ) → IsHead held head → (eqb byte 45 && allows head 45) ≡ false → IsLonger held head byte (longer head byte)
longer_is held heads.Label byte is minus = refl
longer_is held heads.Data byte is minus =
    by_test (IsLonger held heads.Data byte) (eqb byte 76) _ _ (λ e. (with_letter held (68 ∷ []) byte 76 is e, λ n. cc)) (λ a. rw (a, and_false _ minus) refl)
longer_is held heads.DataLabel byte is minus = refl
longer_is held heads.Byte byte is minus = refl
longer_is held (heads.Operation function false bases.Number) byte is minus =
    let front = letter function ∷ [] in
    let P : Option Head → Type 0 = IsLonger held (heads.Operation function false bases.Number) byte in
    by_test P (eqb byte 73 && true) _ _ (λ e. (with_letter held front byte 73 is (and_is _ e), λ n. cc)) (λ a.
    by_test P (eqb byte 80) _ _ (λ e. (with_letter held front byte 80 is e, λ n. cc)) (λ b.
    by_test P (eqb byte 71) _ _ (λ e. (with_letter held front byte 71 is e, λ n. cc)) (λ c.
    by_test P (eqb byte 76) _ _ (λ e. (with_letter held front byte 76 is e, λ n. cc)) (λ d.
    rw (and_false _ a, b, c, d, and_false _ minus) refl))))
longer_is held (heads.Operation function true bases.Number) byte is minus =
    let front = letter function ∷ 73 ∷ [] in
    let P : Option Head → Type 0 = IsLonger held (heads.Operation function true bases.Number) byte in
    by_test P (eqb byte 73 && false) _ _ (λ e. absurd (never (eqb byte 73) e)) (λ a.
    by_test P (eqb byte 80) _ _ (λ e. (with_letter held front byte 80 is e, λ n. cc)) (λ b.
    by_test P (eqb byte 71) _ _ (λ e. (with_letter held front byte 71 is e, λ n. cc)) (λ c.
    by_test P (eqb byte 76) _ _ (λ e. (with_letter held front byte 76 is e, λ n. cc)) (λ d.
    rw (b, c, d, and_false _ minus) refl))))
  where
    never : (a : Bool) → (a && false) ≡ true → ⊥
    never true e = cc
    never false e = cc
longer_is held (heads.Operation function indirect bases.P) byte is minus = rw (and_false _ minus) refl
longer_is held (heads.Operation function indirect bases.G) byte is minus = rw (and_false _ minus) refl
longer_is held (heads.Operation function indirect bases.Label) byte is minus = refl
longer_is held heads.Global byte is minus = refl
longer_is held (heads.GlobalLabel g) byte is minus = refl

-- a letter after a head
letter_after_leads : (bytes : List ℕ) (byte : ℕ) (p : Progress) (m : Meets bytes byte p) (at : ℕ) (head : Head) (found : Option Head)
    → IsHead m.held head → (head ≢ heads.Label) → at ≡ capped (length m.before + length m.held) → is_ascii_digit byte ≡ false → IsLonger m.held head byte found
    → LeadsOn bytes byte (placed_at p (after_letter found (errors.BadNumber at)))
letter_after_leads bytes byte p m at head (Some found) opens other there d is = grown bytes byte p (places.Head found) m is
letter_after_leads bytes byte p m at head None opens other there d is =
    broken bytes byte p (errors.BadNumber at) m (λ more. rw there (no_digit (length m.before) byte more m.held head opens other d is))

head_leads : (bytes : List ℕ) (byte : ℕ) (segments : List (List Item)) (i : List Item) (at : ℕ) (head : Head) → Stands bytes (stood segments i (places.Head head) at)
    → LeadsFrom bytes byte segments i (places.Head head) at
head_leads bytes byte segments i at head s =
    let p = stood segments i (places.Head head) at in
    let m = meets bytes byte p s in
    let there = length-whole bytes s.before s.held at s.whole s.count in
    let P : Result Position TextError → Type 0 = λ r. LeadsOn bytes byte (placed_at (counted p) r) in
    by_test P (is_ascii_digit byte) _ _
    (λ d. digit_leads bytes byte (counted p) m head at false 0 s.held [] (sym (append-nil s.held)) s.is_open.0 (λ e. absurd cc) refl refl (omega arith) there d)
    (λ d. by_test P (eqb byte 45 && allows head 45) _ _
    (λ e. let parts = and_true (eqb byte 45) (allows head 45) e in
    grown bytes byte (counted p) (places.Minus head at) m (s.held, with_letter s.held s.held byte 45 refl parts.0, s.is_open.0, parts.1, there))
    (λ n. letter_after_leads bytes byte (counted p) m at head (longer head byte) s.is_open.0 s.is_open.1 there d (longer_is s.held head byte s.is_open.0 n)))

minus_leads : (bytes : List ℕ) (byte : ℕ) (segments : List (List Item)) (i : List Item) (at : ℕ) (head : Head) (from : ℕ) → Stands bytes (stood segments i (places.Minus head from) at)
    → LeadsFrom bytes byte segments i (places.Minus head from) at
minus_leads bytes byte segments i at head from s =
    let p = stood segments i (places.Minus head from) at in
    let m = meets bytes byte p s in
    let front = s.is_open.0 in
    let is : s.held ≡ front ++ 45 ∷ [] = s.is_open.1 in
    let there : at ≡ capped (length s.before + length front + 1) =
    length-whole bytes s.before s.held at s.whole s.count ∙ ap capped (omega (arith, ap length is, length-append front (45 ∷ []))) in
    let P : Result Position TextError → Type 0 = λ r. LeadsOn bytes byte (placed_at (counted p) r) in
    by_test P (is_ascii_digit byte) _ _
    (λ d. digit_leads bytes byte (counted p) m head from true 0 front [] is s.is_open.2 (λ e. s.is_open.3) refl refl (omega arith) s.is_open.4 d)
    (λ d. broken bytes byte (counted p) (errors.BadNumber at) m (λ more.
    rw (is, append_assoc front (45 ∷ []) (byte ∷ more), there) (no_digit_after_minus (length s.before) byte more front head s.is_open.2 s.is_open.3 d)))

-- ---- The end of a number

-- what digits spell after a head, with or without sign
spelled_operation : (held digits : List ℕ) (function : Function) (indirect : Bool) (base : Base) (negative : Bool) (value : ℕ)
    → held ≡ operation_letters function indirect base ++ (sign negative ++ digits) → (negative ≡ true → allows (heads.Operation function indirect base) 45 ≡ true)
    → IsNumber (cond negative 32768 65535) digits value → Spells held (items.Operation function indirect base (word_of negative value))
spelled_operation held digits function indirect bases.Label true value is allowed number = absurd (let e = allowed refl in cc)
spelled_operation held digits function indirect bases.Label false value is allowed number = (digits, is, number)
spelled_operation held digits function indirect bases.Number true value is allowed number = (45 ∷ digits, is, inr (digits, value, refl, number, refl))
spelled_operation held digits function indirect bases.Number false value is allowed number = (digits, is, inl number)
spelled_operation held digits function indirect bases.P true value is allowed number = (45 ∷ digits, is, inr (digits, value, refl, number, refl))
spelled_operation held digits function indirect bases.P false value is allowed number = (digits, is, inl number)
spelled_operation held digits function indirect bases.G true value is allowed number = (45 ∷ digits, is, inr (digits, value, refl, number, refl))
spelled_operation held digits function indirect bases.G false value is allowed number = (digits, is, inl number)

-- the number ended, and its item is spelled by the part that was incomplete
abbrev pub IsSpelled : List ℕ → Ended → Type 0
IsSpelled held (ended.Item it) = Spells held it
IsSpelled held (ended.Global g) = (digits : List ℕ) × (held ≡ 71 ∷ digits) × IsNumber 511 digits g

spelled : (held front digits : List ℕ) (head : Head) (negative : Bool) (value : ℕ) → held ≡ front ++ (sign negative ++ digits) → IsHead front head
    → (negative ≡ true → allows head 45 ≡ true) → IsNumber (greatest head negative) digits value → IsSpelled held (ended_number head negative value)
spelled held front digits heads.Label true value is opens allowed number = absurd (let e = allowed refl in cc)
spelled held front digits heads.Label false value is opens allowed number = rw (is, opens) number
spelled held front digits heads.Data true value is opens allowed number =
    (45 ∷ digits, is ∙ ap (λ t. t ++ 45 ∷ digits) opens, inr (digits, value, refl, number, refl))
spelled held front digits heads.Data false value is opens allowed number = (digits, is ∙ ap (λ t. t ++ digits) opens, inl number)
spelled held front digits heads.DataLabel true value is opens allowed number = absurd (let e = allowed refl in cc)
spelled held front digits heads.DataLabel false value is opens allowed number = (digits, is ∙ ap (λ t. t ++ digits) opens, number)
spelled held front digits heads.Byte true value is opens allowed number = absurd (let e = allowed refl in cc)
spelled held front digits heads.Byte false value is opens allowed number = (digits, is ∙ ap (λ t. t ++ digits) opens, number)
spelled held front digits (heads.Operation function indirect base) true value is opens allowed number =
    spelled_operation held digits function indirect base true value (is ∙ ap (λ t. t ++ 45 ∷ digits) opens) allowed number
spelled held front digits (heads.Operation function indirect base) false value is opens allowed number =
    spelled_operation held digits function indirect base false value (is ∙ ap (λ t. t ++ digits) opens) allowed number
spelled held front digits heads.Global true value is opens allowed number = absurd (let e = allowed refl in cc)
spelled held front digits heads.Global false value is opens allowed number = (digits, is ∙ ap (λ t. t ++ digits) opens, number)
spelled held front digits (heads.GlobalLabel g) true value is opens allowed number = absurd (let e = allowed refl in cc)
spelled held front digits (heads.GlobalLabel g) false value is opens allowed number =
    (opens.0, digits, is ∙ ap (λ t. t ++ digits) opens.1 ∙ ap (λ t. 71 ∷ t) (append_assoc opens.0 (76 ∷ []) digits), opens.2, number)

-- what a byte that isn't a digit leads to after a number
ended_leads : (bytes : List ℕ) (byte : ℕ) (p : Progress) (s : Stands bytes p) (e : Ended) → IsSpelled s.held e → is_ascii_digit byte ≡ false
    → LeadsOn bytes byte (after_number (counted p) e byte (capped (length bytes)))
ended_leads bytes byte p s (ended.Item it) spells d =
    let m = meets bytes byte p s in
    let h : AreElements bytes byte (with_item (counted p) it) = λ after.
    rw (elements-with_item p it) (subst (λ t. Begins t (elements_so_far p ++ an_item it ∷ []) (byte ∷ after)) (sym (ap (λ t. t ++ byte ∷ after) m.whole ∙ append_assoc m.before m.held (byte ∷ after)))
    (begins-trans (m.begins after) (item s.held it spells d nothing))) in
    begun_leads bytes byte (with_item (counted p) it) h m.count
ended_leads bytes byte p s (ended.Global g) (digits, is, number) d =
    let m = meets bytes byte p s in
    let at = capped (length bytes) in
    let there : at ≡ capped (length s.before + 1 + length digits) = length-whole bytes s.before s.held at s.whole refl ∙ ap capped (omega (arith, ap length is)) in
    by_test (λ r. LeadsOn bytes byte (placed_at (counted p) r)) (eqb byte 76) (Ok (places.Head (heads.GlobalLabel g))) (Err (errors.MissingLabel at))
    (λ e. grown bytes byte (counted p) (places.Head (heads.GlobalLabel g)) m ((digits, ap (λ t. t ++ byte ∷ []) is ∙ ap (λ b. 71 ∷ (digits ++ b ∷ [])) (eqb-true byte 76 e), number), λ n. cc))
    (λ e. broken bytes byte (counted p) (errors.MissingLabel at) m (λ more. rw (is, there) (no_label (length s.before) byte g more digits number d (not_l e))))
  where
    not_l : eqb byte 76 ≡ false → byte ≢ 76
    not_l e is = let f : eqb 76 76 ≡ false = ap (λ b. eqb b 76) (sym is) ∙ e in cc

digits_leads : (bytes : List ℕ) (byte : ℕ) (segments : List (List Item)) (i : List Item) (at : ℕ) (head : Head) (from : ℕ) (negative : Bool) (value : ℕ)
    → Stands bytes (stood segments i (places.Digits head from negative value) at) → LeadsFrom bytes byte segments i (places.Digits head from negative value) at
digits_leads bytes byte segments i at head from negative value s =
    let p = stood segments i (places.Digits head from negative value) at in
    let m = meets bytes byte p s in
    let (front, digits, is, opens, allowed, number, place) = s.is_open in
    let parts = number_parts (greatest head negative) value digits number in
    by_test (LeadsOn bytes byte) (is_ascii_digit byte) (placed_at (counted p) (with_digit head from negative value byte)) (after_number (counted p) (ended_number head negative value) byte at)
    (λ d. digit_leads bytes byte (counted p) m head from negative value front digits is opens allowed parts.0 parts.1 parts.2 place d)
    (λ d. subst (λ k. LeadsOn bytes byte (after_number (counted p) (ended_number head negative value) byte k)) (sym s.count)
    (ended_leads bytes byte p s (ended_number head negative value) (spelled s.held front digits head negative value is opens allowed number) d))

-- a byte leads to the next state of the reader, or makes a fault
pub step_leads : (bytes : List ℕ) (byte : ℕ) (p : Progress) → Stands bytes p → LeadsOn bytes byte (step p byte)
unfolding step
step_leads bytes byte p s = go p.place s
  where
    go : (place : Position) → Stands bytes (stood p.segments p.items place p.at) → LeadsFrom bytes byte p.segments p.items place p.at
    go places.Between s = between_leads bytes byte p.segments p.items p.at s
    go places.Comment s = comment_leads bytes byte p.segments p.items p.at s
    go (places.Head head) s = head_leads bytes byte p.segments p.items p.at head s
    go (places.Minus head from) s = minus_leads bytes byte p.segments p.items p.at head from s
    go (places.Digits head from negative value) s = digits_leads bytes byte p.segments p.items p.at head from negative value s
