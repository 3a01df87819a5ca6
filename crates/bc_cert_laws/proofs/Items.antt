-- Items as fields: a text is read as an item exactly if it is that item as it is printed.
use Rattle.std.proofs.Common.{◌≡◌, ◌≢◌, ⊎_elim, ℕ, ◌<◌, ◌≤◌, ◌==◌, Bool, true, false, cond, List, [], ◌∷◌, ◌++◌, Option, Some, None, refl, ap, ap₂, sym, subst, ◌∙◌, arith, ne_eqb}
use Rattle.std.specs.Prelude.{nat_le, nat_lt}
use Rattle.std.specs.Int.{IsInRange}
use Rattle.std.specs.Fmt.{decimal}
use Rattle.std.proofs.lemmas.Bool.{eqb-true}
use Rattle.std.proofs.lemmas.Bool.Decides.{nat_tests}
use Rattle.bc_text_items.specs.declared.item.Item.{Item}
use Rattle.bc_text_items.specs.declared.item.Item.TheVariants as items
use Rattle.bc_text_items.specs.declared.item.Base.{Base}
use Rattle.bc_text_items.specs.declared.item.Base.TheVariants as bases
use Rattle.bc_text_items.specs.declared.item.Function.{Function}
use Rattle.bc_text_items.specs.declared.item.Function.TheVariants.{Load, Store, Add, Jump, JumpIfTrue, JumpIfFalse, Call, Execute}
use Rattle.bc_text.specs.Letters.{letter, indirection, base_letter, operation_letters}
use Rattle.bc_text.specs.Printed.{printed, IsItem}
use Rattle.bc_cert_read.specs.Fields.{small, is_digit, cut, Cut}
use Rattle.bc_cert_read.specs.Items.{label_of, plain_data_of, data_label_of, data_of, byte_of, global_with, global_at, global_of, function_of, numbered_of, addressed_of, operation_of, function_item, item}
use Rattle.bc_cert_laws.specs.Entries.{IsSmall}
use Rattle.bc_cert_laws.proofs.Numbers.{chosen, passed, Digits, is_digit_of, decimal_digits, small_read, small_back}
use Rattle.bc_cert_laws.proofs.Fields.{Without, Above, each, each_of_two, cut_read, cut_back}
use Rattle.bc_cert_laws.proofs.Forms.{at_same, number_above}

-- the text says the item
abbrev Says : List ℕ → Item → Type 0
Says text i = (text ≡ printed i) × IsItem i

-- after a letter, a number
abbrev numbered : (ℕ → Item) → Option ℕ → Option Item
numbered f None = None
numbered f (Some n) = Some (f n)

numbered_read : (front bs : List ℕ) (f : ℕ → Item) (i : Item) (o : Option ℕ) → small bs ≡ o → ((n : ℕ) → IsSmall n → Says (front ++ decimal n) (f n)) → numbered f o ≡ Some i → Says (front ++ bs) i
numbered_read front bs f i None e k h = absurd (cc)
numbered_read front bs f i (Some n) e k h =
    let s = small_read n bs e in
    at_same (Says (front ++ bs)) (f n) i h (subst (λ t. Says (front ++ t) (f n)) (sym s.0) (k n s.1))

label_is : (o : Option ℕ) → label_of o ≡ numbered items.Label o
label_is None = refl
label_is (Some n) = refl

data_is : (o : Option ℕ) → plain_data_of o ≡ numbered items.Data o
data_is None = refl
data_is (Some n) = refl

data_label_is : (o : Option ℕ) → data_label_of o ≡ numbered items.DataLabel o
data_label_is None = refl
data_label_is (Some n) = refl

operation_is : (f : Function) (indirect : Bool) (b : Base) (o : Option ℕ) → numbered_of f indirect b o ≡ numbered (items.Operation f indirect b) o
operation_is f indirect b None = refl
operation_is f indirect b (Some n) = refl

label_read : (bs : List ℕ) (i : Item) → label_of (small bs) ≡ Some i → Says bs i
label_read bs i h = numbered_read [] bs items.Label i (small bs) refl (λ n s. (refl, s)) (sym (label_is (small bs)) ∙ h)

plain_data_read : (bs : List ℕ) (i : Item) → plain_data_of (small bs) ≡ Some i → Says (68 ∷ bs) i
plain_data_read bs i h = numbered_read (68 ∷ []) bs items.Data i (small bs) refl (λ n s. (refl, s)) (sym (data_is (small bs)) ∙ h)

data_label_read : (bs : List ℕ) (i : Item) → data_label_of (small bs) ≡ Some i → Says (68 ∷ 76 ∷ bs) i
data_label_read bs i h = numbered_read (68 ∷ 76 ∷ []) bs items.DataLabel i (small bs) refl (λ n s. (refl, s)) (sym (data_label_is (small bs)) ∙ h)

data_read : (bs : List ℕ) (i : Item) → data_of bs ≡ Some i → Says (68 ∷ bs) i
data_read [] i h = plain_data_read [] i h
data_read (b ∷ bs) i h =
    ⊎_elim
    (λ p. subst (λ c. Says (68 ∷ c ∷ bs) i) (sym (eqb-true b 76 p.0)) (data_label_read bs i p.1))
    (λ p. plain_data_read (b ∷ bs) i p.1)
    (chosen (b == 76) (data_label_of (small bs)) _ i h)

byte_read_of : (bs : List ℕ) (i : Item) (o : Option ℕ) → small bs ≡ o → byte_of o ≡ Some i → Says (67 ∷ bs) i
byte_read_of bs i None e h = absurd (cc)
byte_read_of bs i (Some n) e h =
    let p = passed (nat_le n 255) (Some (items.Byte n)) i h in
    at_same (Says (67 ∷ bs)) (items.Byte n) i p.1 (ap (λ t. 67 ∷ t) (small_read n bs e).0, grind (arith, nat_tests, p.0))

global_read_of : (first rest : List ℕ) (i : Item) (g l : Option ℕ) → small first ≡ g → small rest ≡ l → global_with g l ≡ Some i → Says (71 ∷ (first ++ 76 ∷ rest)) i
global_read_of first rest i None l d e h = absurd (cc)
global_read_of first rest i (Some g) None d e h = absurd (cc)
global_read_of first rest i (Some g) (Some l) d e h =
    let p = passed (nat_lt g 512) (Some (items.Global g l)) i h in
    let below : g ≤ 511 = grind (arith, nat_tests, p.0) in
    let f = small_read g first d in
    let r = small_read l rest e in
    at_same (Says (71 ∷ (first ++ 76 ∷ rest))) (items.Global g l) i p.1 (ap₂ (λ x y. 71 ∷ (x ++ 76 ∷ y)) f.0 r.0, (below, r.1))

global_at_read : (text : List ℕ) (i : Item) (o : Option (List ℕ)) → (cut 76 text).following ≡ o → global_at (cut 76 text).first o ≡ Some i → Says (71 ∷ text) i
global_at_read text i None e h = absurd (cc)
global_at_read text i (Some rest) e h =
    subst (λ t. Says (71 ∷ t) i) (sym (cut_read 76 text rest e))
    (global_read_of (cut 76 text).first rest i (small (cut 76 text).first) (small rest) refl refl h)

abbrev function_among : ℕ → List Function → Option Function
function_among b [] = None
function_among b (f ∷ fs) = cond (b == letter f) (Some f) (function_among b fs)

function_among_read : (b : ℕ) (fs : List Function) (f : Function) → function_among b fs ≡ Some f → b ≡ letter f
function_among_read b [] f h = absurd (cc)
function_among_read b (g ∷ fs) f h = ⊎_elim (λ p. at_same (λ x. b ≡ letter x) g f p.1 (eqb-true b (letter g) p.0)) (λ p. function_among_read b fs f p.1) (chosen (b == letter g) (Some g) _ f h)

function_read : (b : ℕ) (f : Function) → function_of b ≡ Some f → b ≡ letter f
function_read b f h = function_among_read b (Load ∷ Store ∷ Add ∷ Jump ∷ JumpIfTrue ∷ JumpIfFalse ∷ Call ∷ Execute ∷ []) f h

-- an operation
letters_front : (f : Function) (indirect : Bool) (b : Base) (bs : List ℕ) → operation_letters f indirect b ++ bs ≡ letter f ∷ (indirection indirect ++ (base_letter b ++ bs))
letters_front f true b bs = refl
letters_front f false b bs = refl

based_read : (f : Function) (indirect : Bool) (b : Base) (bs : List ℕ) (i : Item) → numbered_of f indirect b (small bs) ≡ Some i → Says (letter f ∷ (indirection indirect ++ (base_letter b ++ bs))) i
based_read f indirect b bs i h =
    subst (λ t. Says t i) (letters_front f indirect b bs)
    (numbered_read (operation_letters f indirect b) bs (items.Operation f indirect b) i (small bs) refl (λ n s. (refl, s)) (sym (operation_is f indirect b (small bs)) ∙ h))

lettered : (f : Function) (indirect : Bool) (b c : ℕ) (bs : List ℕ) (i : Item) → (b == c) ≡ true → Says (letter f ∷ (indirection indirect ++ c ∷ bs)) i → Says (letter f ∷ (indirection indirect ++ b ∷ bs)) i
lettered f indirect b c bs i e h = subst (λ x. Says (letter f ∷ (indirection indirect ++ x ∷ bs)) i) (sym (eqb-true b c e)) h

addressed_read : (f : Function) (indirect : Bool) (bs : List ℕ) (i : Item) → addressed_of f indirect bs ≡ Some i → Says (letter f ∷ (indirection indirect ++ bs)) i
addressed_read f indirect [] i h = absurd (cc)
addressed_read f indirect (b ∷ bs) i h =
    ⊎_elim (λ p. lettered f indirect b 80 bs i p.0 (based_read f indirect bases.P bs i p.1))
    (λ p. ⊎_elim (λ q. lettered f indirect b 71 bs i q.0 (based_read f indirect bases.G bs i q.1))
    (λ q. ⊎_elim (λ r. lettered f indirect b 76 bs i r.0 (based_read f indirect bases.Label bs i r.1))
    (λ r. based_read f indirect bases.Number (b ∷ bs) i r.1)
    (chosen (b == 76) _ _ i q.1))
    (chosen (b == 71) _ _ i p.1))
    (chosen (b == 80) _ _ i h)

operation_read : (f : Function) (bs : List ℕ) (i : Item) → operation_of f bs ≡ Some i → Says (letter f ∷ bs) i
operation_read f [] i h = absurd (cc)
operation_read f (b ∷ bs) i h =
    ⊎_elim
    (λ p. lettered f false b 73 bs i p.0 (addressed_read f true bs i p.1))
    (λ p. addressed_read f false (b ∷ bs) i p.1)
    (chosen (b == 73) _ _ i h)

function_item_read : (b : ℕ) (bs : List ℕ) (i : Item) (o : Option Function) → function_of b ≡ o → function_item o bs ≡ Some i → Says (b ∷ bs) i
function_item_read b bs i None e h = absurd (cc)
function_item_read b bs i (Some f) e h = subst (λ c. Says (c ∷ bs) i) (sym (function_read b f e)) (operation_read f bs i h)

headed : (b c : ℕ) (bs : List ℕ) (i : Item) → (b == c) ≡ true → Says (c ∷ bs) i → Says (b ∷ bs) i
headed b c bs i e h = subst (λ x. Says (x ∷ bs) i) (sym (eqb-true b c e)) h

pub item_read : (text : List ℕ) (i : Item) → item text ≡ Some i → (text ≡ printed i) × IsItem i
item_read [] i h = absurd (cc)
item_read (b ∷ bs) i h =
    ⊎_elim (λ p. label_read (b ∷ bs) i p.1)
    (λ p. ⊎_elim (λ q. headed b 68 bs i q.0 (data_read bs i q.1))
    (λ q. ⊎_elim (λ r. headed b 67 bs i r.0 (byte_read_of bs i (small bs) refl r.1))
    (λ r. ⊎_elim (λ s. headed b 71 bs i s.0 (global_at_read bs i (cut 76 bs).following refl s.1))
    (λ s. function_item_read b bs i (function_of b) refl s.1)
    (chosen (b == 71) _ _ i r.1))
    (chosen (b == 67) _ _ i q.1))
    (chosen (b == 68) _ _ i p.1))
    (chosen (is_digit b) _ _ i h)

-- what is printed is read
label_back : (n : ℕ) (bs : List ℕ) → small bs ≡ Some n → Digits bs → item bs ≡ Some (items.Label n)
label_back n [] h d = absurd (cc)
label_back n (b ∷ bs) h d = rw (is_digit_of b d.0) (ap label_of h)

data_back : (n : ℕ) (bs : List ℕ) → small bs ≡ Some n → Digits bs → data_of bs ≡ Some (items.Data n)
data_back n [] h d = absurd (cc)
data_back n (b ∷ bs) h d = rw (ne_eqb b 76 (λ e. omega (arith, d.0))) (ap plain_data_of h)

byte_back : (n : ℕ) → n ≤ 255 → byte_of (Some n) ≡ Some (items.Byte n)
byte_back n h = let e : nat_le n 255 ≡ true = grind (arith, nat_tests) in rw e

global_back : (n m : ℕ) → n ≤ 511 → global_with (Some n) (Some m) ≡ Some (items.Global n m)
global_back n m h = let e : nat_lt n 512 ≡ true = grind (arith, nat_tests) in rw e

digits_at : (n : ℕ) → IsSmall n → Digits (decimal n)
digits_at n h = decimal_digits n (omega arith)

global_text_back : (n m : ℕ) → n ≤ 511 → m ≤ 65535 → global_of (decimal n ++ 76 ∷ decimal m) ≡ Some (items.Global n m)
global_text_back n m h k =
    let w : Without 76 (decimal n) = each (IsInRange 48 57) (λ b. b ≢ 76) (λ b i e. omega arith) (decimal n) (digits_at n (omega arith)) in
    ap (λ (c : Cut). global_at c.first c.following) (cut_back 76 (decimal n) (decimal m) w)
    ∙ ap₂ global_with (small_back n (omega arith)) (small_back m k)
    ∙ global_back n m h

function_back : (f : Function) (bs : List ℕ) → item (letter f ∷ bs) ≡ operation_of f bs
function_back Load bs = refl
function_back _ bs = refl

number_addressed : (f : Function) (indirect : Bool) (bs : List ℕ) → Digits bs → addressed_of f indirect bs ≡ numbered_of f indirect bases.Number (small bs)
number_addressed f indirect [] d = refl
number_addressed f indirect (b ∷ bs) d = rw (ne_eqb b 80 (λ e. omega (arith, d.0)), ne_eqb b 71 (λ e. omega (arith, d.0)), ne_eqb b 76 (λ e. omega (arith, d.0)))

number_direct : (f : Function) (bs : List ℕ) → Digits bs → operation_of f bs ≡ addressed_of f false bs
number_direct f [] d = refl
number_direct f (b ∷ bs) d = rw (ne_eqb b 73 (λ e. omega (arith, d.0)))

addressed_back : (f : Function) (indirect : Bool) (b : Base) (n : ℕ) → IsSmall n → addressed_of f indirect (base_letter b ++ decimal n) ≡ Some (items.Operation f indirect b n)
addressed_back f indirect bases.Number n h = number_addressed f indirect (decimal n) (digits_at n h) ∙ ap (numbered_of f indirect bases.Number) (small_back n h)
addressed_back f indirect bases.P n h = ap (numbered_of f indirect bases.P) (small_back n h)
addressed_back f indirect bases.G n h = ap (numbered_of f indirect bases.G) (small_back n h)
addressed_back f indirect bases.Label n h = ap (numbered_of f indirect bases.Label) (small_back n h)

direct : (f : Function) (b : Base) (n : ℕ) → IsSmall n → operation_of f (base_letter b ++ decimal n) ≡ addressed_of f false (base_letter b ++ decimal n)
direct f bases.Number n h = number_direct f (decimal n) (digits_at n h)
direct f bases.P n h = refl
direct f bases.G n h = refl
direct f bases.Label n h = refl

operation_back : (f : Function) (indirect : Bool) (b : Base) (n : ℕ) → IsSmall n → operation_of f (indirection indirect ++ (base_letter b ++ decimal n)) ≡ Some (items.Operation f indirect b n)
operation_back f true b n h = addressed_back f true b n h
operation_back f false b n h = direct f b n h ∙ addressed_back f false b n h

pub item_back : (i : Item) → IsItem i → item (printed i) ≡ Some i
item_back (items.Label n) h = label_back n (decimal n) (small_back n h) (digits_at n h)
item_back (items.Data n) h = data_back n (decimal n) (small_back n h) (digits_at n h)
item_back (items.DataLabel m) h = ap data_label_of (small_back m h)
item_back (items.Byte n) h = ap byte_of (small_back n (omega arith)) ∙ byte_back n h
item_back (items.Operation f indirect b n) h = ap item (letters_front f indirect b (decimal n)) ∙ function_back f (indirection indirect ++ (base_letter b ++ decimal n)) ∙ operation_back f indirect b n h
item_back (items.Global n m) h = global_text_back n m h.0 h.1

-- the bytes of an item
number_bytes : (n : ℕ) → IsSmall n → Above 32 (decimal n)
number_bytes n h = number_above 32 n (omega arith) (omega arith)

letter_above : (f : Function) → 32 < letter f
letter_above Load = omega arith
letter_above _ = omega arith

base_above : (b : Base) → Above 32 (base_letter b)
base_above bases.Number = tt
base_above _ = (omega arith, tt)

letters_above : (f : Function) (indirect : Bool) (b : Base) → Above 32 (operation_letters f indirect b)
letters_above f true b = (letter_above f, (omega arith, base_above b))
letters_above f false b = (letter_above f, base_above b)

pub item_above : (i : Item) → IsItem i → Above 32 (printed i)
item_above (items.Label n) h = number_bytes n h
item_above (items.Data n) h = (omega arith, number_bytes n h)
item_above (items.DataLabel m) h = (omega arith, (omega arith, number_bytes m h))
item_above (items.Byte n) h = (omega arith, number_bytes n (omega arith))
item_above (items.Operation f indirect b n) h = each_of_two (λ c. 32 < c) (operation_letters f indirect b) (decimal n) (letters_above f indirect b) (number_bytes n h)
item_above (items.Global n m) h = (omega arith, each_of_two (λ c. 32 < c) (decimal n) (76 ∷ decimal m) (number_bytes n (omega arith)) (omega arith, number_bytes m h.1))
