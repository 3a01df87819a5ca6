-- Numbers as fields: a text is read as a number exactly if it is that number in decimal digits.
use Rattle.std.proofs.Common.{◌≡◌, ◌⊎◌, inl, inr, ℕ, zero, suc, ◌+◌, ◌-◌, ◌*◌, ◌^◌, ◌<◌, ◌≤◌, ◌==◌, Bool, true, false, cond, List, [], ◌∷◌, length, get_or, Option, Some, None, IfSome, refl, ap, sym, ◌∙◌, arith, rules, ne_eqb, ⊎_elim}
use Rattle.std.specs.Prelude.{nat_le, nat_lt}
use Rattle.std.specs.List.{AllByRecursion}
use Rattle.std.specs.Int.{IsInRange}
use Rattle.std.specs.Fmt.{decimal}
use Rattle.std.proofs.lemmas.Bool.Decides.{nat_tests}
use Rattle.std.proofs.lemmas.Bool.{eqb-true, eqb-false}
use Rattle.std.proofs.lemmas.Fmt.{decimal_digit, decimal_nonempty, first_decimal, digits_decimal, digits_value-decimal, decimal-digits_value}
use Rattle.std.proofs.lemmas.Str.Parse.{IsNumeralModel, numerals_by_fold}
use Rattle.bc_text.specs.Numbers.{value_from}
use Rattle.bc_cert_write.specs.Lines.{words_field}
use Rattle.bc_cert_read.specs.Fields.{◌>>=◌, is_digit, digits_from, number, up_to, small, level, some_number, number_or_none}
use Rattle.bc_cert_laws.specs.Entries.{IsNumber, IsSmall, IsLevel}

-- what was read by a step and one after it
pub got : {A B : Type 0} (o : Option A) (f : A → Option B) (b : B) → o >>= f ≡ Some b → (a : A) × (o ≡ Some a) × (f a ≡ Some b)
got None f b h = absurd (cc)
got (Some a) f b h = (a, refl, h)

-- the side of a test that gave something
pub chosen : {A : Type 0} (t : Bool) (o p : Option A) (a : A) → cond t o p ≡ Some a → ((t ≡ true) × (o ≡ Some a)) ⊎ ((t ≡ false) × (p ≡ Some a))
chosen true o p a h = inl (refl, h)
chosen false o p a h = inr (refl, h)

pub passed : {A : Type 0} (t : Bool) (o : Option A) (a : A) → cond t o None ≡ Some a → (t ≡ true) × (o ≡ Some a)
passed true o a h = (refl, h)
passed false o a h = absurd (cc)

pub kept : {A : Type 0} (t : Bool) (o : Option A) (a : A) → cond t None o ≡ Some a → (t ≡ false) × (o ≡ Some a)
kept true o a h = absurd (cc)
kept false o a h = (refl, h)

-- digits only
abbrev pub Digits : List ℕ → Type 0
Digits = AllByRecursion (IsInRange 48 57)

numerals : IsNumeralModel Digits (value_from 0)
numerals = numerals_by_fold Digits (search rules) value_from (search rules)

value_from_least : (n : ℕ) (bs : List ℕ) → n ≤ value_from n bs
value_from_least n [] = omega arith
value_from_least n (b ∷ bs) = let h = value_from_least (n * 10 + (b - 48)) bs in omega arith

pub digit_is : (b : ℕ) → is_digit b ≡ true → IsInRange 48 57 b
digit_is b h = grind (arith, nat_tests)

pub is_digit_of : (b : ℕ) → IsInRange 48 57 b → is_digit b ≡ true
is_digit_of b h = grind (arith, nat_tests)

digits_read : (n m : ℕ) (bs : List ℕ) → n < 2 ^ 64 → digits_from n bs ≡ Some m → Digits bs × (value_from n bs ≡ m) × (m < 2 ^ 64)
digits_read n m [] k h = let e : n ≡ m = cc in (tt, e, omega arith)
digits_read n m (b ∷ bs) k h =
    let p = passed (is_digit b) _ m h in
    let q = passed (nat_lt (n * 10 + (b - 48)) (2 ^ 64)) _ m p.1 in
    let below : n * 10 + (b - 48) < 2 ^ 64 = grind (arith, nat_tests, q.0) in
    let rest = digits_read (n * 10 + (b - 48)) m bs below q.1 in
    ((digit_is b p.0, rest.0), rest.1, rest.2)

digits_back : (n : ℕ) (bs : List ℕ) → Digits bs → value_from n bs < 2 ^ 64 → digits_from n bs ≡ Some (value_from n bs)
digits_back n [] d h = refl
digits_back n (b ∷ bs) d h =
    let least = value_from_least (n * 10 + (b - 48)) bs in
    let below : nat_lt (n * 10 + (b - 48)) (2 ^ 64) ≡ true = grind (arith, nat_tests) in
    rw (is_digit_of b d.0, below) (digits_back (n * 10 + (b - 48)) bs d.1 h)

read_digits : (m : ℕ) (bs : List ℕ) → 0 < length bs → (get_or bs 0 0 ≡ 48 → length bs ≡ 1) → digits_from 0 bs ≡ Some m → (bs ≡ decimal m) × IsNumber m
read_digits m bs some first h =
    let p = digits_read 0 m bs (omega arith) h in
    (sym (decimal-digits_value numerals bs p.0 some first (omega (arith, p))) ∙ ap decimal p.1, p.2)

pub number_read : (m : ℕ) (bs : List ℕ) → number bs ≡ Some m → (bs ≡ decimal m) × IsNumber m
number_read m [] h = absurd (cc)
number_read m (b ∷ []) h = read_digits m (b ∷ []) (omega arith) (λ _. refl) h
number_read m (b ∷ c ∷ bs) h =
    let p = kept (b == 48) _ m h in
    read_digits m (b ∷ c ∷ bs) (omega arith) (λ e. absurd (eqb-false b 48 p.0 e)) p.1

number_of_digits : (m : ℕ) (bs : List ℕ) → 0 < length bs → (get_or bs 0 0 ≡ 48 → length bs ≡ 1) → digits_from 0 bs ≡ Some m → number bs ≡ Some m
number_of_digits m [] some first h = absurd (omega arith)
number_of_digits m (b ∷ []) some first h = h
number_of_digits m (b ∷ c ∷ bs) some first h = rw (ne_eqb b 48 (λ e. absurd (omega (arith, first e)))) h

first_digit : (m : ℕ) → IsNumber m → get_or (decimal m) 0 0 ≡ 48 → length (decimal m) ≡ 1
first_digit zero h e = ap length (decimal_digit 0 (omega arith))
first_digit (suc m) h e = absurd (omega (arith, first_decimal (suc m) (omega arith) h))

pub number_back : (m : ℕ) → IsNumber m → number (decimal m) ≡ Some m
number_back m h =
    let value = digits_value-decimal numerals m h in
    let read = digits_back 0 (decimal m) (digits_decimal numerals m h) (omega (arith, value)) in
    number_of_digits m (decimal m) (decimal_nonempty m h) (first_digit m h) (read ∙ ap Some value)

-- numbers up to a bound
up_to_read : (bound m : ℕ) (o : Option ℕ) → up_to bound o ≡ Some m → (o ≡ Some m) × (m ≤ bound)
up_to_read bound m None h = absurd (cc)
up_to_read bound m (Some n) h = let p = passed (nat_le n bound) (Some n) m h in let e : n ≡ m = cc in let l : n ≤ bound = grind (arith, nat_tests, p.0) in (p.1, omega arith)

up_to_back : (bound m : ℕ) → m ≤ bound → up_to bound (Some m) ≡ Some m
up_to_back bound m h = let e : nat_le m bound ≡ true = grind (arith, nat_tests) in rw e

pub small_read : (m : ℕ) (bs : List ℕ) → small bs ≡ Some m → (bs ≡ decimal m) × IsSmall m
small_read m bs h = let p = up_to_read 65535 m (number bs) h in ((number_read m bs p.0).0, p.1)

pub small_back : (m : ℕ) → IsSmall m → small (decimal m) ≡ Some m
small_back m h = rw (number_back m (omega arith)) (up_to_back 65535 m h)

pub level_read : (m : ℕ) (bs : List ℕ) → level bs ≡ Some m → (bs ≡ decimal m) × IsLevel m
level_read m bs h = let p = up_to_read 32768 m (small bs) h in ((small_read m bs p.0).0, p.1)

pub level_back : (m : ℕ) → IsLevel m → level (decimal m) ≡ Some m
level_back m h = rw (small_back m (omega arith)) (up_to_back 32768 m h)

-- a number, or `-`
some_number_read : (m : Option ℕ) (bs : List ℕ) (o : Option ℕ) → number bs ≡ o → some_number o ≡ Some m → (bs ≡ words_field m) × IfSome m IsNumber
some_number_read m bs None e h = absurd (cc)
some_number_read None bs (Some n) e h = absurd (cc)
some_number_read (Some m) bs (Some n) e h = number_read m bs (cc)

dash_read : (m : Option ℕ) (b : ℕ) → (b == 45) ≡ true → Some None ≡ Some m → (b ∷ [] ≡ words_field m) × IfSome m IsNumber
dash_read None b t h = (ap (λ c. c ∷ []) (eqb-true b 45 t), tt)
dash_read (Some m) b t h = absurd (cc)

pub words_read : (m : Option ℕ) (bs : List ℕ) → number_or_none bs ≡ Some m → (bs ≡ words_field m) × IfSome m IsNumber
words_read m [] h = absurd (cc)
words_read m (b ∷ []) h = ⊎_elim (λ p. dash_read m b p.0 p.1) (λ p. some_number_read m (b ∷ []) _ refl p.1) (chosen (b == 45) (Some None) _ m h)
words_read m (b ∷ c ∷ bs) h = some_number_read m (b ∷ c ∷ bs) _ refl h

some_number_back : (m : ℕ) (bs : List ℕ) → number bs ≡ Some m → number_or_none bs ≡ Some (Some m)
some_number_back m [] h = absurd (cc)
some_number_back m (b ∷ []) h =
    let digit = digit_is b (passed (is_digit b) _ m h).0 in
    rw (ne_eqb b 45 (λ e. omega (arith, digit.0, e))) (ap some_number h)
some_number_back m (b ∷ c ∷ bs) h = ap some_number h

pub words_back : (m : Option ℕ) → IfSome m IsNumber → number_or_none (words_field m) ≡ Some m
words_back None h = refl
words_back (Some m) h = some_number_back m (decimal m) (number_back m h)

pub decimal_digits : (m : ℕ) → IsNumber m → Digits (decimal m)
decimal_digits m h = digits_decimal numerals m h
