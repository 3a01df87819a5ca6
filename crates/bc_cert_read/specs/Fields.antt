-- For proofs: the fields of a line and the numbers in them, computed as the program does it.
use Rattle.std.specs.Prelude.{ℕ, ◌+◌, ◌*◌, ◌-◌, ◌^◌, ◌==◌, ◌&&◌, Bool, cond, nat_lt, nat_le, List, [], ◌∷◌, ◌++◌, Option, Some, None}

infixl 10 ◌>>=◌
abbrev pub ◌>>=◌ : {A B : Type 0} → Option A → (A → Option B) → Option B
(Some x) >>= f = f x
None >>= f = None

-- the bytes before the first separator, and those after it, if there is one
pub record Cut : Type 0 where
  pub first : List ℕ
  pub following : Option (List ℕ)

abbrev pub longer : List ℕ → Cut → Cut
longer front c = record { first = front ++ c.first; following = c.following }

abbrev pub cut : ℕ → List ℕ → Cut
cut separator [] = record { first = []; following = None }
cut separator (b ∷ bs) = cond (b == separator) (record { first = []; following = Some bs }) (longer (b ∷ []) (cut separator bs))

-- the fields between the separators
abbrev pub put : ℕ → List (List ℕ) → List (List ℕ)
put b [] = (b ∷ []) ∷ []
put b (f ∷ fs) = (b ∷ f) ∷ fs

abbrev pub fields : ℕ → List ℕ → List (List ℕ)
fields separator [] = [] ∷ []
fields separator (b ∷ bs) = cond (b == separator) ([] ∷ fields separator bs) (put b (fields separator bs))

-- the first field, and the text after the blank that ends it
abbrev pub field_of : List ℕ → Option (List ℕ) → Option (List ℕ × List ℕ)
field_of first None = None
field_of first (Some rest) = Some (first, rest)

abbrev pub field : List ℕ → Option (List ℕ × List ℕ)
field text = field_of (cut 32 text).first (cut 32 text).following

-- the text after this letter and a blank
abbrev pub following : List ℕ → ℕ → Option (List ℕ)
following (a ∷ b ∷ rest) letter = cond (a == letter) (cond (b == 32) (Some rest) None) None
following _ letter = None

abbrev pub is_digit : ℕ → Bool
is_digit b = nat_le 48 b && nat_le b 57

-- the number that n, as the value of the digits read up to here, and the remaining digits make
abbrev pub digits_from : ℕ → List ℕ → Option ℕ
digits_from n [] = Some n
digits_from n (b ∷ bs) = cond (is_digit b) (cond (nat_lt (n * 10 + (b - 48)) (2 ^ 64)) (digits_from (n * 10 + (b - 48)) bs) None) None

-- a number in decimal digits without leading zeros
abbrev pub number : List ℕ → Option ℕ
number [] = None
number (b ∷ []) = digits_from 0 (b ∷ [])
number (b ∷ c ∷ bs) = cond (b == 48) None (digits_from 0 (b ∷ c ∷ bs))

abbrev pub up_to : ℕ → Option ℕ → Option ℕ
up_to bound None = None
up_to bound (Some n) = cond (nat_le n bound) (Some n) None

-- a number up to 65,535, and a level
abbrev pub small : List ℕ → Option ℕ
small text = up_to 65535 (number text)

abbrev pub level : List ℕ → Option ℕ
level text = up_to 32768 (small text)

-- a number, or `-` for none
abbrev pub some_number : Option ℕ → Option (Option ℕ)
some_number None = None
some_number (Some n) = Some (Some n)

abbrev pub number_or_none : List ℕ → Option (Option ℕ)
number_or_none (b ∷ []) = cond (b == 45) (Some None) (some_number (number (b ∷ [])))
number_or_none text = some_number (number text)
