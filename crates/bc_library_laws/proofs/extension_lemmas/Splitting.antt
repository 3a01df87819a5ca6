-- All bytes are blanks, a sign or none, digits, and what follows.
use Rattle.std.proofs.Common.{◌≡◌, ◌≢◌, inl, inr, ⊎_elim, Bool, ℕ, suc, ◌<◌, List, [], ◌∷◌, ◌++◌, true, false, refl, sym, ap, subst, ◌∙◌, arith}
use Rattle.std.proofs.lemmas.Bool.{cases_lt}
use Rattle.bc_machine_defs.specs.Streams.{AreBytes}
use Rattle.bc_library_laws.proofs.Steps.{differ}
use Rattle.bc_library_laws.specs.extension.Reading.{is_blank, AreDigits, Sign, Unsigned, Plus, Minus, bytes_of_sign, EndsNumber, IsSplit, Text, bytes_of_text, IsText, EveryInputIsAText}

-- the bytes are these digits and this rest
record Digits (bytes : List ℕ) : Type 0 where
  digits : List ℕ
  rest : List ℕ
  decimal : AreDigits digits
  ends : EndsNumber rest
  same : digits ++ rest ≡ bytes

digits_of : (bytes : List ℕ) → AreBytes bytes → Digits bytes
digits_of [] h = record { digits = []; rest = []; decimal = tt; ends = tt; same = refl }
digits_of (b ∷ bs) h =
    let small : b < 256 = h 0 0 (omega arith) in
    ⊎_elim (λ lt. record { digits = []; rest = b ∷ bs; decimal = tt; ends = (small, inl lt); same = refl })
    (λ from. ⊎_elim
    (λ to. let r = digits_of bs (λ k d lt. h (suc k) d (omega (arith, lt))) in
    record { digits = b ∷ r.digits; rest = r.rest; decimal = ((from, omega (arith, to)), r.decimal); ends = r.ends; same = ap (λ z. b ∷ z) r.same })
    (λ over. record { digits = []; rest = b ∷ bs; decimal = tt; ends = (small, inr (omega (arith, over))); same = refl }) (cases_lt b 58)) (cases_lt b 48)

split_of : (digits rest bs : List ℕ) (b : ℕ) → digits ++ rest ≡ b ∷ bs → is_blank b ≡ false → b ≢ 43 → b ≢ 45 → IsSplit Unsigned digits rest
split_of [] [] bs b same blank plus minus = tt
split_of [] (c ∷ rest) bs b same blank plus minus =
    let is : b ≡ c = cc in
    subst (λ z. (is_blank z ≡ false) × (z ≢ 43) × (z ≢ 45)) is (blank, plus, minus)
split_of (d ∷ digits) rest bs b same blank plus minus = tt

-- the bytes, of which the first is no blank, are a sign or none, and so on
record Signed (bytes : List ℕ) : Type 0 where
  sign : Sign
  digits : List ℕ
  rest : List ℕ
  decimal : AreDigits digits
  ends : EndsNumber rest
  split : IsSplit sign digits rest
  same : bytes_of_sign sign ++ (digits ++ rest) ≡ bytes

signed_of : (b : ℕ) (bs : List ℕ) → AreBytes (b ∷ bs) → is_blank b ≡ false → Signed (b ∷ bs)
signed_of b bs h blank = ⊎_elim (λ plus. ⊎_elim (none plus) minus (differ b 45)) plus (differ b 43) where
  later : Digits bs
  later = digits_of bs (λ k d lt. h (suc k) d (omega (arith, lt)))

  plus : b ≡ 43 → Signed (b ∷ bs)
  plus is = record {
    sign = Plus;
    digits = later.digits;
    rest = later.rest;
    decimal = later.decimal;
    ends = later.ends;
    split = tt;
    same = ap (λ z. 43 ∷ z) later.same ∙ ap (λ z. z ∷ bs) (sym is);
  }

  minus : b ≡ 45 → Signed (b ∷ bs)
  minus is = record {
    sign = Minus;
    digits = later.digits;
    rest = later.rest;
    decimal = later.decimal;
    ends = later.ends;
    split = tt;
    same = ap (λ z. 45 ∷ z) later.same ∙ ap (λ z. z ∷ bs) (sym is);
  }

  none : b ≢ 43 → b ≢ 45 → Signed (b ∷ bs)
  none plus minus =
      let r = digits_of (b ∷ bs) h in
      record { sign = Unsigned; digits = r.digits; rest = r.rest; decimal = r.decimal; ends = r.ends; split = split_of r.digits r.rest bs b r.same blank plus minus; same = r.same }

pub every_input : EveryInputIsAText
every_input [] h = (record { blanks = []; sign = Unsigned; digits = []; rest = [] }, record { blank = tt; decimal = tt; ends = tt; split = tt }, refl)
every_input (b ∷ bs) h = by (every_input bs (λ k d lt. h (suc k) d (omega (arith, lt)))) (is_blank b) refl where
  by : (text : Text) × IsText text × (bytes_of_text text ≡ bs) → (v : Bool) → is_blank b ≡ v → (text : Text) × IsText text × (bytes_of_text text ≡ b ∷ bs)
  by r true blank = (
    record { blanks = b ∷ r.0.blanks; sign = r.0.sign; digits = r.0.digits; rest = r.0.rest },
    record { blank = (blank, r.1.blank); decimal = r.1.decimal; ends = r.1.ends; split = r.1.split },
    ap (λ z. b ∷ z) r.2,
  )
  by r false blank =
      let s = signed_of b bs h blank in
      (record { blanks = []; sign = s.sign; digits = s.digits; rest = s.rest }, record { blank = tt; decimal = s.decimal; ends = s.ends; split = s.split }, s.same)
