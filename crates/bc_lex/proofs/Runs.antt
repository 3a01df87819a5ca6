-- Runs of bytes at the start of a list, lists that are cut off, and the value of digits.
use Rattle.std.proofs.Common.{◌≡◌, refl, ap, arith, ℕ, suc, ◌+◌, ◌*◌, ◌<◌, ◌≤◌, Bool, true, false, List, [], ◌∷◌, ◌++◌, length, take, drop, Some, None, cond, unwrap_or, nat_lt}
use Rattle.std.specs.List.{list_all, prefix_len}
use Rattle.std.proofs.lemmas.Bool.{and_parts, le-ltb, ltb-false}
use Rattle.bc_lex.specs.Bytes.{digit_of}
use Rattle.bc_lex.specs.Lexemes.{Ends, value_after}
use Rattle.bc_lex.specs.Reading.{value_from}

run_step : (p : ℕ → Bool) (x : ℕ) (xs : List ℕ) (n : ℕ) (b : Bool) → p x ≡ b → (list_all p (take n xs) ≡ true) × Ends p (drop n xs) → (list_all p (take (cond b (1 + n) 0) (x ∷ xs)) ≡ true) × Ends p (drop (cond b (1 + n) 0) (x ∷ xs))
run_step p x xs n true e ih =
    let s : 1 + n ≡ suc n = omega arith in
    rw s (rw e ih.0, ih.1)
run_step p x xs n false e ih = (refl, e)

pub run_sound : (p : ℕ → Bool) (xs : List ℕ) → (list_all p (take (prefix_len p xs) xs) ≡ true) × Ends p (drop (prefix_len p xs) xs)
run_sound p [] = (refl, tt)
run_sound p (x ∷ xs) = run_step p x xs (prefix_len p xs) (p x) refl (run_sound p xs)

run_length_step : (p : ℕ → Bool) (x : ℕ) (xs : List ℕ) (n : ℕ) (b : Bool) → length (take n xs) ≡ n → length (take (cond b (1 + n) 0) (x ∷ xs)) ≡ cond b (1 + n) 0
run_length_step p x xs n true ih =
    let s : 1 + n ≡ suc n = omega arith in
    rw s (omega arith)
run_length_step p x xs n false ih = refl

pub run_length : (p : ℕ → Bool) (xs : List ℕ) → length (take (prefix_len p xs) xs) ≡ prefix_len p xs
run_length p [] = refl
run_length p (x ∷ xs) = run_length_step p x xs (prefix_len p xs) (p x) (run_length p xs)

ends_none : (p : ℕ → Bool) (after : List ℕ) → Ends p after → prefix_len p after ≡ 0
ends_none p [] h = refl
ends_none p (b ∷ bs) h = rw h refl

pub run_complete : (p : ℕ → Bool) (text after : List ℕ) → list_all p text ≡ true → Ends p after → prefix_len p (text ++ after) ≡ length text
run_complete p [] after h e = ends_none p after e
run_complete p (x ∷ xs) after h e =
    let both = and_parts (p x) (list_all p xs) h in
    let ih : prefix_len p (xs ++ after) ≡ length xs = run_complete p xs after both.1 e in
    rw (both.0, ih) (omega arith)

pub take-front : (front rest : List ℕ) → take (length front) (front ++ rest) ≡ front
take-front [] rest = refl
take-front (x ∷ xs) rest = ap (λ ys. x ∷ ys) (take-front xs rest)

pub drop-front : (front rest : List ℕ) → drop (length front) (front ++ rest) ≡ rest
drop-front [] rest = refl
drop-front (x ∷ xs) rest = drop-front xs rest

pub length-append_ℕ : (xs ys : List ℕ) → length (xs ++ ys) ≡ length xs + length ys
length-append_ℕ [] ys = omega arith
length-append_ℕ (x ∷ xs) ys = let ih : length (xs ++ ys) ≡ length xs + length ys = length-append_ℕ xs ys in omega arith

-- a value only grows
grows : (base : ℕ) → ((m : ℕ) → m ≤ m * base) → (n : ℕ) (ds : List ℕ) → n ≤ value_after base n ds
grows base mono n [] = omega arith
grows base mono n (d ∷ ds) =
    let m = n * base + unwrap_or (digit_of base d) 0 in
    let one : n ≤ n * base = mono n in
    let ih : m ≤ value_after base m ds = grows base mono m ds in
    omega arith

pub value_small : (base : ℕ) → ((m : ℕ) → m ≤ m * base) → (n : ℕ) (ds : List ℕ) → value_after base n ds ≤ 65535 → value_from base n ds ≡ Some (value_after base n ds)
value_small base mono n [] h = refl
value_small base mono n (d ∷ ds) h =
    let m = n * base + unwrap_or (digit_of base d) 0 in
    let up : m ≤ value_after base m ds = grows base mono m ds in
    let small : nat_lt 65535 m ≡ false = le-ltb 65535 m (omega arith) in
    rw small (value_small base mono m ds h)

value_step : (base m : ℕ) (ds : List ℕ) (b : Bool) → (b ≡ false → value_from base m ds ≡ None) → cond b None (value_from base m ds) ≡ None
value_step base m ds true f = refl
value_step base m ds false f = f refl

pub value_large : (base : ℕ) → (n : ℕ) (ds : List ℕ) → n ≤ 65535 → 65535 < value_after base n ds → value_from base n ds ≡ None
value_large base n [] s h = absurd (omega arith)
value_large base n (d ∷ ds) s h =
    let m = n * base + unwrap_or (digit_of base d) 0 in
    value_step base m ds (nat_lt 65535 m) (λ e. value_large base m ds (ltb-false 65535 m e) h)
