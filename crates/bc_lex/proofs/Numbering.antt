-- Numbers are read as their definition says.
use Rattle.std.proofs.Common.{◌≡◌, ◌∙◌, refl, sym, ap, arith, ℕ, ◌+◌, ◌*◌, ◌≤◌, ◌<◌, Bool, true, false, List, [], ◌∷◌, ◌++◌, length, take, drop, Result, Ok, Err, cond, nat_eq, nat_lt, take-append-drop}
use Rattle.std.specs.List.{list_all}
use Rattle.std.proofs.lemmas.Bool.{ne_eqb, ltb-true, ltb-false, cond-false}
use Rattle.bc_lex.specs.declared.fault.Fault.{Fault}
use Rattle.bc_lex.specs.declared.fault.FaultKind.TheVariants as faults
use Rattle.bc_lex.specs.Lexemes.{Ends, is_digit_of, value_after}
use Rattle.bc_lex.specs.Reading.{fault_at, value_from, digits_of, valued}
use Rattle.bc_lex.proofs.Runs.{run_sound, run_length, run_complete, value_small, value_large, take-front}

-- the possible results of reading digits
pub data DigitsRead (base prefix : ℕ) (bs : List ℕ) : Result (ℕ × ℕ) Fault → Type 0 where
  NoDigit : Ends (is_digit_of base) bs → DigitsRead base prefix bs (Err (fault_at faults.BadCharacter 0))
  Small : (b : ℕ) (ds after : List ℕ) (n : ℕ) → bs ≡ (b ∷ ds) ++ after → list_all (is_digit_of base) (b ∷ ds) ≡ true → Ends (is_digit_of base) after → value_after base 0 (b ∷ ds) ≤ 65535 → n ≡ prefix + length (b ∷ ds) → DigitsRead base prefix bs (Ok (value_after base 0 (b ∷ ds), n))
  Large : (b : ℕ) (ds after : List ℕ) → bs ≡ (b ∷ ds) ++ after → list_all (is_digit_of base) (b ∷ ds) ≡ true → Ends (is_digit_of base) after → 65535 < value_after base 0 (b ∷ ds) → DigitsRead base prefix bs (Err (fault_at faults.NumberTooLarge 0))

-- digits, followed by other bytes
abbrev pub read_digits : ℕ → ℕ → List ℕ → Result (ℕ × ℕ) Fault
read_digits base prefix bs = cond (nat_eq (digits_of base bs) 0) (Err (fault_at faults.BadCharacter 0)) (valued (prefix + digits_of base bs) (value_from base 0 (take (digits_of base bs) bs)))

value_cases : (base prefix : ℕ) (bs : List ℕ) (b : ℕ) (ds after : List ℕ) → ((m : ℕ) → m ≤ m * base) → bs ≡ (b ∷ ds) ++ after → list_all (is_digit_of base) (b ∷ ds) ≡ true → Ends (is_digit_of base) after → (n : ℕ) → n ≡ prefix + length (b ∷ ds) → (t : Bool) → nat_lt 65535 (value_after base 0 (b ∷ ds)) ≡ t → DigitsRead base prefix bs (valued n (value_from base 0 (b ∷ ds)))
value_cases base prefix bs b ds after mono e digits end n n_is true large =
    let h = ltb-true 65535 (value_after base 0 (b ∷ ds)) large in
    rw (value_large base 0 (b ∷ ds) (omega arith) h) (Large b ds after e digits end h)
value_cases base prefix bs b ds after mono e digits end n n_is false small =
    let h = ltb-false 65535 (value_after base 0 (b ∷ ds)) small in
    rw (value_small base mono 0 (b ∷ ds) h) (Small b ds after n e digits end h n_is)

digits_split : (base prefix : ℕ) (bs front after : List ℕ) → ((m : ℕ) → m ≤ m * base) → bs ≡ front ++ after → list_all (is_digit_of base) front ≡ true → Ends (is_digit_of base) after → (n : ℕ) → n ≡ length front → DigitsRead base prefix bs (cond (nat_eq n 0) (Err (fault_at faults.BadCharacter 0)) (valued (prefix + n) (value_from base 0 front)))
digits_split base prefix bs [] after mono e digits end n n_is = rw n_is (NoDigit (rw (← e) at end))
digits_split base prefix bs (b ∷ ds) after mono e digits end n n_is =
    let ne : nat_eq n 0 ≡ false = ne_eqb n 0 (λ z. omega arith) in
    rw ne (value_cases base prefix bs b ds after mono e digits end (prefix + n) (omega arith) (nat_lt 65535 (value_after base 0 (b ∷ ds))) refl)

pub digits_read : (base prefix : ℕ) (bs : List ℕ) → ((m : ℕ) → m ≤ m * base) → DigitsRead base prefix bs (read_digits base prefix bs)
digits_read base prefix bs mono =
    let p = run_sound (is_digit_of base) bs in
    let n = digits_of base bs in
    digits_split base prefix bs (take n bs) (drop n bs) mono (sym (take-append-drop n bs)) p.0 p.1 n (sym (run_length (is_digit_of base) bs))

pub digits_small : (base prefix b : ℕ) (ds after : List ℕ) → ((m : ℕ) → m ≤ m * base) → list_all (is_digit_of base) (b ∷ ds) ≡ true → Ends (is_digit_of base) after → value_after base 0 (b ∷ ds) ≤ 65535 → read_digits base prefix ((b ∷ ds) ++ after) ≡ Ok (value_after base 0 (b ∷ ds), prefix + length (b ∷ ds))
digits_small base prefix b ds after mono digits end h =
    let n : digits_of base ((b ∷ ds) ++ after) ≡ length (b ∷ ds) = run_complete (is_digit_of base) (b ∷ ds) after digits end in
    let turn : read_digits base prefix ((b ∷ ds) ++ after) ≡ cond (nat_eq (length (b ∷ ds)) 0) (Err (fault_at faults.BadCharacter 0)) (valued (prefix + length (b ∷ ds)) (value_from base 0 (take (length (b ∷ ds)) ((b ∷ ds) ++ after)))) =
    ap (λ m. cond (nat_eq m 0) (Err (fault_at faults.BadCharacter 0)) (valued (prefix + m) (value_from base 0 (take m ((b ∷ ds) ++ after))))) n in
    let ne : nat_eq (length (b ∷ ds)) 0 ≡ false = ne_eqb (length (b ∷ ds)) 0 (λ z. omega arith) in
    turn ∙ cond-false _ _ _ ne ∙ ap (λ xs. valued (prefix + length (b ∷ ds)) (value_from base 0 xs)) (take-front (b ∷ ds) after) ∙ ap (λ o. valued (prefix + length (b ∷ ds)) o) (value_small base mono 0 (b ∷ ds) h)

pub digits_large : (base prefix b : ℕ) (ds after : List ℕ) → list_all (is_digit_of base) (b ∷ ds) ≡ true → Ends (is_digit_of base) after → 65535 < value_after base 0 (b ∷ ds) → read_digits base prefix ((b ∷ ds) ++ after) ≡ Err (fault_at faults.NumberTooLarge 0)
digits_large base prefix b ds after digits end h =
    let n : digits_of base ((b ∷ ds) ++ after) ≡ length (b ∷ ds) = run_complete (is_digit_of base) (b ∷ ds) after digits end in
    let turn : read_digits base prefix ((b ∷ ds) ++ after) ≡ cond (nat_eq (length (b ∷ ds)) 0) (Err (fault_at faults.BadCharacter 0)) (valued (prefix + length (b ∷ ds)) (value_from base 0 (take (length (b ∷ ds)) ((b ∷ ds) ++ after)))) =
    ap (λ m. cond (nat_eq m 0) (Err (fault_at faults.BadCharacter 0)) (valued (prefix + m) (value_from base 0 (take m ((b ∷ ds) ++ after))))) n in
    let ne : nat_eq (length (b ∷ ds)) 0 ≡ false = ne_eqb (length (b ∷ ds)) 0 (λ z. omega arith) in
    turn ∙ cond-false _ _ _ ne ∙ ap (λ xs. valued (prefix + length (b ∷ ds)) (value_from base 0 xs)) (take-front (b ∷ ds) after) ∙ ap (λ o. valued (prefix + length (b ∷ ds)) o) (value_large base 0 (b ∷ ds) (omega arith) h)

pub digits_none : (base prefix : ℕ) (bs : List ℕ) → Ends (is_digit_of base) bs → read_digits base prefix bs ≡ Err (fault_at faults.BadCharacter 0)
digits_none base prefix bs h =
    let n : digits_of base bs ≡ 0 = run_complete (is_digit_of base) [] bs refl h in
    rw n refl
