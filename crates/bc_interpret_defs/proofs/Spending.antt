-- Turns never increase, and runs that agree below a number of turns.
use Rattle.std.proofs.Common.{◌≡◌, ℕ, zero, suc, ◌+◌, ◌≤◌, ◌<◌, List, Bool, true, false, refl, ap, subst, arith}
use Rattle.bc_machine_defs.specs.Streams.{Content}
use Rattle.bc_core.specs.Store.{Cell, Dead, Unset, Set, cell_at}
use Rattle.bc_core.specs.Outcome.{State, Outcome, Done, Ended, Going, Wild, Ending, Run, wild, ends, followed, then_do, choose, taken, in_turn, content_of_cell, read, written, write, left, outweighed, second_side, both, Round, Again, Leave, next_round, rounds, repeated}

-- the turns that an outcome has left, plus those that its value still owes, are at most t
abbrev pub Within : {A : Type 0} → (cost : A → ℕ) → ℕ → Outcome A → Type 0
Within cost t (Done x st) = st.turns + cost x ≤ t
Within cost t (Ended e streams) = Unit {0}
Within cost t (Going streams) = Unit {0}
Within cost t Wild = Unit {0}

-- a value that owes nothing
abbrev pub free : {A : Type 0} → A → ℕ
free x = 0

-- a round that comes again owes a turn
abbrev pub round_cost : {A B : Type 0} → (B → ℕ) → Round A B → ℕ
round_cost cost (Again x) = 1
round_cost cost (Leave y) = cost y

-- r gains at most k turns, and equals q where fewer than n turns are left
pub record Alike {A : Type 0} (cost : A → ℕ) (n k : ℕ) (r q : Run A) : Type 0 where
  pub same : (st : State) → st.turns < n → r st ≡ q st
  pub spends : (st : State) → Within cost (st.turns + k) (r st)

within_more : {A : Type 0} (cost : A → ℕ) (t t1 : ℕ) (o : Outcome A) → t ≤ t1 → Within cost t o → Within cost t1 o
within_more cost t t1 (Done x st) le w = omega arith
within_more cost t t1 (Ended e streams) le w = tt
within_more cost t t1 (Going streams) le w = tt
within_more cost t t1 Wild le w = tt

pub alike_less : {A : Type 0} (cost : A → ℕ) (n n1 k k1 : ℕ) (r q : Run A) → n1 ≤ n → k ≤ k1 → Alike cost n k r q → Alike cost n1 k1 r q
alike_less cost n n1 k k1 r q le le1 h = record {
  same = λ st lt. h.same st (omega arith);
  spends = λ st. within_more cost (st.turns + k) (st.turns + k1) (r st) (omega arith) (h.spends st);
}

pub alike_done : {A : Type 0} (cost : A → ℕ) (n k : ℕ) (x : A) → cost x ≤ k → Alike cost n k (Done x) (Done x)
alike_done cost n k x le = record { same = λ st lt. refl; spends = λ st. omega arith }

pub alike_ends : {A : Type 0} (cost : A → ℕ) (n k : ℕ) (e : Ending) → Alike cost n k (ends {A = A} e) (ends {A = A} e)
alike_ends cost n k e = record { same = λ st lt. refl; spends = λ st. tt }

pub alike_wild : {A : Type 0} (cost : A → ℕ) (n k : ℕ) → Alike cost n k (wild {A = A}) (wild {A = A})
alike_wild cost n k = record { same = λ st lt. refl; spends = λ st. tt }

pub alike_then : {A B : Type 0} {c1 : A → ℕ} {c2 : B → ℕ} (n : ℕ) (r q : Run A) (f g : A → Run B) → Alike c1 n 0 r q → ((x : A) → Alike c2 n (c1 x) (f x) (g x)) → Alike c2 n 0 (then_do r f) (then_do q g)
alike_then {A = A} {B = B} {c1 = c1} {c2 = c2} n r q f g h k = record {
  same = λ st lt. subst (λ z. followed (r st) f ≡ followed z g) (h.same st lt) (joined st (r st) lt (h.spends st));
  spends = λ st. spent st (r st) (h.spends st);
} where
  joined : (st : State) (o : Outcome A) → st.turns < n → Within c1 (st.turns + 0) o → followed o f ≡ followed o g
  joined st (Done x st1) lt w = (k x).same st1 (omega arith)
  joined st (Ended e streams) lt w = refl
  joined st (Going streams) lt w = refl
  joined st Wild lt w = refl

  spent : (st : State) (o : Outcome A) → Within c1 (st.turns + 0) o → Within c2 (st.turns + 0) (followed o f)
  spent st (Done x st1) w = within_more c2 (st1.turns + c1 x) (st.turns + 0) (f x st1) (omega arith) ((k x).spends st1)
  spent st (Ended e streams) w = tt
  spent st (Going streams) w = tt
  spent st Wild w = tt

pub alike_choose : {A : Type 0} {cost : A → ℕ} {k : ℕ} (n : ℕ) (t : Bool) (r1 r2 q1 q2 : Run A) → Alike cost n k r1 q1 → Alike cost n k r2 q2 → Alike cost n k (choose t r1 r2) (choose t q1 q2)
alike_choose n true r1 r2 q1 q2 h g = h
alike_choose n false r1 r2 q1 q2 h g = g

-- taking a turn raises n by one, and pays one owed turn
pub alike_turn : {A : Type 0} (cost : A → ℕ) (n : ℕ) (r q : Run A) → Alike cost n 1 r q → Alike cost (suc n) 0 (in_turn r) (in_turn q)
alike_turn {A = A} cost n r q h = record {
  same = λ st lt. counted st st.turns lt;
  spends = λ st. spent st st.turns;
} where
  counted : (st : State) (m : ℕ) → m < suc n → taken m r st ≡ taken m q st
  counted st zero lt = refl
  counted st (suc m) lt = h.same (record st { turns = m }) (omega arith)

  spent : (st : State) (m : ℕ) → Within cost (m + 0) (taken m r st)
  spent st zero = tt
  spent st (suc m) = within_more cost (m + 1) (suc m + 0) (r (record st { turns = m })) (omega arith) (h.spends (record st { turns = m }))

pub alike_read : (n a : ℕ) → Alike free n 0 (read a) (read a)
alike_read n a = record { same = λ st lt. refl; spends = λ st. of_cell st (cell_at st.cells a) } where
  of_cell : (st : State) (c : Cell) → Within free (st.turns + 0) (content_of_cell c st)
  of_cell st Dead = tt
  of_cell st Unset = tt
  of_cell st (Set w) = omega arith

pub alike_write : (n a w : ℕ) → Alike free n 0 (write a w) (write a w)
alike_write n a w = record { same = λ st lt. refl; spends = λ st. of_cell st (cell_at st.cells a) } where
  of_cell : (st : State) (c : Cell) → Within free (st.turns + 0) (written c a w st)
  of_cell st Dead = tt
  of_cell st Unset = omega arith
  of_cell st (Set old) = omega arith

pub alike_both : {A B C : Type 0} (n : ℕ) (calls : Bool) (r1 q1 : Run A) (r2 q2 : Run B) (f g : A → B → Run C) → Alike free n 0 r1 q1 → Alike free n 0 r2 q2 → ((x : A) (y : B) → Alike free n 0 (f x y) (g x y)) → Alike free n 0 (both calls r1 r2 f) (both calls q1 q2 g)
alike_both {A = A} {B = B} {C = C} n calls r1 q1 r2 q2 f g h k w = record {
  same = λ st lt. subst (λ z. second_side calls (r1 st) r2 f st ≡ second_side calls z q2 g st) (h.same st lt) (sides calls st (r1 st) lt (h.spends st));
  spends = λ st. spent calls st (r1 st) (h.spends st);
} where
  more : (x : A) → Alike free n 0 (then_do r2 (f x)) (then_do q2 (g x))
  more x = alike_then n r2 q2 (f x) (g x) k (w x)

  sides : (calls : Bool) (st : State) (o : Outcome A) → st.turns < n → Within free (st.turns + 0) o → second_side calls o r2 f st ≡ second_side calls o q2 g st
  sides calls st (Done x st1) lt b = (more x).same st1 (omega arith)
  sides false st (Ended e streams) lt b = ap (outweighed e streams) (k.same st lt)
  sides true st (Ended e streams) lt b = refl
  sides calls st (Going streams) lt b = refl
  sides calls st Wild lt b = refl

  weighed : (t : ℕ) (e : Ending) (streams : Content) (o : Outcome B) → Within {A = C} free t (outweighed e streams o)
  weighed t e streams (Done x st1) = tt
  weighed t e streams (Ended e1 streams1) = tt
  weighed t e streams (Going streams1) = tt
  weighed t e streams Wild = tt

  spent : (calls : Bool) (st : State) (o : Outcome A) → Within free (st.turns + 0) o → Within free (st.turns + 0) (second_side calls o r2 f st)
  spent calls st (Done x st1) b = within_more free (st1.turns + 0) (st.turns + 0) (then_do r2 (f x) st1) (omega arith) ((more x).spends st1)
  spent false st (Ended e streams) b = weighed (st.turns + 0) e streams (r2 st)
  spent true st (Ended e streams) b = tt
  spent calls st (Going streams) b = tt
  spent calls st Wild b = tt

within_left : {A : Type 0} (cost : A → ℕ) (t n a : ℕ) (o : Outcome A) → Within cost t o → Within cost t (left n a o)
within_left cost t n a (Done x st) w = w
within_left cost t n a (Ended e streams) w = tt
within_left cost t n a (Going streams) w = tt
within_left cost t n a Wild w = tt

pub alike_opened : {A : Type 0} (cost : A → ℕ) (n k m a : ℕ) (change : List Cell → List Cell) (r q : Run A) → Alike cost n k r q → Alike cost n k (λ st. left m a (r (record st { cells = change st.cells }))) (λ st. left m a (q (record st { cells = change st.cells })))
alike_opened cost n k m a change r q h = record {
  same = λ st lt. ap (left m a) (h.same (record st { cells = change st.cells }) lt);
  spends = λ st. within_left cost (st.turns + k) m a (r (record st { cells = change st.cells })) (h.spends (record st { cells = change st.cells }));
}

pub alike_rounds : {A B : Type 0} (cost : B → ℕ) (n m : ℕ) (f g : A → Run (Round A B)) (x : A) → ((y : A) → Alike (round_cost cost) n 0 (f y) (g y)) → Alike cost n 0 (rounds m f x) (rounds m g x)
alike_rounds cost n zero f g x h = record { same = λ st lt. refl; spends = λ st. tt }
alike_rounds {A = A} {B = B} cost n (suc m) f g x h =
    alike_then n (f x) (g x) (next_round (rounds m f)) (next_round (rounds m g)) (h x) (onwards (λ y. alike_rounds cost n m f g y h)) where
      onwards : ((y : A) → Alike cost n 0 (rounds m f y) (rounds m g y)) → (r : Round A B) → Alike cost n (round_cost cost r) (next_round (rounds m f) r) (next_round (rounds m g) r)
      onwards again (Again y) = alike_less cost n n 0 1 (rounds m f y) (rounds m g y) (omega arith) (omega arith) (again y)
      onwards again (Leave y) = alike_done cost n (cost y) y (omega arith)

pub alike_repeated : {A B : Type 0} (cost : B → ℕ) (n : ℕ) (f g : A → Run (Round A B)) (x : A) → ((y : A) → Alike (round_cost cost) n 0 (f y) (g y)) → Alike cost n 0 (repeated f x) (repeated g x)
alike_repeated cost n f g x h = record {
  same = λ st lt. (alike_rounds cost n (suc st.turns) f g x h).same st lt;
  spends = λ st. (alike_rounds cost n (suc st.turns) f g x h).spends st;
}

-- rounds that take a turn each: the bound isn't reached before the turns run out
pub rounds_same : {A B : Type 0} (cost : B → ℕ) (f : A → Run (Round A B)) → ((y : A) (st : State) → Within (round_cost cost) (st.turns + 0) (f y st)) → (n m : ℕ) (x : A) (st : State) → st.turns < n → st.turns < m → rounds n f x st ≡ rounds m f x st
rounds_same cost f h zero m x st l1 l2 = absurd (omega arith)
rounds_same cost f h (suc n) zero x st l1 l2 = absurd (omega arith)
rounds_same {A = A} {B = B} cost f h (suc n) (suc m) x st l1 l2 = onwards (λ y st1 l3 l4. rounds_same cost f h n m y st1 l3 l4) (f x st) (h x st) where
  onwards : ((y : A) (st1 : State) → st1.turns < n → st1.turns < m → rounds n f y st1 ≡ rounds m f y st1) → (o : Outcome (Round A B)) → Within (round_cost cost) (st.turns + 0) o → followed o (next_round (rounds n f)) ≡ followed o (next_round (rounds m f))
  onwards again (Done (Again y) st1) w = again y st1 (omega arith) (omega arith)
  onwards again (Done (Leave y) st1) w = refl
  onwards again (Ended e streams) w = refl
  onwards again (Going streams) w = refl
  onwards again Wild w = refl

-- so the rounds are one round followed by the rounds again
pub unrolled : {A B : Type 0} (cost : B → ℕ) (f : A → Run (Round A B)) → ((y : A) (st : State) → Within (round_cost cost) (st.turns + 0) (f y st)) → (x : A) (st : State) → repeated f x st ≡ followed (f x st) (next_round (repeated f))
unrolled {A = A} {B = B} cost f h x st = onwards (f x st) (h x st) where
  onwards : (o : Outcome (Round A B)) → Within (round_cost cost) (st.turns + 0) o → followed o (next_round (rounds st.turns f)) ≡ followed o (next_round (repeated f))
  onwards (Done (Again y) st1) w = rounds_same cost f h st.turns (suc st1.turns) y st1 (omega arith) (omega arith)
  onwards (Done (Leave y) st1) w = refl
  onwards (Ended e streams) w = refl
  onwards (Going streams) w = refl
  onwards Wild w = refl
