-- A pure expression over two stores, of which one has every word of the other.
use Rattle.std.proofs.Common.{◌≡◌, ℕ, Bool, true, false, List, Option, Some, None, refl, sym, ap, subst, ◌∙◌}
use Rattle.std.specs.Prelude.{cond}
use Rattle.bc_word.specs.declared.operator.Op.{Op}
use Rattle.bc_word.specs.declared.operator.Op.TheVariants as operators
use Rattle.bc_word.specs.Words.{value_of}
use Rattle.bc_core.specs.Tree.{Exp, Num, Frame, Glob, Place, Load, Neg, Not, Bin, Cond, Call, Valof}
use Rattle.bc_core.specs.Value.{has_call, value, truth}
use Rattle.bc_core.specs.Meaning as meanings
use Rattle.bc_core.specs.Meaning.{context}
use Rattle.bc_core.specs.Outcome.{State, Run, Wild}
use Rattle.bc_core.specs.Store.{Cell, Dead, Unset, Set, cell_at}
use Rattle.bc_interpret_defs.specs.Causes.{Cause, StandsIn}
use Rattle.bc_interpret_defs.specs.Causes as causes
use Rattle.bc_interpret_defs.specs.Meeting.{KeepsWords, HasNoWord, IsWildBy}
use Rattle.bc_interpret_defs.specs.Quiet.{Worth, Is, Divides, Fails, settled, chained, paired, beside, found, quotient, Sight, Worths, truth_of_worth, operator_worth, combined, worth}
use Rattle.bc_interpret_defs.specs.Laws.{FailsBy, FailuresName}
use Rattle.bc_interpret_defs.proofs.Failures.{failing}
use Rattle.bc_interpret_defs.proofs.Worths.{worth_is_value}
use Rattle.bc_core.proofs.Calm.{no_left, no_right}

-- the cause is a read, and the cell that it names has no word
abbrev NoWordAt : Cause → List Cell → Type 0
NoWordAt (causes.Unset a) others = HasNoWord (cell_at others a)
NoWordAt (causes.Dead a) others = HasNoWord (cell_at others a)
NoWordAt c others = ⊥

abbrev pub IsFailure : {A : Type 0} → Worth A → Type 0
IsFailure (Fails c) = Unit {0}
IsFailure w = ⊥

-- the worth over the other store: the same; where the first fails, it fails if the named cell has no word there
abbrev Wordwise : {A : Type 0} → List Cell → Worth A → Worth A → Type 0
Wordwise others (Is x) v = v ≡ Is x
Wordwise others Divides v = v ≡ Divides
Wordwise others (Fails c) v = NoWordAt c others → IsFailure v

still : {A : Type 0} (others : List Cell) (w : Worth A) → Wordwise others w w
still others (Is x) = refl
still others Divides = refl
still others (Fails c) = λ n. tt

fails_chained : {A B : Type 0} (v : Worth A) (g : A → Worth B) → IsFailure v → IsFailure (chained v g)
fails_chained (Is x) g h = absurd h
fails_chained Divides g h = absurd h
fails_chained (Fails c) g h = tt

wise_chained : {A B : Type 0} (others : List Cell) (w v : Worth A) (f g : A → Worth B) → Wordwise others w v → ((x : A) → Wordwise others (f x) (g x)) → Wordwise others (chained w f) (chained v g)
wise_chained others (Is x) v f g h k = subst (λ z. Wordwise others (f x) (chained z g)) (sym h) (k x)
wise_chained others Divides v f g h k = ap (λ z. chained z g) h
wise_chained others (Fails c) v f g h k = λ n. fails_chained v g (h n)

fails_beside : {A : Type 0} (B : Type 0) (v : Worth A) → IsFailure v → IsFailure (beside {B = B} v)
fails_beside B (Is x) h = absurd h
fails_beside B Divides h = absurd h
fails_beside B (Fails c) h = tt

wise_beside : {A : Type 0} (B : Type 0) (others : List Cell) (w v : Worth A) → Wordwise others w v → Wordwise others (beside {B = B} w) (beside {B = B} v)
wise_beside B others (Is x) v h = ap (λ z. beside {B = B} z) h
wise_beside B others Divides v h = ap (λ z. beside {B = B} z) h
wise_beside B others (Fails c) v h = λ n. fails_beside B v (h n)

fails_paired : {A B C : Type 0} (v : Worth A) (u : Worth B) (f : A → B → Worth C) → IsFailure v → IsFailure (paired v u f)
fails_paired (Is x) u f h = absurd h
fails_paired Divides u f h = absurd h
fails_paired (Fails c) u f h = tt

wise_paired : {A B C : Type 0} (others : List Cell) (w v : Worth A) (x u : Worth B) (f : A → B → Worth C) → Wordwise others w v → Wordwise others x u → Wordwise others (paired w x f) (paired v u f)
wise_paired others (Is a) v x u f h k = subst (λ z. Wordwise others (chained x (f a)) (paired z u f)) (sym h) (wise_chained others x u (f a) (f a) k (λ b. still others (f a b)))
wise_paired others Divides v x u f h k = subst (λ z. Wordwise others (beside x) (paired z u f)) (sym h) (wise_beside _ others x u k)
wise_paired others (Fails c) v x u f h k = λ n. fails_paired v u f (h n)

wise_choice : {A : Type 0} (others : List Cell) (t : Bool) (w v x u : Worth A) → Wordwise others w v → Wordwise others x u → Wordwise others (cond t w x) (cond t v u)
wise_choice others true w v x u h k = h
wise_choice others false w v x u h k = k

fails_truth : (v : Worth ℕ) → IsFailure v → IsFailure (truth_of_worth v)
fails_truth (Is x) h = absurd h
fails_truth Divides h = absurd h
fails_truth (Fails c) h = tt

wise_truth : (others : List Cell) (w v : Worth ℕ) → Wordwise others w v → Wordwise others (truth_of_worth w) (truth_of_worth v)
wise_truth others (Is x) v h = ap truth_of_worth h
wise_truth others Divides v h = ap truth_of_worth h
wise_truth others (Fails c) v h = λ n. fails_truth v (h n)

both_wise : (others : List Cell) (w v : Worth ℕ) → Wordwise others w v → Wordwise others w v × Wordwise others (truth_of_worth w) (truth_of_worth v)
both_wise others w v h = (h, wise_truth others w v h)

wise_operator : (others : List Cell) (op : Op) (a b c d : Worths) (w v : Worth ℕ) → Wordwise others a.truth c.truth → Wordwise others b.truth d.truth → Wordwise others w v → Wordwise others (operator_worth op a b w) (operator_worth op c d v)
wise_operator others operators.And a b c d w v h k l = wise_chained others a.truth c.truth (λ t. cond t b.truth (Is false)) (λ t. cond t d.truth (Is false)) h (λ t. wise_choice others t b.truth d.truth (Is false) (Is false) k refl)
wise_operator others operators.Or a b c d w v h k l = wise_chained others a.truth c.truth (λ t. cond t (Is true) b.truth) (λ t. cond t (Is true) d.truth) h (λ t. wise_choice others t (Is true) (Is true) b.truth d.truth refl k)
wise_operator others op a b c d w v h k l = wise_truth others w v l

fails_found : (a : ℕ) (d : Cell) → HasNoWord d → IsFailure (found a d)
fails_found a Dead h = tt
fails_found a Unset h = tt
fails_found a (Set w) h = absurd h

wise_found : (others : List Cell) (a : ℕ) (c : Cell) → ((w : ℕ) → c ≡ Set w → cell_at others a ≡ Set w) → Wordwise others (found a c) (found a (cell_at others a))
wise_found others a Dead h = λ n. fails_found a (cell_at others a) n
wise_found others a Unset h = λ n. fails_found a (cell_at others a) n
wise_found others a (Set w) h = ap (found a) (h w refl)

abbrev WiseAt : Sight → List Cell → Exp → Type 0
WiseAt S others e = let T : Sight = record S { cells = others } in Wordwise others (worth S e).value (worth T e).value × Wordwise others (worth S e).truth (worth T e).truth

wise : (S : Sight) (st : State) (e : Exp) → has_call e ≡ false → KeepsWords S.cells st → WiseAt S st.cells e
wise S st (Num n) h keeps = (refl, refl)
wise S st (Frame k) h keeps = (refl, refl)
wise S st (Glob n) h keeps = (refl, refl)
wise S st (Place m) h keeps = (refl, refl)
wise S st (Load e) h keeps =
    let T : Sight = record S { cells = st.cells } in
    both_wise st.cells (worth S (Load e)).value (worth T (Load e)).value (wise_chained st.cells (worth S e).value (worth T e).value (λ a. found a (cell_at S.cells a)) (λ a. found a (cell_at st.cells a)) (wise S st e h keeps).0
    (λ a. wise_found st.cells a (cell_at S.cells a) (keeps a)))
wise S st (Neg e) h keeps =
    let T : Sight = record S { cells = st.cells } in
    both_wise st.cells (worth S (Neg e)).value (worth T (Neg e)).value (wise_chained st.cells (worth S e).value (worth T e).value _ _ (wise S st e h keeps).0 (λ v. refl))
wise S st (Not e) h keeps =
    let T : Sight = record S { cells = st.cells } in
    let k = wise S st e h keeps in
    (wise_chained st.cells (worth S e).value (worth T e).value _ _ k.0 (λ v. refl), wise_chained st.cells (worth S e).truth (worth T e).truth _ _ k.1 (λ v. refl))
wise S st (Bin op a b) h keeps =
    let T : Sight = record S { cells = st.cells } in
    let k = wise S st a (no_left _ _ h) keeps in
    let l = wise S st b (no_right _ _ h) keeps in
    let v = wise_paired st.cells (worth S a).value (worth T a).value (worth S b).value (worth T b).value (combined op) k.0 l.0 in
    (v, wise_operator st.cells op (worth S a) (worth S b) (worth T a) (worth T b) (paired (worth S a).value (worth S b).value (combined op)) (paired (worth T a).value (worth T b).value (combined op)) k.1 l.1 v)
wise S st (Cond c x y) h keeps =
    let T : Sight = record S { cells = st.cells } in
    let cx = no_left _ _ h in
    let p = wise S st x (no_right _ _ cx) keeps in
    let q = wise S st y (no_right _ _ h) keeps in
    both_wise st.cells (worth S (Cond c x y)).value (worth T (Cond c x y)).value (wise_chained st.cells (worth S c).truth (worth T c).truth (λ t. cond t (worth S x).value (worth S y).value) (λ t. cond t (worth T x).value (worth T y).value) (wise S st c (no_left _ _ cx) keeps).1
    (λ t. wise_choice st.cells t (worth S x).value (worth T x).value (worth S y).value (worth T y).value p.0 q.0))
wise S st (Call es f) h keeps = cc
wise S st (Valof n) h keeps = cc

settled_wild : {A : Type 0} (v : Worth A) (st : State) → IsFailure v → settled v st ≡ Wild
settled_wild (Is x) st h = absurd h
settled_wild Divides st h = absurd h
settled_wild (Fails c) st h = refl

-- the cause is a read
abbrev pub IsRead : Cause → Type 0
IsRead (causes.Unset a) = Unit {0}
IsRead (causes.Dead a) = Unit {0}
IsRead c = ⊥

reads_found : (cells : List Cell) (a : ℕ) (c : Cell) → cell_at cells a ≡ c → FailsBy (λ d. IsRead d × StandsIn d cells) (found a c)
reads_found cells a Dead e = (tt, e)
reads_found cells a Unset e = (tt, e)
reads_found cells a (Set w) e = tt

-- a run that a worth tells, over every store, is wild because of the cell that the worth names
named : {A : Type 0} (r : Run A) (cells : List Cell) (of : List Cell → Worth A) → ((st : State) → r st ≡ settled (of st.cells) st) → ((st : State) → KeepsWords cells st → Wordwise st.cells (of cells) (of st.cells))
    → FailsBy (λ c. IsRead c × StandsIn c cells) (of cells) → FailsBy (IsWildBy r cells) (of cells)
named {A = A} r cells of is wise stands = by_worth (of cells) wise stands where
  by_worth : (w : Worth A) → ((st : State) → KeepsWords cells st → Wordwise st.cells w (of st.cells)) → FailsBy (λ c. IsRead c × StandsIn c cells) w → FailsBy (IsWildBy r cells) w
  by_worth (Is x) g h = tt
  by_worth Divides g h = tt
  by_worth (Fails (causes.Unset a)) g h = (h.1, λ st keeps n. is st ∙ settled_wild (of st.cells) st (g st keeps n))
  by_worth (Fails (causes.Dead a)) g h = (h.1, λ st keeps n. is st ∙ settled_wild (of st.cells) st (g st keeps n))
  by_worth (Fails c) g h = absurd h.0

pub failures_name : FailuresName
failures_name place call valof e plain p s cells =
    let S : Sight = record { cells = cells; address = place; frame = p } in
    let over : List Cell → Sight = λ others. record { cells = others; address = place; frame = p } in
    let reads = failing (λ d. IsRead d × StandsIn d cells) S (λ a. reads_found cells a (cell_at cells a) refl) e plain in (
      named (value (context place call valof) e p s) cells (λ others. (worth (over others) e).value) (λ st. (worth_is_value place call valof e plain p s st).0) (λ st keeps. (wise S st e plain keeps).0) reads.0,
      named (truth (context place call valof) e p s) cells (λ others. (worth (over others) e).truth) (λ st. (worth_is_value place call valof e plain p s st).1) (λ st keeps. (wise S st e plain keeps).1) reads.1,
    )

-- over every store that has the words, such an expression that doesn't fail has the same value and truth
same_settled : {A : Type 0} (others : List Cell) (w v : Worth A) (st : State) → (IsFailure w → ⊥) → Wordwise others w v → settled v st ≡ settled w st
same_settled others (Is x) v st n h = ap (λ z. settled z st) h
same_settled others Divides v st n h = ap (λ z. settled z st) h
same_settled others (Fails c) v st n h = absurd (n tt)

pub value_kept : (place : ℕ → ℕ) (call : meanings.Call) (valof : ℕ → ℕ → ℕ → Run ℕ) (e : Exp) → has_call e ≡ false → (p s : ℕ) (cells : List Cell) (st : State) (w : Worth ℕ) → w ≡ (worth (record { cells = cells; address = place; frame = p }) e).value → (IsFailure w → ⊥) → KeepsWords cells st
    → value (context place call valof) e p s st ≡ settled w st
value_kept place call valof e plain p s cells st w is n keeps =
    let S : Sight = record { cells = cells; address = place; frame = p } in
    let T : Sight = record { cells = st.cells; address = place; frame = p } in
    (worth_is_value place call valof e plain p s st).0
    ∙ same_settled st.cells w (worth T e).value st n (subst (λ z. Wordwise st.cells z (worth T e).value) (sym is) (wise S st e plain keeps).0)

pub truth_kept : (place : ℕ → ℕ) (call : meanings.Call) (valof : ℕ → ℕ → ℕ → Run ℕ) (e : Exp) → has_call e ≡ false → (p s : ℕ) (cells : List Cell) (st : State) (w : Worth Bool) → w ≡ (worth (record { cells = cells; address = place; frame = p }) e).truth → (IsFailure w → ⊥) → KeepsWords cells st
    → truth (context place call valof) e p s st ≡ settled w st
truth_kept place call valof e plain p s cells st w is n keeps =
    let S : Sight = record { cells = cells; address = place; frame = p } in
    let T : Sight = record { cells = st.cells; address = place; frame = p } in
    (worth_is_value place call valof e plain p s st).1
    ∙ same_settled st.cells w (worth T e).truth st n (subst (λ z. Wordwise st.cells z (worth T e).truth) (sym is) (wise S st e plain keeps).1)

-- a pure expression fails by a read
found_reads : (a : ℕ) (c : Cell) → FailsBy IsRead (found a c)
found_reads a Dead = tt
found_reads a Unset = tt
found_reads a (Set w) = tt

pub failure_reads : (S : Sight) (e : Exp) → has_call e ≡ false → FailsBy IsRead (worth S e).value × FailsBy IsRead (worth S e).truth
failure_reads S e plain = failing IsRead S (λ a. found_reads a (cell_at S.cells a)) e plain
