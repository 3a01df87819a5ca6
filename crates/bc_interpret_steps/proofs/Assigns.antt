-- Pure assignments, which are performed within one step.
use Rattle.std.proofs.Common.{◌≡◌, ◌||◌, ℕ, Bool, true, false, List, ◌∷◌, Option, Some, sym, ap, subst, ◌∙◌}
use Rattle.bc_machine_defs.specs.Streams.{Content}
use Rattle.bc_core.specs.Tree.{Exp}
use Rattle.bc_core.specs.Commands.{Items}
use Rattle.bc_core.specs.Commands as commands
use Rattle.bc_core.specs.Level.{side_level}
use Rattle.bc_core.specs.Outcome.{Run, ZeroDivide, followed, then_do, both, outweighed, second_side, write}
use Rattle.bc_core.specs.Value.{has_call, value, assign}
use Rattle.bc_core.specs.Lists.{Beginning}
use Rattle.bc_interpret_defs.specs.Machine as machine
use Rattle.bc_interpret_defs.specs.Machine.{quiet, first_command}
use Rattle.bc_core.specs.Outcome as outcomes
use Rattle.bc_core.specs.Store.{Cell}
use Rattle.bc_interpret_defs.specs.Quiet as quiet_forms
use Rattle.bc_interpret_defs.specs.Quiet.{settled, worth}
use Rattle.bc_interpret_defs.specs.Causes as defined
use Rattle.bc_interpret_defs.specs.Laws.{FailsBy}
use Rattle.bc_interpret_defs.specs.Meeting.{KeepsWords, IsWildBy}
use Rattle.bc_interpret_defs.proofs.Wordwise.{IsFailure, IsRead, failures_name, failure_reads, value_kept}
use Rattle.bc_interpret_pure.specs.Causes.{cause_of}
use Rattle.bc_interpret_steps.specs.declared.assign.Assigned.TheVariants as assigned_forms
use Rattle.bc_interpret_defs.proofs.Naming.{wild_then, wild_same, wild_after_write}
use Rattle.bc_interpret_pure.specs.declared.value.Worth.{Worth}
use Rattle.bc_interpret_pure.specs.declared.value.Worth.TheVariants as worths
use Rattle.bc_interpret_pure.specs.Views.{seen}
use Rattle.bc_interpret_steps.specs.declared.state.State.{State}
use Rattle.bc_interpret_steps.specs.declared.assign.Assigned.{Assigned}
use Rattle.bc_interpret_steps.specs.Came.{state_of, sight}
use Rattle.bc_interpret_steps.specs.Assigns.{outcome_of, Tells, TellsFirst, Blames, BothWorth, IsAssigned}
use Rattle.bc_interpret_steps.proofs.Quiet.{by_test, quiet_value}

pub first_calls : (a b : Bool) → a ≡ true → (a || b) ≡ true
first_calls true b e = e
first_calls false b e = cc

pub second_calls : (a b : Bool) → b ≡ true → (a || b) ≡ true
second_calls true b e = λ i. true
second_calls false b e = e

pub neither : (a b : Bool) → a ≡ false → b ≡ false → (a || b) ≡ false
neither true b e f = e
neither false b e f = f

abbrev writes : ℕ → ℕ → Run (Unit {0})
writes word address = write address word

assigns : (st : State) (E : machine.Spot) (v a : Exp) (w x : Worth) (came : Assigned) (new : State) → has_call v ≡ false → has_call a ≡ false → seen w ≡ (worth (sight st E) v).value → seen x ≡ (worth (sight st E) a).value → BothWorth (seen w) (seen x) st came new
    → (s : ℕ) (streams : Content) → assign (quiet E) v a E.frame s (state_of st streams) ≡ outcome_of came new streams
assigns st E v a w x came new plain also_plain is this h s streams =
    let s1 = side_level a s in
    let first = value (quiet E) v E.frame s1 in
    let second = value (quiet E) a E.frame s1 in
    ap (λ t. both t first second writes (state_of st streams)) (neither (has_call v) (has_call a) plain also_plain)
    ∙ (ap (λ o. second_side false o second writes (state_of st streams)) (quiet_value st E v s1 streams plain w is) ∙ (by_first w ∙ h.0 streams)) where
      by_first : (w : Worth) → second_side {A = ℕ} {B = ℕ} {C = Unit {0}} false (settled (seen w) (state_of st streams)) (value (quiet E) a E.frame (side_level a s)) writes (state_of st streams) ≡ second_side {A = ℕ} {B = ℕ} {C = Unit {0}} false (settled (seen w) (state_of st streams)) (settled (seen x)) writes (state_of st streams)
      by_first (worths.Is y) = ap (λ o. followed {A = ℕ} {B = Unit {0}} o (writes y)) (quiet_value st E a (side_level a s) streams also_plain x this)
      by_first worths.Divides = ap (λ o. outweighed {A = ℕ} {B = Unit {0}} ZeroDivide streams o) (quiet_value st E a (side_level a s) streams also_plain x this)
      by_first (worths.Fails c) = λ i. second_side {A = ℕ} {B = ℕ} {C = Unit {0}} false (settled (seen (worths.Fails c)) (state_of st streams)) (value (quiet E) a E.frame (side_level a s)) writes (state_of st streams)

-- a side that fails
wild_first_side : {A B C : Type 0} (r : Run A) (q : Run B) (f : A → B → Run C) (cells : List Cell) (c : defined.Cause) → IsRead c → IsWildBy r cells c → IsWildBy (both false r q f) cells c
wild_first_side r q f cells (defined.Unset b) k h = (h.0, λ st keeps n. ap (λ o. second_side false o q f st) (h.1 st keeps n))
wild_first_side r q f cells (defined.Dead b) k h = (h.0, λ st keeps n. ap (λ o. second_side false o q f st) (h.1 st keeps n))
wild_first_side r q f cells (defined.NoCell b) k h = absurd k
wild_first_side r q f cells (defined.NotRoutine b) k h = absurd k
wild_first_side r q f cells (defined.FrameTooLarge b) k h = absurd k
wild_first_side r q f cells defined.Malformed k h = absurd k

second_wild : {A B C : Type 0} (w : quiet_forms.Worth A) (q : Run B) (f : A → B → Run C) (st : outcomes.State) → (IsFailure w → ⊥) → q st ≡ outcomes.Wild → second_side false (settled w st) q f st ≡ outcomes.Wild
second_wild (quiet_forms.Is y) q f st n h = ap (λ o. followed o (f y)) h
second_wild quiet_forms.Divides q f st n h = ap (λ o. outweighed ZeroDivide st.streams o) h
second_wild (quiet_forms.Fails d) q f st n h = absurd (n tt)

wild_second_side : {A B C : Type 0} (w : quiet_forms.Worth A) (r : Run A) (q : Run B) (f : A → B → Run C) (cells : List Cell) (c : defined.Cause) → (IsFailure w → ⊥) → ((st : outcomes.State) → KeepsWords cells st → r st ≡ settled w st) → IsRead c → IsWildBy q cells c → IsWildBy (both false r q f) cells c
wild_second_side w r q f cells (defined.Unset b) n is k h = (h.0, λ st keeps m. ap (λ o. second_side false o q f st) (is st keeps) ∙ second_wild w q f st n (h.1 st keeps m))
wild_second_side w r q f cells (defined.Dead b) n is k h = (h.0, λ st keeps m. ap (λ o. second_side false o q f st) (is st keeps) ∙ second_wild w q f st n (h.1 st keeps m))
wild_second_side w r q f cells (defined.NoCell b) n is k h = absurd k
wild_second_side w r q f cells (defined.NotRoutine b) n is k h = absurd k
wild_second_side w r q f cells (defined.FrameTooLarge b) n is k h = absurd k
wild_second_side w r q f cells defined.Malformed n is k h = absurd k

abbrev value_at : machine.Spot → Exp → (s : ℕ) → Run ℕ
value_at E e s = value (quiet E) e E.frame s

kept : (st : State) (E : machine.Spot) (e : Exp) (s : ℕ) (w : quiet_forms.Worth ℕ) → has_call e ≡ false → w ≡ (worth (sight st E) e).value → (IsFailure w → ⊥) → (st1 : outcomes.State) → KeepsWords st.store st1 → value_at E e s st1 ≡ settled w st1
kept st E e s w plain is n st1 keeps = value_kept E.address (λ r vs f. outcomes.wild) (λ n p s. outcomes.wild) e plain E.frame s st.store st1 w is n keeps

fails_by : (st : State) (E : machine.Spot) (e : Exp) (s : ℕ) (d : defined.Cause) → has_call e ≡ false → quiet_forms.Fails d ≡ (worth (sight st E) e).value → IsRead d × IsWildBy (value_at E e s) st.store d
fails_by st E e s d plain is = (
  subst (λ z. FailsBy IsRead z) (sym is) (failure_reads (sight st E) e plain).0,
  subst (λ z. FailsBy (IsWildBy (value_at E e s) st.store) z) (sym is) (failures_name E.address (λ r vs f. outcomes.wild) (λ n p s. outcomes.wild) e plain E.frame s st.store).0,
)

-- whom an assignment blames
tells : (st : State) (E : machine.Spot) (v a : Exp) (w x : quiet_forms.Worth ℕ) (came : Assigned) (new : State) → has_call v ≡ false → has_call a ≡ false → w ≡ (worth (sight st E) v).value → x ≡ (worth (sight st E) a).value → Blames w x came st new → (s : ℕ) → Tells (assign (quiet E) v a E.frame s) came st new
tells st E v a w x came new plain also_plain is this blame s = by_case w x came is this blame where
  s1 : ℕ
  s1 = side_level a s

  whole : Run (Unit {0})
  whole = both false (value_at E v s1) (value_at E a s1) writes

  same : (st1 : outcomes.State) → assign (quiet E) v a E.frame s st1 ≡ whole st1
  same st1 = ap (λ t. both t (value_at E v s1) (value_at E a s1) writes st1) (neither (has_call v) (has_call a) plain also_plain)

  to_write : (word address : ℕ) → quiet_forms.Is word ≡ (worth (sight st E) v).value → quiet_forms.Is address ≡ (worth (sight st E) a).value → (st1 : outcomes.State) → KeepsWords st.store st1 → assign (quiet E) v a E.frame s st1 ≡ write address word st1
  to_write word address i j st1 keeps =
      same st1
      ∙ (ap (λ o. second_side false o (value_at E a s1) writes st1) (kept st E v s1 (quiet_forms.Is word) plain i (λ n. n) st1 keeps)
      ∙ ap (λ o. followed o (writes word)) (kept st E a s1 (quiet_forms.Is address) also_plain j (λ n. n) st1 keeps))

  by_case : (w x : quiet_forms.Worth ℕ) (came : Assigned) → w ≡ (worth (sight st E) v).value → x ≡ (worth (sight st E) a).value → Blames w x came st new → Tells (assign (quiet E) v a E.frame s) came st new
  by_case w x assigned_forms.Divides i j b = tt
  by_case (quiet_forms.Fails d) x (assigned_forms.Fails c) i j b =
      let f = fails_by st E v s1 d plain i in
      wild_same (assign (quiet E) v a E.frame s) whole st.store (cause_of c) (λ st1 keeps. same st1)
      (subst (λ z. IsWildBy whole st.store z) b (wild_first_side (value_at E v s1) (value_at E a s1) writes st.store d f.0 f.1))
  by_case (quiet_forms.Is word) (quiet_forms.Fails d) (assigned_forms.Fails c) i j b =
      let f = fails_by st E a s1 d also_plain j in
      wild_same (assign (quiet E) v a E.frame s) whole st.store (cause_of c) (λ st1 keeps. same st1)
      (subst (λ z. IsWildBy whole st.store z) b (wild_second_side (quiet_forms.Is word) (value_at E v s1) (value_at E a s1) writes st.store d (λ n. n) (kept st E v s1 (quiet_forms.Is word) plain i (λ n. n)) f.0 f.1))
  by_case quiet_forms.Divides (quiet_forms.Fails d) (assigned_forms.Fails c) i j b =
      let f = fails_by st E a s1 d also_plain j in
      wild_same (assign (quiet E) v a E.frame s) whole st.store (cause_of c) (λ st1 keeps. same st1)
      (subst (λ z. IsWildBy whole st.store z) b (wild_second_side quiet_forms.Divides (value_at E v s1) (value_at E a s1) writes st.store d (λ n. n) (kept st E v s1 quiet_forms.Divides plain i (λ n. n)) f.0 f.1))
  by_case (quiet_forms.Is word) (quiet_forms.Is address) (assigned_forms.Fails c) i j b = wild_same (assign (quiet E) v a E.frame s) (write address word) st.store (cause_of c) (to_write word address i j) b
  by_case (quiet_forms.Is word) (quiet_forms.Is address) assigned_forms.Done i j b = (address, word, b.0, b.1, to_write word address i j)
  by_case (quiet_forms.Is word) quiet_forms.Divides (assigned_forms.Fails c) i j b = absurd b
  by_case quiet_forms.Divides (quiet_forms.Is y) (assigned_forms.Fails c) i j b = absurd b
  by_case quiet_forms.Divides quiet_forms.Divides (assigned_forms.Fails c) i j b = absurd b
  by_case (quiet_forms.Fails d) x assigned_forms.Done i j b = absurd b
  by_case quiet_forms.Divides (quiet_forms.Is y) assigned_forms.Done i j b = absurd b
  by_case quiet_forms.Divides quiet_forms.Divides assigned_forms.Done i j b = absurd b
  by_case quiet_forms.Divides (quiet_forms.Fails d) assigned_forms.Done i j b = absurd b
  by_case (quiet_forms.Is word) quiet_forms.Divides assigned_forms.Done i j b = absurd b
  by_case (quiet_forms.Is word) (quiet_forms.Fails d) assigned_forms.Done i j b = absurd b

pub assigned_at_once : (st : State) (E : machine.Spot) (v a : Exp) (w x : Worth) (came : Assigned) (new : State) → has_call v ≡ false → has_call a ≡ false → seen w ≡ (worth (sight st E) v).value → seen x ≡ (worth (sight st E) a).value → BothWorth (seen w) (seen x) st came new
    → ((s : ℕ) (streams : Content) → assign (quiet E) v a E.frame s (state_of st streams) ≡ outcome_of came new streams) × ((s : ℕ) → Tells (assign (quiet E) v a E.frame s) came st new)
assigned_at_once st E v a w x came new plain also_plain is this h =
    (λ s streams. assigns st E v a w x came new plain also_plain is this h s streams, λ s. tells st E v a (seen w) (seen x) came new plain also_plain is this h.1 s)

-- the first command of a list
pub first_done : (E : machine.Spot) (v a : Exp) (old new : State) (came : Assigned) → (has_call v || has_call a) ≡ false → ((s : ℕ) (streams : Content) → assign (quiet E) v a E.frame s (state_of old streams) ≡ outcome_of came new streams)
    → (is : Items) (s : ℕ) (rs : List machine.Rest) (streams : Content) → first_command E (commands.Assign v a) is s rs (state_of old streams) ≡ followed (outcome_of came new streams) (λ u. machine.go_on E is s rs)
first_done E v a old new came plain h is s rs streams =
    let onward = machine.go_on E is s rs in
    ap (λ t. by_test t (machine.go (machine.Perform E (commands.Assign v a) s) (machine.Follows E is s ∷ rs)) (then_do (assign (quiet E) v a E.frame s) (λ u. onward)) (state_of old streams)) plain
    ∙ ap (λ o. followed {A = Unit {0}} o (λ u. onward)) (h s streams)

pub first_tells : (E : machine.Spot) (v a : Exp) (old new : State) (came : Assigned) → (has_call v || has_call a) ≡ false → ((s : ℕ) → Tells (assign (quiet E) v a E.frame s) came old new)
    → (is : Items) (s : ℕ) (rs : List machine.Rest) → TellsFirst (first_command E (commands.Assign v a) is s rs) came old
first_tells E v a old new came plain h is s rs = by_case came (h s) where
  onward : machine.Step
  onward = machine.go_on E is s rs

  first : machine.Step
  first = first_command E (commands.Assign v a) is s rs

  same : (st : outcomes.State) → first st ≡ then_do (assign (quiet E) v a E.frame s) (λ u. onward) st
  same st = ap (λ t. by_test t (machine.go (machine.Perform E (commands.Assign v a) s) (machine.Follows E is s ∷ rs)) (then_do (assign (quiet E) v a E.frame s) (λ u. onward)) st) plain

  by_case : (came : Assigned) → Tells (assign (quiet E) v a E.frame s) came old new → TellsFirst first came old
  by_case assigned_forms.Done t = tt
  by_case assigned_forms.Divides t = tt
  by_case (assigned_forms.Fails c) t = wild_same first (then_do (assign (quiet E) v a E.frame s) (λ u. onward)) old.store (cause_of c) (λ st keeps. same st) (wild_then (assign (quiet E) v a E.frame s) (λ u. onward) old.store (cause_of c) t)

pub first_left : (E : machine.Spot) (v a : Exp) → (has_call v || has_call a) ≡ true → (is : Items) (s : ℕ) (rs : List machine.Rest)
    → first_command E (commands.Assign v a) is s rs ≡ machine.go (machine.Perform E (commands.Assign v a) s) (machine.Follows E is s ∷ rs)
first_left E v a calls is s rs =
    ap (λ t. by_test t (machine.go (machine.Perform E (commands.Assign v a) s) (machine.Follows E is s ∷ rs)) (then_do (assign (quiet E) v a E.frame s) (λ u. machine.go_on E is s rs))) calls

pub told_assigned : (E : machine.Spot) (v a : Exp) (old new : State) (told : Option Assigned) (came : Assigned) → IsAssigned E v a old told new → told ≡ Some came → IsAssigned E v a old (Some came) new
told_assigned E v a old new told came h e = subst (λ z. IsAssigned E v a old z new) e h

pub store_wild : (E : machine.Spot) (v a : Exp) (s : ℕ) (rs : List machine.Rest) (st : outcomes.State) → (has_call v || has_call a) ≡ false → assign (quiet E) v a E.frame s st ≡ outcomes.Wild → machine.store E v a s rs st ≡ outcomes.Wild
store_wild E v a s rs st plain h =
    let last : machine.Step = then_do (assign (quiet E) v a E.frame s) (λ u. machine.give machine.Nothing rs) in
    ap (λ t. by_test t (machine.go (machine.Evaluate E v (side_level a s)) (machine.Stores E a s ∷ rs)) last st) plain
    ∙ ap (λ o. followed {A = Unit {0}} o (λ u. machine.give machine.Nothing rs)) h

pub store_by : (E : machine.Spot) (v a : Exp) (s : ℕ) (rs : List machine.Rest) (cells : List Cell) (c : defined.Cause) → (has_call v || has_call a) ≡ false → ((s : ℕ) → IsWildBy (assign (quiet E) v a E.frame s) cells c) → IsWildBy (machine.store E v a s rs) cells c
store_by E v a s rs cells c plain h =
    let last : machine.Step = then_do (assign (quiet E) v a E.frame s) (λ u. machine.give machine.Nothing rs) in
    wild_same (machine.store E v a s rs) last cells c (λ st keeps. ap (λ t. by_test t (machine.go (machine.Evaluate E v (side_level a s)) (machine.Stores E a s ∷ rs)) last st) plain)
    (wild_then (assign (quiet E) v a E.frame s) (λ u. machine.give machine.Nothing rs) cells c (h s))

pub ruleset at_once = (first_calls, second_calls)
