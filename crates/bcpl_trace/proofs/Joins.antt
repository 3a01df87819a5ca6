-- Runs composed of shorter runs, for the loop of `run_watched`.
use Rattle.std.proofs.Common.{◌≡◌, ◌≢◌, ◌≤◌, ℕ, ◌+◌, suc, Option, None, Some, sym, ap, ◌∙◌, refl, arith, subst}
use Rattle.bc_machine_defs.specs.State.{State}
use Rattle.bc_machine_defs.specs.Run.{runs, ended}
use Rattle.bc_machine_defs.specs.Laws.{goes_on_for}
use Rattle.bc_machine_defs.specs.declared.state.End.{End}
use Rattle.bc_machine_defs.specs.declared.state.End.TheVariants.{Finished, ZeroDivide, BadInstruction, BudgetSpent, Device}
use Rattle.bc_machine_defs.proofs.Runs.{runs-zero, runs-add, runs-Comes, Comes-add}
use Rattle.bc_machine.specs.Ran.{Ran, RanFrom, kept_end, kept_from}
use Rattle.bc_machine.proofs.Failures.{rose_from}

-- A run of no instructions.
pub ran_nothing : (known : Type 0) (s : State) (f : ℕ) → Ran known known 0 s s BudgetSpent f f
ran_nothing known s f = record {
  exact = λ k other. sym (runs-zero s);
  device = λ k e. absurd cc;
  kept = λ k. k;
  failed = λ e. absurd cc;
  counted = omega arith;
  works = λ e. absurd cc;
}

still_running : BudgetSpent ≢ Device
still_running e = cc

-- A run that is still running, followed by another run, is a run with both budgets.
pub ran_on : (known middle still : Type 0) (n m : ℕ) (s t u : State) (e : End) (a b c : ℕ)
    → Ran known middle n s t BudgetSpent a b → Ran middle still m t u e b c → Ran known still (n + m) s u e a c
ran_on known middle still n m s t u e a b c first second = record {
  exact = λ k other.
      let before : ended t BudgetSpent ≡ runs n s = first.exact k still_running in
      let after : ended u e ≡ runs m t = second.exact (first.kept k) other in
      after ∙ ap (goes_on_for m) before ∙ sym (runs-add n m s);
  device = λ k d.
      let before : ended t BudgetSpent ≡ runs n s = first.exact k still_running in
      let after = second.device (first.kept k) d in
      let bound : suc after.0 ≤ m = after.1 in
      (n + after.0, omega (arith, bound), Comes-add n after.0 s t u (runs-Comes n s t (sym before)) after.2);
  kept = λ k. second.kept (first.kept k);
  failed = λ d. rose_from a b c first.counted second.counted (second.failed d);
  counted = omega (arith, first.counted, second.counted);
  works = second.works;
}

-- An end other than BudgetSpent stays.
stays : (m : ℕ) (t : State) (e : End) → e ≢ BudgetSpent → goes_on_for m (ended t e) ≡ ended t e
stays m t Finished h = refl
stays m t ZeroDivide h = refl
stays m t (BadInstruction c) h = refl
stays m t BudgetSpent h = absurd (h refl)
stays m t Device h = refl

-- A run that has ended ends the same way with a larger budget.
pub ran_longer : (known still : Type 0) (n m : ℕ) (s u : State) (e : End) (a c : ℕ)
    → e ≢ BudgetSpent → Ran known still n s u e a c → Ran known still (n + m) s u e a c
ran_longer known still n m s u e a c h r = record {
  exact = λ k other. sym (stays m u e h) ∙ ap (goes_on_for m) (r.exact k other) ∙ sym (runs-add n m s);
  device = λ k d.
      let before = r.device k d in
      let bound : suc before.0 ≤ n = before.1 in
      (before.0, omega (arith, bound), before.2);
  kept = r.kept;
  failed = r.failed;
  counted = r.counted;
  works = r.works;
}

-- The run of a machine that has not ended.
pub ran_from_none : (now : Option End) (known still : Type 0) (n : ℕ) (s t : State) (e : End) (a b : ℕ)
    → now ≡ None → RanFrom now known still n s t e a b → Ran known still n s t e a b
ran_from_none None known still n s t e a b h r = r
ran_from_none (Some x) known still n s t e a b h r = absurd cc

pub kept_none : (e : End) → kept_end e ≡ None → e ≡ BudgetSpent
kept_none BudgetSpent h = refl
kept_none Finished h = absurd cc
kept_none ZeroDivide h = absurd cc
kept_none (BadInstruction c) h = absurd cc
kept_none Device h = absurd cc

pub kept_some : (e x : End) → kept_end e ≡ Some x → (e ≡ x) × (e ≢ BudgetSpent)
kept_some BudgetSpent x h = absurd cc
kept_some Finished x h = (cc, λ k. cc)
kept_some ZeroDivide x h = (cc, λ k. cc)
kept_some (BadInstruction c) x h = (cc, λ k. cc)
kept_some Device x h = (cc, λ k. cc)

-- The same budget.
pub ran_same : (known still : Type 0) (total n : ℕ) (s t : State) (e : End) (a b : ℕ)
    → total ≡ n → Ran known still n s t e a b → Ran known still total s t e a b
ran_same known still total n s t e a b h r =
    let P : ℕ → Type 0 = λ i. Ran known still i s t e a b in
    subst P (sym h) r

-- One more instruction, after which the machine is still running.
pub ran_one_more : (now : Option End) (known middle still : Type 0) (total n : ℕ) (s t u : State) (e : End) (a b c : ℕ)
    → now ≡ None → total ≡ n + 1 → Ran known middle n s t BudgetSpent a b → RanFrom now middle still 1 t u e b c → kept_end e ≡ None
    → Ran known still total s u BudgetSpent a c
ran_one_more now known middle still total n s t u e a b c none size first second h =
    let one = ran_from_none now middle still 1 t u e b c none second in
    let P : End → Type 0 = λ x. Ran known still (n + 1) s u x a c in
    ran_same known still total (n + 1) s u BudgetSpent a c size
    (subst P (kept_none e h) (ran_on known middle still n 1 s t u e a b c first one))

-- One more instruction, which ends the run.
pub ran_to_end : (now : Option End) (known middle still : Type 0) (total n m : ℕ) (s t u : State) (e x : End) (a b c : ℕ)
    → now ≡ None → total ≡ n + 1 + m → Ran known middle n s t BudgetSpent a b → RanFrom now middle still 1 t u e b c
    → kept_end e ≡ Some x → Ran known still total s u x a c
ran_to_end now known middle still total n m s t u e x a b c none size first second h =
    let one = ran_from_none now middle still 1 t u e b c none second in
    let all = kept_some e x h in
    let P : End → Type 0 = λ y. Ran known still (n + 1 + m) s u y a c in
    ran_same known still total (n + 1 + m) s u x a c size
    (subst P all.0 (ran_longer known still (n + 1) m s u e a c all.1 (ran_on known middle still n 1 s t u e a b c first one)))

-- The end that a machine keeps.
pub runs_still : (now then : Option End) (e : End) → now ≡ None → then ≡ kept_from now e → kept_end e ≡ None → then ≡ None
runs_still None then e h k q = k ∙ q
runs_still (Some x) then e h k q = absurd cc

pub ended_so : (now then : Option End) (e x : End) → now ≡ None → then ≡ kept_from now e → kept_end e ≡ Some x → then ≡ kept_end x
ended_so None then e x h k q = k ∙ ap kept_end (kept_some e x q).0
ended_so (Some y) then e x h k q = absurd cc
