-- Loops, lists and SWITCHONs that aren't wild, given what their bodies do.
use Rattle.std.proofs.Common.{◌≡◌, ◌≢◌, inl, inr, ℕ, ◌<◌, ◌||◌, Bool, true, false, arith}
use Rattle.std.specs.Prelude.{cond}
use Rattle.bc_word.specs.Words.{holds}
use Rattle.bc_core.specs.Commands.{Items}
use Rattle.bc_core.specs.Outcome.{Done, Run, then_do, Round, Again, Leave}
use Rattle.bc_core.specs.Value.{sense}
use Rattle.bc_core.specs.Exit.{Exit, Past, Broke, Looped, LeftCases, Returned, Resulted, Jumped, onward}
use Rattle.bc_core.specs.Lists.{Entry, Beginning, AtCase, AtDefault, AtLabel, from_entry, after_list, listed, after_cases, switched, entry_of, has_label}
use Rattle.bc_core.specs.Loop.{LoopRound, back, leave, after_body, while_loop, repeat_loop, repeat_while_loop, for_loop, agrees, end_relation}
use Rattle.bc_core.proofs.Liveness.{Outside}
use Rattle.bc_tame.specs.Tame.{Exits, in_a_loop, in_list, in_switch}
use Rattle.bc_tame.proofs.Fine.{Shape, Runs, OfRound, anything, IsWord, runs_done, runs_then, runs_choose, runs_turn, runs_repeated}

-- the jumps that are allowed
abbrev pub Allowed : Exits → Exit → Type 0
Allowed J Past = Unit {0}
Allowed J Broke = J.in_loop ≡ true
Allowed J Looped = J.in_loop ≡ true
Allowed J LeftCases = J.in_cases ≡ true
Allowed J Returned = J.may_return ≡ true
Allowed J (Resulted v) = (J.in_valof ≡ true) × (v < 65536)
Allowed J (Jumped l) = J.labels l ≡ true

abbrev pub Leaving : Exits → Round (Unit {0}) Exit → Type 0
Leaving J = OfRound (anything {A = Unit {0}}) (Allowed J)

pub runs_back : (J : Exits) (σ : Shape) → Runs σ (Leaving J) σ back
runs_back J σ = runs_turn σ σ (Leaving J) _ (runs_done σ (Leaving J) (Again tt) tt)

pub runs_after_body : (J : Exits) (σ : Shape) (rest : LoopRound) (x : Exit) → Runs σ (Leaving J) σ rest → Allowed (in_a_loop J) x → Runs σ (Leaving J) σ (after_body rest x)
runs_after_body J σ rest Past h a = h
runs_after_body J σ rest Looped h a = h
runs_after_body J σ rest Broke h a = runs_done σ (Leaving J) (Leave Past) tt
runs_after_body J σ rest LeftCases h a = runs_done σ (Leaving J) (Leave LeftCases) a
runs_after_body J σ rest Returned h a = runs_done σ (Leaving J) (Leave Returned) a
runs_after_body J σ rest (Resulted v) h a = runs_done σ (Leaving J) (Leave (Resulted v)) a
runs_after_body J σ rest (Jumped l) h a = runs_done σ (Leaving J) (Leave (Jumped l)) a

abbrev pub BodyRuns : Exits → Shape → Run Exit → Type 0
BodyRuns J σ body = Runs σ (Allowed (in_a_loop J)) σ body

abbrev pub TestRuns : Shape → Run Bool → Type 0
TestRuns σ test = Runs σ (anything {A = Bool}) σ test

pub runs_round : (J : Exits) (σ : Shape) (body : Run Exit) (rest : LoopRound) → BodyRuns J σ body → Runs σ (Leaving J) σ rest → Runs σ (Leaving J) σ (then_do body (after_body rest))
runs_round J σ body rest h k = runs_then σ σ σ (Allowed (in_a_loop J)) (Leaving J) body (after_body rest) h (λ x a. runs_after_body J σ rest x k a)

pub runs_leave : (J : Exits) (σ : Shape) → Runs σ (Leaving J) σ leave
runs_leave J σ = runs_done σ (Leaving J) (Leave Past) tt

pub runs_while : (J : Exits) (σ : Shape) (sense : Bool) (test : Run Bool) (body : Run Exit) → TestRuns σ test → BodyRuns J σ body → Runs σ (Allowed J) σ (while_loop sense test body)
runs_while J σ sense test body h k =
    runs_repeated σ (anything {A = Unit {0}}) (Allowed J) _ tt tt (λ u x. runs_then σ σ σ (anything {A = Bool}) (Leaving J) test _ h
    (λ t y. runs_choose σ σ (Leaving J) (agrees sense t) _ leave (runs_round J σ body back k (runs_back J σ)) (runs_leave J σ)))

pub runs_repeat : (J : Exits) (σ : Shape) (body : Run Exit) → BodyRuns J σ body → Runs σ (Allowed J) σ (repeat_loop body)
runs_repeat J σ body k = runs_repeated σ (anything {A = Unit {0}}) (Allowed J) _ tt tt (λ u x. runs_round J σ body back k (runs_back J σ))

pub runs_repeat_while : (J : Exits) (σ : Shape) (body : Run Exit) (sense : Bool) (test : Run Bool) → BodyRuns J σ body → TestRuns σ test → Runs σ (Allowed J) σ (repeat_while_loop body sense test)
runs_repeat_while J σ body sense test k h =
    runs_repeated σ (anything {A = Unit {0}}) (Allowed J) _ tt tt (λ u x. runs_round J σ body _ k (runs_then σ σ σ (anything {A = Bool}) (Leaving J) test _ h
    (λ t y. runs_choose σ σ (Leaving J) (agrees sense t) back leave (runs_back J σ) (runs_leave J σ))))

pub runs_for : (J : Exits) (σ τ : Shape) (by : ℕ) (start : Run (Unit {0})) (limit variable : Run ℕ) (step : Run (Unit {0})) (body : Run Exit)
    → Runs σ (anything {A = Unit {0}}) τ start → Runs τ IsWord τ limit → Runs τ IsWord τ variable → Runs τ (anything {A = Unit {0}}) τ step → BodyRuns J τ body
    → Runs σ (Allowed J) τ (for_loop by start limit variable step body)
runs_for J σ τ by start limit variable step body hs hl hv ht hb =
    runs_then σ τ τ (anything {A = Unit {0}}) (Allowed J) start _ hs (λ u x. runs_then τ τ τ IsWord (Allowed J) limit _ hl (λ n ln.
    runs_repeated τ (anything {A = Unit {0}}) (Allowed J) _ tt tt (λ u y. runs_then τ τ τ IsWord (Leaving J) variable _ hv (λ i li. runs_choose τ τ (Leaving J) (holds (end_relation by) i n) leave _ (runs_leave J τ)
    (runs_round J τ body _ hb (runs_then τ τ τ (anything {A = Unit {0}}) (Leaving J) step _ ht (λ u z. runs_back J τ)))))))

-- lists
pub runs_from_entry : (J : Exits) (σ : Shape) (at : Entry) (r : Run Exit) → Runs σ (Allowed J) σ r → Runs σ (Allowed J) σ (from_entry at r)
runs_from_entry J σ Beginning r h = h
runs_from_entry J σ (AtCase v) r h = runs_done σ (Allowed J) Past tt
runs_from_entry J σ AtDefault r h = runs_done σ (Allowed J) Past tt
runs_from_entry J σ (AtLabel l) r h = runs_done σ (Allowed J) Past tt

pub runs_onward : (J : Exits) (σ : Shape) (r : Run Exit) (x : Exit) → Runs σ (Allowed J) σ r → Allowed J x → Runs σ (Allowed J) σ (onward r x)
runs_onward J σ r Past h a = h
runs_onward J σ r Broke h a = runs_done σ (Allowed J) Broke a
runs_onward J σ r Looped h a = runs_done σ (Allowed J) Looped a
runs_onward J σ r LeftCases h a = runs_done σ (Allowed J) LeftCases a
runs_onward J σ r Returned h a = runs_done σ (Allowed J) Returned a
runs_onward J σ r (Resulted v) h a = runs_done σ (Allowed J) (Resulted v) a
runs_onward J σ r (Jumped l) h a = runs_done σ (Allowed J) (Jumped l) a

abbrev pub Entering : Exits → Round Entry Exit → Type 0
Entering J = OfRound (anything {A = Entry}) (Allowed J)

pub runs_after_list : (J : Exits) (is : Items) (σ : Shape) (x : Exit) → Allowed (in_list is J) x → Runs σ (Entering J) σ (after_list (has_label is) x)
runs_after_list J is σ Past a = runs_done σ (Entering J) (Leave Past) a
runs_after_list J is σ Broke a = runs_done σ (Entering J) (Leave Broke) a
runs_after_list J is σ Looped a = runs_done σ (Entering J) (Leave Looped) a
runs_after_list J is σ LeftCases a = runs_done σ (Entering J) (Leave LeftCases) a
runs_after_list J is σ Returned a = runs_done σ (Entering J) (Leave Returned) a
runs_after_list J is σ (Resulted v) a = runs_done σ (Entering J) (Leave (Resulted v)) a
runs_after_list J is σ (Jumped l) a = by (has_label is l) a where
  by : (t : Bool) → (t || J.labels l) ≡ true → Runs σ (Entering J) σ (Done (cond t (Again (AtLabel l)) (Leave (Jumped l))))
  by true a = runs_done σ (Entering J) (Again (AtLabel l)) tt
  by false a = runs_done σ (Entering J) (Leave (Jumped l)) a

pub runs_listed : (J : Exits) (is : Items) (σ : Shape) (items : Entry → Run Exit) (at : Entry) → ((at1 : Entry) → Runs σ (Allowed (in_list is J)) σ (items at1)) → Runs σ (Allowed J) σ (listed (has_label is) items at)
runs_listed J is σ items at h =
    runs_repeated σ (anything {A = Entry}) (Allowed J) _ at tt (λ at1 u. runs_then σ σ σ (Allowed (in_list is J)) (Entering J) _ _ (h at1) (λ x a. runs_after_list J is σ x a))

pub runs_after_cases : (J : Exits) (σ : Shape) (x : Exit) → Allowed (record J { in_cases = true }) x → Runs σ (Allowed J) σ (after_cases x)
runs_after_cases J σ Past a = runs_done σ (Allowed J) Past a
runs_after_cases J σ Broke a = runs_done σ (Allowed J) Broke a
runs_after_cases J σ Looped a = runs_done σ (Allowed J) Looped a
runs_after_cases J σ LeftCases a = runs_done σ (Allowed J) Past tt
runs_after_cases J σ Returned a = runs_done σ (Allowed J) Returned a
runs_after_cases J σ (Resulted v) a = runs_done σ (Allowed J) (Resulted v) a
runs_after_cases J σ (Jumped l) a = runs_done σ (Allowed J) (Jumped l) a

pub runs_switched : (J : Exits) (is : Items) (σ : Shape) (v : Run ℕ) (cases : ℕ → Bool) (items : Entry → Run Exit) → Runs σ IsWord σ v → ((at : Entry) → Runs σ (Allowed (in_switch is J)) σ (items at)) → Runs σ (Allowed J) σ (switched v cases (has_label is) items)
runs_switched J is σ v cases items h k =
    runs_then σ σ σ IsWord (Allowed J) v _ h (λ w lw. runs_then σ σ σ (Allowed (record J { in_cases = true })) (Allowed J) _ after_cases
    (runs_listed (record J { in_cases = true }) is σ items (entry_of cases w) k) (λ x a. runs_after_cases J σ x a))

pub outside : (a x : ℕ) → Outside 1 a x → x ≢ a
outside a x (inl lt) e = omega arith
outside a x (inr up) e = omega arith
