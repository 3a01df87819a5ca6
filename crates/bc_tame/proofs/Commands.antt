-- Commands that pass the check aren't wild.
use Rattle.std.proofs.Common.{◌≡◌, ◌⊎◌, inl, inr, ⊎_elim, ℕ, ◌+◌, ◌≤◌, ◌==◌, ◌&&◌, [], ◌∷◌, Bool, true, false, Some, refl, ◌∙◌, subst, arith}
use Rattle.std.specs.Prelude.{nat_lt, nat_le, cond}
use Rattle.std.proofs.lemmas.Bool.Decides.{nat_tests}
use Rattle.bc_core.specs.Tree.{Exp, Frame, Load}
use Rattle.bc_core.specs.Commands.{Command, Block, block, Items, no_item, command, case, default, label}
use Rattle.bc_core.specs.Commands as commands
use Rattle.bc_core.specs.Level.{side_level, cells_declared}
use Rattle.bc_core.specs.Outcome.{Finished}
use Rattle.bc_core.specs.Value.{Context, sense}
use Rattle.bc_core.specs.Exit.{Exit, Past, Broke, Looped, LeftCases, Returned, Resulted, Jumped}
use Rattle.bc_core.specs.Lists.{Entry, Beginning, met, meets_case, meets_default, meets_label}
use Rattle.bc_core.specs.Command.{perform, perform_block, perform_items, step_of_for}
use Rattle.bc_tame.specs.Tame.{AnyWord, VectorOf, Between, Knows, bounds_of, Env, Exits, in_a_loop, in_list, in_switch, no_exits, is_cell, can_write, tame_exp, tame_command, tame_filling, tame_block, tame_items, and_also, and_declared, counted, if_bounds, held_between, has_no_entry, learned, indexed_by, filled}
use Rattle.bc_tame.proofs.Fine.{Sets, Fixed, Readable, Shape, Runs, refines_same, runs_refined, fixed_stays, anything, IsWord, runs_done, runs_ends, runs_then, runs_less, runs_choose, runs_turn, runs_with_cells, both_true, at_most_true, less_true}
use Rattle.bc_tame.proofs.Frames.{Around}
use Rattle.bc_tame.proofs.Expressions.{Sound, runs_sense}
use Rattle.bc_tame.proofs.Shapes.{set_at, live_at, kind_here, kind_there, live_here, live_there, around_also, around_kind, runs_to_frame, runs_declare}
use Rattle.bc_tame.proofs.Assignments.{Learns, learns_assign, Fills, GoesOn, ways, either_block, block_ways}
use Rattle.bc_tame.proofs.Loops.{Allowed, runs_while, runs_repeat, runs_repeat_while, runs_for, runs_listed, runs_switched, outside}
use Rattle.bc_tame.proofs.Lists.{Step, past_allowed, step_of, runs_in_list}
use Rattle.bc_tame.proofs.Filling.{InFor, in_for, counts, bounds_pass, leaves_loop, runs_counted, list_past_only, Assigns, indexed_is, fill_runs, until_later, until_now, passes_filling, filling_plain, learns_filling}

-- a FOR whose variable isn't known
runs_for_plain : (E : Env) (γ : Shape) (C : Context) (R : Knows) (p s : ℕ) (σ : Shape) (J : Exits) (start limit : Exp) (by : ℕ) (b : Block) → Sound E γ C → Around E C.place γ R p s σ → s + 2 ≤ E.size → nat_lt by 65536 ≡ true
    → tame_exp E R start (s + 2) ≡ true → tame_exp E (and_also s AnyWord R) limit (s + 2) ≡ true
    → ((τ : Shape) → Around E C.place γ (and_also s AnyWord R) p (s + 2) τ → Runs τ (Allowed (in_a_loop J)) τ (perform_block C b p (s + 2)))
    → Runs σ (Allowed J) σ (perform C (commands.For start limit by b) p s)
runs_for_plain E γ C R p s σ J start limit by b sound h fits word ok_start ok_limit bodies =
    runs_with_cells σ σ L (set_at (p + s) L) (Allowed J) 1 (p + s) _ f.room (live_there 1 (p + s) σ) (live_here 1 (p + s) σ)
    (λ x out. kind_there Sets (p + s) L x (outside (p + s) x out) ∙ live_there 1 (p + s) σ x out) f.gone
    (runs_for J L (set_at (p + s) L) by _ _ _ _ _
    (runs_to_frame E γ C R p (s + 2) L (set_at (p + s) L) sound f.around start s ok_start (rw f.live tt) f.low (kind_here Sets (p + s) L) (λ x ne. kind_there Sets (p + s) L x ne))
    (runs_sense E γ C (and_also s AnyWord R) p (s + 2) _ sound t limit ok_limit).0
    (runs_sense E γ C (and_also s AnyWord R) p (s + 2) _ sound t (Load (Frame s)) read).0
    (runs_to_frame E γ C (and_also s AnyWord R) p (s + 2) (set_at (p + s) L) (set_at (p + s) L) sound t (step_of_for by s) s sum (rw (kind_here Sets (p + s) L) tt) f.low (kind_here Sets (p + s) L) (λ x ne. refl))
    (bodies (set_at (p + s) L) t)) where
      f : InFor E γ C R p s σ
      f = in_for E γ C R p s σ h fits

      L : Shape
      L = live_at 1 (p + s) σ

      t : Around E C.place γ (and_also s AnyWord R) p (s + 2) (set_at (p + s) L)
      t = around_also E C.place γ R p (s + 2) s AnyWord (set_at (p + s) L) (kind_here Sets (p + s) L, f.low) (around_kind E C.place γ R p (s + 2) s Sets L f.around (λ r. subst Readable f.live r) f.fresh (omega arith))

      here : (s == s) ≡ true
      here = grind (arith, nat_tests)

      read : tame_exp E (and_also s AnyWord R) (Load (Frame s)) (s + 2) ≡ true
      read = let e = here in rw e refl

      sum : tame_exp E (and_also s AnyWord R) (step_of_for by s) (s + 2) ≡ true
      sum = let e = here in rw (e, word) refl

runs_for_either : (E : Env) (γ : Shape) (C : Context) (R : Knows) (p s : ℕ) (σ : Shape) (J : Exits) (start limit : Exp) (by : ℕ) (b : Block) → Sound E γ C → Around E C.place γ R p s σ
    → ((Q : Knows) (τ : Shape) → Around E C.place γ Q p (s + 2) τ → tame_block E Q (in_a_loop J) b (s + 2) ≡ true → Runs τ (Allowed (in_a_loop J)) τ (perform_block C b p (s + 2)))
    → tame_command E R J (commands.For start limit by b) s ≡ true → Runs σ (Allowed J) σ (perform C (commands.For start limit by b) p s)
runs_for_either E γ C R p s σ J start limit by b sound h bodies ok =
    ⊎_elim
    (λ e. let i = bounds_pass (counted (bounds_of R start) (bounds_of R limit) by) (λ i. tame_block E (and_also s (held_between i) R) (in_a_loop J) b (s + 2)) e in
    runs_counted E γ C R p s σ (Allowed (in_a_loop J)) (Allowed J) start limit by b i.0 h fits (less_true by 65536 word) (counts R start limit by i.0 i.1.0)
    (λ τ t. bodies (and_also s (held_between i.0) R) τ t i.1.1) tt (λ σ1 ρ1 τ1 rest r run x a. leaves_loop J p σ1 ρ1 τ1 rest r run x a))
    (λ e. let ok1 = both_true (tame_exp E R start (s + 2)) (tame_exp E (and_also s AnyWord R) limit (s + 2) && tame_block E (and_also s AnyWord R) (in_a_loop J) b (s + 2)) e in
    let ok2 = both_true (tame_exp E (and_also s AnyWord R) limit (s + 2)) (tame_block E (and_also s AnyWord R) (in_a_loop J) b (s + 2)) ok1.1 in
    runs_for_plain E γ C R p s σ J start limit by b sound h fits word ok1.0 ok2.0 (λ τ t. bodies (and_also s AnyWord R) τ t ok2.1))
    (either_block counts_test plain_test rest.1) where
      counts_test : Bool
      counts_test = if_bounds (counted (bounds_of R start) (bounds_of R limit) by) (λ i. tame_block E (and_also s (held_between i) R) (in_a_loop J) b (s + 2))

      plain_test : Bool
      plain_test = tame_exp E R start (s + 2) && (tame_exp E (and_also s AnyWord R) limit (s + 2) && tame_block E (and_also s AnyWord R) (in_a_loop J) b (s + 2))

      first : (nat_le (s + 2) E.size ≡ true) × ((nat_lt by 65536 && elim counts_test as (λ z. Bool) [ true ↦ true | false ↦ plain_test ]) ≡ true)
      first = both_true (nat_le (s + 2) E.size) (nat_lt by 65536 && elim counts_test as (λ z. Bool) [ true ↦ true | false ↦ plain_test ]) ok

      rest : (nat_lt by 65536 ≡ true) × (elim counts_test as (λ z. Bool) [ true ↦ true | false ↦ plain_test ] ≡ true)
      rest = both_true (nat_lt by 65536) (elim counts_test as (λ z. Bool) [ true ↦ true | false ↦ plain_test ]) first.1

      fits : s + 2 ≤ E.size
      fits = at_most_true (s + 2) E.size first.0

      word : nat_lt by 65536 ≡ true
      word = rest.0

-- a list whose first command assigns `V!I`, and one in which a later command does
assigned_now : (E : Env) (γ : Shape) (C : Context) (R : Knows) (p s : ℕ) (σ : Shape) (J : Exits) → Sound E γ C → Around E C.place γ R p s σ → ((x : Exit) → Allowed J x → x ≡ Past) → (e a : Exp) (is : Items) → has_no_entry is ≡ true
    → tame_items E R J (command (commands.Assign e a) is) s ≡ true → (k v i n least greatest : ℕ) → indexed_by v a ≡ Some k → R k ≡ VectorOf n → R v ≡ Between least greatest → least ≤ i → i ≤ greatest → σ (p + v) ≡ Fixed i
    → ((Q : Knows) (τ : Shape) → Around E C.place γ Q p s τ → tame_items E Q J is s ≡ true → Runs τ (Allowed J) τ (perform_items C is p s Beginning))
    → Runs σ (λ x. x ≡ Past) (set_at (p + (k + 1 + i)) σ) (perform_items C (command (commands.Assign e a) is) p s Beginning)
assigned_now E γ C R p s σ J sound h only e a is once ok k v i n least greatest here ek ev ge le fixed next = by (ways E R J (commands.Assign e a) is s ok) where
  by : Fills E R J (commands.Assign e a) is s ⊎ GoesOn E R J (commands.Assign e a) is s → Runs σ (λ x. x ≡ Past) (set_at (p + (k + 1 + i)) σ) (perform_items C (command (commands.Assign e a) is) p s Beginning)
  by (inl f) = let none = f.1.0 in let z : ⊥ = cc in absurd z
  by (inr g) =
      let oks = both_true (can_write E R a) (tame_exp E R e (side_level a s)) g.0 in
      let l = fill_runs E γ C R p s σ sound h e a k v i n least greatest (indexed_is v k a here) ek ev fixed ge le oks.0 oks.1 in
      let ok1 : tame_items E (learned E R (commands.Assign e a)) J is s ≡ true = subst (λ t. tame_items E (cond t (learned E R (commands.Assign e a)) R) J is s ≡ true) once g.1 in
      until_now E γ C (learned E R (commands.Assign e a)) J p s (p + (k + 1 + i)) σ (commands.Assign e a) is only (omega arith) l (next (learned E R (commands.Assign e a)) l.learns.shape l.learns.around ok1)

assigned_later : (E : Env) (γ : Shape) (C : Context) (R : Knows) (p s : ℕ) (σ : Shape) (J : Exits) → ((x : Exit) → Allowed J x → x ≡ Past) → (c : Command) (is : Items) (k v i n least greatest : ℕ)
    → R k ≡ VectorOf n → R v ≡ Between least greatest → σ (p + v) ≡ Fixed i → Step E γ C R J p s σ c is
    → ((Q : Knows) (τ : Shape) → Around E C.place γ Q p s τ → tame_items E Q J is s ≡ true → Q k ≡ VectorOf n → Q v ≡ Between least greatest → τ (p + v) ≡ Fixed i → Runs τ (λ x. x ≡ Past) (set_at (p + (k + 1 + i)) τ) (perform_items C is p s Beginning))
    → Runs σ (λ x. x ≡ Past) (set_at (p + (k + 1 + i)) σ) (perform_items C (command c is) p s Beginning)
assigned_later E γ C R p s σ J only c is k v i n least greatest ek ev fixed st next =
    let vector : is_cell (R k) ≡ false = rw ek refl in
    let variable : is_cell (R v) ≡ false = rw ev refl in
    until_later E γ C R J p s (p + (k + 1 + i)) σ c is only st
    (next st.next st.shape st.around st.rest (st.stays k vector ∙ ek) (st.stays v variable ∙ ev) (fixed_stays p st.shape σ (p + v) i st.refines fixed))

mutual
  pub runs_perform : (E : Env) (γ : Shape) (C : Context) (R : Knows) (p s : ℕ) (σ : Shape) (J : Exits) → Sound E γ C → Around E C.place γ R p s σ → (c : Command) → tame_command E R J c s ≡ true → Runs σ (Allowed J) σ (perform C c p s)
  runs_perform E γ C R p s σ J sound h (commands.Call e) ok =
      runs_then σ σ σ IsWord (Allowed J) _ _ (runs_sense E γ C R p s σ sound h e ok).0 (λ v lv. runs_done σ (Allowed J) Past tt)
  runs_perform E γ C R p s σ J sound h (commands.Assign v a) ok =
      let oks = both_true (can_write E R a) (tame_exp E R v (side_level a s)) ok in
      let l = learns_assign E γ C R p s σ sound h v a oks.0 oks.1 in
      runs_refined p σ l.shape σ (Allowed J) _ l.refines (runs_less σ l.shape (λ x. x ≡ Past) (Allowed J) _ l.runs (past_allowed J))
  runs_perform E γ C R p s σ J sound h (commands.If sense e b) ok =
      let oks = both_true (tame_exp E R e s) (tame_block E R J b s) ok in
      runs_then σ σ σ (anything {A = Bool}) (Allowed J) _ _ (runs_sense E γ C R p s σ sound h e oks.0).1
      (λ t x. runs_choose σ σ (Allowed J) _ _ _ (runs_block E γ C R p s σ J sound h b oks.1) (runs_done σ (Allowed J) Past tt))
  runs_perform E γ C R p s σ J sound h (commands.Test e b c) ok =
      let oks = both_true (tame_exp E R e s) (tame_block E R J b s && tame_block E R J c s) ok in
      let more = both_true (tame_block E R J b s) (tame_block E R J c s) oks.1 in
      runs_then σ σ σ (anything {A = Bool}) (Allowed J) _ _ (runs_sense E γ C R p s σ sound h e oks.0).1
      (λ t x. runs_choose σ σ (Allowed J) _ _ _ (runs_block E γ C R p s σ J sound h b more.0) (runs_block E γ C R p s σ J sound h c more.1))
  runs_perform E γ C R p s σ J sound h (commands.While sense e b) ok =
      let oks = both_true (tame_exp E R e s) (tame_block E R (in_a_loop J) b s) ok in
      runs_while J σ sense _ _ (runs_sense E γ C R p s σ sound h e oks.0).1 (runs_block E γ C R p s σ (in_a_loop J) sound h b oks.1)
  runs_perform E γ C R p s σ J sound h (commands.Repeat b) ok = runs_repeat J σ _ (runs_block E γ C R p s σ (in_a_loop J) sound h b ok)
  runs_perform E γ C R p s σ J sound h (commands.RepeatWhile b sense e) ok =
      let oks = both_true (tame_exp E R e s) (tame_block E R (in_a_loop J) b s) ok in
      runs_repeat_while J σ _ sense _ (runs_block E γ C R p s σ (in_a_loop J) sound h b oks.1) (runs_sense E γ C R p s σ sound h e oks.0).1
  runs_perform E γ C R p s σ J sound h (commands.For start limit by b) ok =
      runs_for_either E γ C R p s σ J start limit by b sound h (λ Q τ t ok1. runs_block E γ C Q p (s + 2) τ (in_a_loop J) sound t b ok1) ok
  runs_perform E γ C R p s σ J sound h (commands.SwitchOn e is) ok =
      let oks = both_true (tame_exp E R e s) (tame_items E R (in_switch is J) is s) ok in
      runs_switched J is σ _ _ _ (runs_sense E γ C R p s σ sound h e oks.0).0 (λ at. runs_items E γ C R p s σ (in_switch is J) sound h is oks.1 at)
  runs_perform E γ C R p s σ J sound h commands.Break ok = runs_done σ (Allowed J) Broke ok
  runs_perform E γ C R p s σ J sound h commands.Loop ok = runs_done σ (Allowed J) Looped ok
  runs_perform E γ C R p s σ J sound h commands.EndCase ok = runs_done σ (Allowed J) LeftCases ok
  runs_perform E γ C R p s σ J sound h commands.Return ok = runs_done σ (Allowed J) Returned ok
  runs_perform E γ C R p s σ J sound h (commands.ResultIs e) ok =
      let oks = both_true J.in_valof (tame_exp E R e s) ok in
      runs_then σ σ σ IsWord (Allowed J) _ _ (runs_sense E γ C R p s σ sound h e oks.1).0 (λ v lv. runs_done σ (Allowed J) (Resulted v) (oks.0, lv))
  runs_perform E γ C R p s σ J sound h commands.Finish ok = runs_ends Exit σ σ (Allowed J) Finished
  runs_perform E γ C R p s σ J sound h (commands.Goto l) ok = runs_turn σ σ (Allowed J) _ (runs_done σ (Allowed J) (Jumped l) ok)
  runs_perform E γ C R p s σ J sound h (commands.Nested b) ok = runs_block E γ C R p s σ J sound h b ok

  pub runs_block : (E : Env) (γ : Shape) (C : Context) (R : Knows) (p s : ℕ) (σ : Shape) (J : Exits) → Sound E γ C → Around E C.place γ R p s σ → (b : Block) → tame_block E R J b s ≡ true → Runs σ (Allowed J) σ (perform_block C b p s)
  runs_block E γ C R p s σ J sound h (block ds is) ok =
      let w = block_ways E R J ds is s ok in
      runs_declare E γ C w.0 R p s σ ds (Allowed J) _ sound h w.1.0
      (λ τ t. runs_listed J is τ _ Beginning (λ at. runs_items E γ C (and_declared E w.0 ds s R) p (s + cells_declared ds) τ (in_list is J) sound t is w.1.1 at))

  pub runs_items : (E : Env) (γ : Shape) (C : Context) (R : Knows) (p s : ℕ) (σ : Shape) (J : Exits) → Sound E γ C → Around E C.place γ R p s σ → (is : Items) → tame_items E R J is s ≡ true → (at : Entry) → Runs σ (Allowed J) σ (perform_items C is p s at)
  runs_items E γ C R p s σ J sound h no_item ok at = runs_done σ (Allowed J) Past tt
  runs_items E γ C R p s σ J sound h (command c is) ok at =
      runs_in_list E γ C R J p s σ c is h
      (step_of E γ C R J p s σ c is sound h (λ ok1. runs_perform E γ C R p s σ J sound h c ok1) (λ ok1. runs_filling E γ C R p s σ sound h c ok1) ok)
      (λ Q τ t ok1 at1. runs_items E γ C Q p s τ J sound t is ok1 at1) at
  runs_items E γ C R p s σ J sound h (case k is) ok at = runs_items E γ C R p s σ J sound h is ok (met (meets_case k at) at)
  runs_items E γ C R p s σ J sound h (default is) ok at = runs_items E γ C R p s σ J sound h is ok (met (meets_default at) at)
  runs_items E γ C R p s σ J sound h (label l is) ok at = runs_items E γ C R p s σ J sound h is ok (met (meets_label l at) at)

  runs_filling : (E : Env) (γ : Shape) (C : Context) (R : Knows) (p s : ℕ) (σ : Shape) → Sound E γ C → Around E C.place γ R p s σ → (c : Command) → tame_filling E R c s ≡ true → Learns E γ C (filled R c s) p s σ (perform C c p s)
  runs_filling E γ C R p s σ sound h (commands.For start limit by (block [] is)) ok =
      learns_filling E γ C R p s σ start limit by is h (λ Q τ t ok1. runs_block E γ C Q p (s + 2) τ no_exits sound t (block [] is) ok1)
      (λ Q τ t once ok1 k i n least greatest assigns ek ev ge le fixed. runs_until E γ C Q p (s + 2 + 0) τ (in_list is no_exits) sound t (list_past_only is once) is once ok1 k s i n least greatest assigns ek ev ge le fixed) ok
  runs_filling E γ C R p s σ sound h (commands.For start limit by (block (vs ∷ ds) is)) ok =
      record {
        shape = σ;
        runs = filling_plain E γ C R p s σ start limit by (block (vs ∷ ds) is) h (λ Q τ t ok1. runs_block E γ C Q p (s + 2) τ no_exits sound t (block (vs ∷ ds) is) ok1) (passes_filling E R start limit by (block (vs ∷ ds) is) s ok);
        around = h;
        refines = refines_same p σ;
      }
  runs_filling E γ C R p s σ sound h _ ok = let z : ⊥ = cc in absurd z

  -- a list that is done once, up to its end, and assigns `V!I`
  runs_until : (E : Env) (γ : Shape) (C : Context) (R : Knows) (p s : ℕ) (σ : Shape) (J : Exits) → Sound E γ C → Around E C.place γ R p s σ → ((x : Exit) → Allowed J x → x ≡ Past) → (is : Items) → has_no_entry is ≡ true → tame_items E R J is s ≡ true
      → (k v i n least greatest : ℕ) → Assigns v k is → R k ≡ VectorOf n → R v ≡ Between least greatest → least ≤ i → i ≤ greatest → σ (p + v) ≡ Fixed i
      → Runs σ (λ x. x ≡ Past) (set_at (p + (k + 1 + i)) σ) (perform_items C is p s Beginning)
  runs_until E γ C R p s σ J sound h only no_item once ok k v i n least greatest assigns ek ev ge le fixed = absurd assigns
  runs_until E γ C R p s σ J sound h only (command (commands.Assign e a) is) once ok k v i n least greatest (inl here) ek ev ge le fixed =
      assigned_now E γ C R p s σ J sound h only e a is once ok k v i n least greatest here ek ev ge le fixed (λ Q τ t ok1. runs_items E γ C Q p s τ J sound t is ok1 Beginning)
  runs_until E γ C R p s σ J sound h only (command (commands.Assign e a) is) once ok k v i n least greatest (inr later) ek ev ge le fixed =
      assigned_later E γ C R p s σ J only (commands.Assign e a) is k v i n least greatest ek ev fixed
      (step_of E γ C R J p s σ (commands.Assign e a) is sound h (λ ok1. runs_perform E γ C R p s σ J sound h (commands.Assign e a) ok1) (λ ok1. runs_filling E γ C R p s σ sound h (commands.Assign e a) ok1) ok)
      (λ Q τ t ok1 ek1 ev1 fixed1. runs_until E γ C Q p s τ J sound t only is once ok1 k v i n least greatest later ek1 ev1 ge le fixed1)
  runs_until E γ C R p s σ J sound h only (command c is) once ok k v i n least greatest assigns ek ev ge le fixed =
      assigned_later E γ C R p s σ J only c is k v i n least greatest ek ev fixed
      (step_of E γ C R J p s σ c is sound h (λ ok1. runs_perform E γ C R p s σ J sound h c ok1) (λ ok1. runs_filling E γ C R p s σ sound h c ok1) ok)
      (λ Q τ t ok1 ek1 ev1 fixed1. runs_until E γ C Q p s τ J sound t only is once ok1 k v i n least greatest assigns ek1 ev1 ge le fixed1)
  runs_until E γ C R p s σ J sound h only _ once ok k v i n least greatest assigns ek ev ge le fixed = absurd assigns
