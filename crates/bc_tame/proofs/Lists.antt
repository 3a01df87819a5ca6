-- The commands of a list: what one of them leads to, and what the rest of the list then knows.
use Rattle.std.proofs.Common.{◌≡◌, ◌⊎◌, inl, inr, ℕ, [], Bool, true, false, Option, Some, None, refl, ap, ◌∙◌, subst}
use Rattle.std.specs.Prelude.{cond}
use Rattle.bc_core.specs.Commands.{Command, Block, block, Items, no_item, command, case, default, label}
use Rattle.bc_core.specs.Commands as commands
use Rattle.bc_core.specs.Level.{side_level}
use Rattle.bc_core.specs.Value.{Context}
use Rattle.bc_core.specs.Exit.{Exit, Past}
use Rattle.bc_core.specs.Lists.{Entry, Beginning, AtCase, AtDefault, AtLabel, from_entry}
use Rattle.bc_core.specs.Command.{perform, perform_items}
use Rattle.bc_tame.specs.Tame.{Held, Knows, Bounds, bounds_of, Env, Exits, is_cell, can_write, tame_exp, tame_command, tame_filling, tame_items, has_no_entry, and_where, are_assignments, learned_all, learned, filled_between, filled}
use Rattle.bc_tame.proofs.Fine.{Shape, Runs, Refines, refines_same, runs_refined, runs_done, runs_then, runs_less, both_true}
use Rattle.bc_tame.proofs.Frames.{Around}
use Rattle.bc_tame.proofs.Expressions.{Sound}
use Rattle.bc_tame.proofs.Assignments.{Learns, learns_assign, learns_nested, Fills, GoesOn, ways}
use Rattle.bc_tame.proofs.Loops.{Allowed, runs_onward}

-- ---- Command lists
-- what a command of a list leads to
pub record Step (E : Env) (γ : Shape) (C : Context) (R : Knows) (J : Exits) (p s : ℕ) (σ : Shape) (c : Command) (is : Items) : Type 0 where
  pub next : Knows
  pub rest : tame_items E next J is s ≡ true
  pub stays : (j : ℕ) → is_cell (R j) ≡ false → next j ≡ R j
  pub shape : Shape
  pub runs : Runs σ (Allowed J) shape (perform C c p s)
  pub around : Around E C.place γ next p s shape
  pub refines : Refines p shape σ
  pub skips : (has_no_entry is ≡ true) ⊎ (shape ≡ σ)

pub where_stays : (test : ℕ → Bool) (x : Held) (R : Knows) (j : ℕ) → is_cell (R j) ≡ false → and_where test x R j ≡ R j
where_stays test x R j e = rw e refl

pub learned_all_stays : (E : Env) (R : Knows) (is : Items) (j : ℕ) → is_cell (R j) ≡ false → learned_all E R is j ≡ R j
learned_all_stays E R (command (commands.Assign v a) is) j e =
    let first : learned E R (commands.Assign v a) j ≡ R j = rw e refl in
    learned_all_stays E (learned E R (commands.Assign v a)) is j (ap is_cell first ∙ e) ∙ first
learned_all_stays E R _ j e = refl

pub learned_stays : (E : Env) (R : Knows) (c : Command) (j : ℕ) → is_cell (R j) ≡ false → learned E R c j ≡ R j
learned_stays E R (commands.Assign v a) j e = rw e refl
learned_stays E R (commands.Nested (block [] is)) j e = by (are_assignments is) where
  by : (t : Bool) → cond t (learned_all E R is) R j ≡ R j
  by true = learned_all_stays E R is j e
  by false = refl
learned_stays E R _ j e = refl

pub filled_stays : (R : Knows) (c : Command) (s j : ℕ) → is_cell (R j) ≡ false → filled R c s j ≡ R j
filled_stays R (commands.For start limit by (block [] is)) s j e = of_test (has_no_entry is) (bounds_of R start) (bounds_of R limit) where
  of_test : (t : Bool) (o q : Option Bounds) → cond t (filled_between R s is o q) R j ≡ R j
  of_test false o q = refl
  of_test true (Some a) (Some z) = rw e refl
  of_test true None q = refl
  of_test true (Some a) None = refl
filled_stays R _ s j e = refl

pub past_allowed : (J : Exits) (x : Exit) → x ≡ Past → Allowed J x
past_allowed J x e = rw e tt

pub step_learns : (E : Env) (γ : Shape) (C : Context) (R Q : Knows) (J : Exits) (p s : ℕ) (σ : Shape) (c : Command) (is : Items) → has_no_entry is ≡ true → Learns E γ C Q p s σ (perform C c p s)
    → tame_items E Q J is s ≡ true → ((j : ℕ) → is_cell (R j) ≡ false → Q j ≡ R j) → Step E γ C R J p s σ c is
step_learns E γ C R Q J p s σ c is once l ok stays = record {
  next = Q;
  rest = ok;
  stays = stays;
  shape = l.shape;
  runs = runs_less σ l.shape (λ x. x ≡ Past) (Allowed J) _ l.runs (past_allowed J);
  around = l.around;
  refines = l.refines;
  skips = inl once;
}

pub step_plain : (E : Env) (γ : Shape) (C : Context) (R : Knows) (J : Exits) (p s : ℕ) (σ : Shape) (c : Command) (is : Items) → Around E C.place γ R p s σ → Runs σ (Allowed J) σ (perform C c p s)
    → tame_items E R J is s ≡ true → Step E γ C R J p s σ c is
step_plain E γ C R J p s σ c is h run ok = record {
  next = R;
  rest = ok;
  stays = λ j e. refl;
  shape = σ;
  runs = run;
  around = h;
  refines = refines_same p σ;
  skips = inr refl;
}

-- the command has passed, and `go` and `fill` run it
pub step_of : (E : Env) (γ : Shape) (C : Context) (R : Knows) (J : Exits) (p s : ℕ) (σ : Shape) (c : Command) (is : Items) → Sound E γ C → Around E C.place γ R p s σ
    → (tame_command E R J c s ≡ true → Runs σ (Allowed J) σ (perform C c p s)) → (tame_filling E R c s ≡ true → Learns E γ C (filled R c s) p s σ (perform C c p s))
    → tame_items E R J (command c is) s ≡ true → Step E γ C R J p s σ c is
step_of E γ C R J p s σ c is sound h go fill ok = by (ways E R J c is s ok) where
  learning : (c : Command) → (tame_command E R J c s ≡ true → Runs σ (Allowed J) σ (perform C c p s)) → has_no_entry is ≡ true → tame_command E R J c s ≡ true → tame_items E (learned E R c) J is s ≡ true → Step E γ C R J p s σ c is
  learning (commands.Assign v a) go once ok1 rest =
      let oks = both_true (can_write E R a) (tame_exp E R v (side_level a s)) ok1 in
      step_learns E γ C R (learned E R (commands.Assign v a)) J p s σ (commands.Assign v a) is once (learns_assign E γ C R p s σ sound h v a oks.0 oks.1) rest (learned_stays E R (commands.Assign v a))
  learning (commands.Nested (block [] js)) go once ok1 rest = of_test (are_assignments js) refl rest where
    of_test : (t : Bool) → are_assignments js ≡ t → tame_items E (cond t (learned_all E R js) R) J is s ≡ true → Step E γ C R J p s σ (commands.Nested (block [] js)) is
    of_test true all rest1 = step_learns E γ C R (learned_all E R js) J p s σ (commands.Nested (block [] js)) is once (learns_nested E γ C R p s σ J sound h js all ok1) rest1 (learned_all_stays E R js)
    of_test false all rest1 = step_plain E γ C R J p s σ (commands.Nested (block [] js)) is h (go ok1) rest1
  learning c go once ok1 rest = step_plain E γ C R J p s σ c is h (go ok1) rest

  going : (t : Bool) → has_no_entry is ≡ t → tame_command E R J c s ≡ true → tame_items E (cond t (learned E R c) R) J is s ≡ true → Step E γ C R J p s σ c is
  going true once ok1 rest = learning c go once ok1 rest
  going false once ok1 rest = step_plain E γ C R J p s σ c is h (go ok1) rest

  by : Fills E R J c is s ⊎ GoesOn E R J c is s → Step E γ C R J p s σ c is
  by (inl f) = step_learns E γ C R (filled R c s) J p s σ c is f.0 (fill f.1.0) f.1.1 (filled_stays R c s)
  by (inr g) = going (has_no_entry is) refl g.0 g.1

-- a list that isn't entered does nothing
abbrev pub Later : Entry → Type 0
Later Beginning = ⊥
Later _ = Unit {0}

pub runs_skipped : (C : Context) (J : Exits) (σ : Shape) (p s : ℕ) (is : Items) (at : Entry) → has_no_entry is ≡ true → Later at → Runs σ (Allowed J) σ (perform_items C is p s at)
runs_skipped C J σ p s no_item at once later = runs_done σ (Allowed J) Past tt
runs_skipped C J σ p s (command c is) at once later =
    runs_then σ σ σ (Allowed J) (Allowed J) _ _ (passed at later) (λ x a. runs_onward J σ _ x (runs_skipped C J σ p s is at once later) a) where
      passed : (at : Entry) → Later at → Runs σ (Allowed J) σ (from_entry at (perform C c p s))
      passed Beginning l = absurd l
      passed (AtCase v) l = runs_done σ (Allowed J) Past tt
      passed AtDefault l = runs_done σ (Allowed J) Past tt
      passed (AtLabel v) l = runs_done σ (Allowed J) Past tt
runs_skipped C J σ p s (case k is) at once later = let z : ⊥ = cc in absurd z
runs_skipped C J σ p s (default is) at once later = let z : ⊥ = cc in absurd z
runs_skipped C J σ p s (label l is) at once later = let z : ⊥ = cc in absurd z

-- a command, and the rest of its list, given what runs it
pub runs_in_list : (E : Env) (γ : Shape) (C : Context) (R : Knows) (J : Exits) (p s : ℕ) (σ : Shape) (c : Command) (is : Items) → Around E C.place γ R p s σ → Step E γ C R J p s σ c is
    → ((Q : Knows) (τ : Shape) → Around E C.place γ Q p s τ → tame_items E Q J is s ≡ true → (at : Entry) → Runs τ (Allowed J) τ (perform_items C is p s at))
    → (at : Entry) → Runs σ (Allowed J) σ (perform_items C (command c is) p s at)
runs_in_list E γ C R J p s σ c is h st next Beginning =
    runs_then σ st.shape σ (Allowed J) (Allowed J) _ _ st.runs (λ x a. runs_refined p st.shape st.shape σ (Allowed J) _ st.refines (runs_onward J st.shape _ x (next st.next st.shape st.around st.rest Beginning) a))
runs_in_list E γ C R J p s σ c is h st next (AtCase v) = runs_then σ σ σ (Allowed J) (Allowed J) _ _ (runs_done σ (Allowed J) Past tt) (λ x a. runs_onward J σ _ x (later st.skips) a) where
  later : (has_no_entry is ≡ true) ⊎ (st.shape ≡ σ) → Runs σ (Allowed J) σ (perform_items C is p s (AtCase v))
  later (inl once) = runs_skipped C J σ p s is (AtCase v) once tt
  later (inr e) = next st.next σ (subst (λ z. Around E C.place γ st.next p s z) e st.around) st.rest (AtCase v)
runs_in_list E γ C R J p s σ c is h st next AtDefault = runs_then σ σ σ (Allowed J) (Allowed J) _ _ (runs_done σ (Allowed J) Past tt) (λ x a. runs_onward J σ _ x (later st.skips) a) where
  later : (has_no_entry is ≡ true) ⊎ (st.shape ≡ σ) → Runs σ (Allowed J) σ (perform_items C is p s AtDefault)
  later (inl once) = runs_skipped C J σ p s is AtDefault once tt
  later (inr e) = next st.next σ (subst (λ z. Around E C.place γ st.next p s z) e st.around) st.rest AtDefault
runs_in_list E γ C R J p s σ c is h st next (AtLabel l) = runs_then σ σ σ (Allowed J) (Allowed J) _ _ (runs_done σ (Allowed J) Past tt) (λ x a. runs_onward J σ _ x (later st.skips) a) where
  later : (has_no_entry is ≡ true) ⊎ (st.shape ≡ σ) → Runs σ (Allowed J) σ (perform_items C is p s (AtLabel l))
  later (inl once) = runs_skipped C J σ p s is (AtLabel l) once tt
  later (inr e) = next st.next σ (subst (λ z. Around E C.place γ st.next p s z) e st.around) st.rest (AtLabel l)
