-- Assignments, and what is known of the frame after them.
use Rattle.std.proofs.Common.{◌≡◌, ◌≢◌, ◌⊎◌, inl, inr, ⊎_elim, ℕ, ◌+◌, ◌-◌, ◌<◌, ◌≤◌, ◌%◌, ◌==◌, ◌||◌, ◌&&◌, List, [], Bool, true, false, Option, Some, None, refl, sym, ap, ◌∙◌, subst, arith}
use Rattle.std.specs.Prelude.{nat_lt, not, cond}
use Rattle.bc_core.specs.Tree.{Exp, Num, Frame, Glob, Place, Load, Neg, Not, Bin, Cond, Call, Valof}
use Rattle.bc_core.specs.Commands.{Variable, Command, block, Items, no_item, command}
use Rattle.bc_core.specs.Commands as commands
use Rattle.bc_core.specs.Level.{side_level, cells_declared}
use Rattle.bc_core.specs.Store.{Set}
use Rattle.bc_core.specs.Outcome.{Run, Leave, then_do}
use Rattle.bc_core.specs.Value.{Context, sense}
use Rattle.bc_core.specs.Exit.{Exit, Past, past}
use Rattle.bc_core.specs.Lists.{Entry, Beginning, after_list, listed, has_label}
use Rattle.bc_core.specs.Command.{perform, perform_items}
use Rattle.bc_tame.specs.Tame.{Held, Nothing, ACell, AnyWord, StringAt, VectorOf, TableAt, Between, Knows, Bounds, Env, Exits, in_list, is_text, note_of_place, is_cell, is_cell_or_word, is_only, offsets_at, all_cells, all_between, is_in_table, can_write, tame_exp, held_after, has_no_entry, are_assignments, learned_all, learned, filled, and_declared, tame_declarations, tame_command, tame_filling, tame_items, tame_block}
use Rattle.bc_tame.proofs.Fine.{Kind, Sets, Fixed, Fits, Readable, Writable, writable_alive, Shape, Runs, OfRound, Refines, refines_same, refines_both, anything, IsWord, runs_done, runs_then, runs_less, runs_once, both_true, same_true, less_true, differ}
use Rattle.bc_tame.proofs.Frames.{HoldsAt, Around, grounded, higher}
use Rattle.bc_tame.proofs.Indices.{AtOffset, at_offsets, at_words, between_at}
use Rattle.bc_tame.proofs.Expressions.{Sound, runs_sense}
use Rattle.bc_tame.proofs.Shapes.{kind_at, kind_here, kind_there, side_above, runs_to_cell, runs_kept, cell_or_word, a_word}

-- a command that goes past, after which the frame holds R
pub record Learns (E : Env) (γ : Shape) (C : Context) (R : Knows) (p s : ℕ) (σ : Shape) (r : Run Exit) : Type 0 where
  pub shape : Shape
  pub runs : Runs σ (λ x. x ≡ Past) shape r
  pub around : Around E C.place γ R p s shape
  pub refines : Refines p shape σ

pub around_as : (E : Env) (place : ℕ → ℕ) (γ : Shape) (R Q : Knows) (p s : ℕ) (σ τ : Shape) → Refines p τ σ → ((j : ℕ) → HoldsAt E.text place (τ (p + j)) (p + j) (Q j)) → Around E place γ R p s σ → Around E place γ Q p s τ
around_as E place γ R Q p s σ τ r holds h = record {
  ground = h.ground;
  keeps = record { keeps = λ a g. ⊎_elim (λ e. e ∙ h.keeps.keeps a g) (λ c. absurd (h.none a c.0 g)) (r.refines a) };
  none = h.none;
  holds = holds;
  gone = λ a up. ⊎_elim (λ e. e ∙ h.gone a up) (λ c. absurd (subst Writable (h.gone a up) c.1.0)) (r.refines a);
  room = h.room;
}

pub around_same : (E : Env) (place : ℕ → ℕ) (γ : Shape) (R Q : Knows) (p s : ℕ) (σ : Shape) → ((j : ℕ) → Q j ≡ R j) → Around E place γ R p s σ → Around E place γ Q p s σ
around_same E place γ R Q p s σ same h = around_as E place γ R Q p s σ σ (refines_same p σ) (λ j. subst (λ x. HoldsAt E.text place (σ (p + j)) (p + j) x) (sym (same j)) (h.holds j)) h

-- one more cell is set
pub refines_kind : (p j : ℕ) (k : Kind) (σ : Shape) → Writable (σ (p + j)) → Readable k → Refines p (kind_at k (p + j) σ) σ
refines_kind p j k σ w r = record {
  refines = λ a. ⊎_elim (λ ne. inl (kind_there k (p + j) σ a ne))
      (λ e. inr (omega (arith, e), (subst (λ z. Writable (σ z)) (sym e) w, subst (λ z. Readable (kind_at k (p + j) σ z)) (sym e) (subst Readable (sym (kind_here k (p + j) σ)) r))))
      (differ a (p + j));
}

-- what a cell holds once this value is stored in it
record Stored (E : Env) (C : Context) (p t : ℕ) (σ : Shape) (e : Exp) (x : Held) : Type 0 where
  kind : Kind
  readable : Readable kind
  runs : Runs σ (λ v. Fits kind (Set v)) σ (sense C e p t).value
  holds : (a : ℕ) → a < 65536 → HoldsAt E.text C.place kind a x

stored_word : (E : Env) (γ : Shape) (C : Context) (R : Knows) (p t : ℕ) (σ : Shape) → Sound E γ C → Around E C.place γ R p t σ → (e : Exp) → tame_exp E R e t ≡ true → Stored E C p t σ e AnyWord
stored_word E γ C R p t σ sound h e ok =
    record { kind = Sets; readable = tt; runs = runs_less σ σ IsWord (λ v. Fits Sets (Set v)) _ (runs_sense E γ C R p t σ sound h e ok).0 (λ v lt. lt); holds = λ a lt. (refl, lt) }

stored_after : (E : Env) (γ : Shape) (C : Context) (R : Knows) (p t : ℕ) (σ : Shape) → Sound E γ C → Around E C.place γ R p t σ → (e : Exp) → tame_exp E R e t ≡ true → Stored E C p t σ e (held_after E.text e)
stored_after E γ C R p t σ sound h (Place m) ok = by (E.text m) refl where
  by : (o : Option (List ℕ)) → E.text m ≡ o → Stored E C p t σ (Place m) (cond (is_text (note_of_place o)) (StringAt m) AnyWord)
  by None e = stored_word E γ C R p t σ sound h (Place m) ok
  by (Some bytes) e = record {
    kind = Fixed (C.place m);
    readable = tt;
    runs = runs_done σ (λ v. Fits (Fixed (C.place m)) (Set v)) (C.place m) (refl, sound.place m ok);
    holds = λ a lt. (refl, (lt, (bytes, e)));
  }
stored_after E γ C R p t σ sound h e ok = stored_word E γ C R p t σ sound h e ok

pub holds_set : (text : ℕ → Option (List ℕ)) (place : ℕ → ℕ) (a : ℕ) (x : Held) → is_cell_or_word x ≡ true → a < 65536 → HoldsAt text place Sets a x
holds_set text place a Nothing ok lt = tt
holds_set text place a ACell ok lt = (tt, lt)
holds_set text place a AnyWord ok lt = (refl, lt)
holds_set text place a (StringAt m) ok lt = let z : ⊥ = cc in absurd z
holds_set text place a (VectorOf n) ok lt = let z : ⊥ = cc in absurd z
holds_set text place a (TableAt m) ok lt = let z : ⊥ = cc in absurd z
holds_set text place a (Between least greatest) ok lt = let z : ⊥ = cc in absurd z

pub not_where : (t : Bool) (x y : Held) → cond (t && false) x y ≡ y
not_where true x y = refl
not_where false x y = refl

only_at : (b : Bounds) (j : ℕ) → is_only (Some b) j ≡ true → (b.least ≡ j) × (b.greatest ≡ j)
only_at b j e = let k = both_true (b.least == j) (b.greatest == j) e in (same_true b.least j k.0, same_true b.greatest j k.1)

not_only : (b : Bounds) (i j : ℕ) → b.least ≤ i → i ≤ b.greatest → j ≢ i → is_only (Some b) j ≡ false
not_only b i j low high ne = by (is_only (Some b) j) refl where
  by : (t : Bool) → is_only (Some b) j ≡ t → t ≡ false
  by false e = refl
  by true e = let k = only_at b j e in absurd (ne (omega (arith, low, high, k.0, k.1)))

-- an assignment to a cell of a vector; it is set afterwards
pub record LearnsAt (E : Env) (γ : Shape) (C : Context) (R : Knows) (p s a : ℕ) (σ : Shape) (r : Run Exit) : Type 0 where
  pub learns : Learns E γ C R p s σ r
  pub is_set : Readable (learns.shape a)

pub learns_at : (E : Env) (γ : Shape) (C : Context) (R : Knows) (p s : ℕ) (σ : Shape) → Sound E γ C → Around E C.place γ R p s σ → (e a : Exp) (b : Bounds) → offsets_at R a ≡ Some b
    → all_between is_cell_or_word R (Some b) ≡ true → tame_exp E R e (side_level a s) ≡ true → (i : AtOffset C p (side_level a s) σ a b)
    → LearnsAt E γ C (learned E R (commands.Assign e a)) p s (p + i.offset) σ (perform C (commands.Assign e a) p s)
learns_at E γ C R p s σ sound h e a b is ok ok1 i = by (is_cell (R i.offset) && is_only (Some b) i.offset) refl where
  test : is_cell_or_word (R i.offset) ≡ true
  test = between_at is_cell_or_word R b ok i.offset i.low i.high

  can : Writable (σ (p + i.offset)) × (p + i.offset < 65536)
  can = cell_or_word E.text C.place (σ (p + i.offset)) (p + i.offset) (R i.offset) test (h.holds i.offset)

  address : Runs σ (λ v. v ≡ p + i.offset) σ (sense C a p (side_level a s)).value
  address = let whole : (p + i.offset) % 65536 ≡ p + i.offset = omega (arith, can.1) in subst (λ w. Runs σ (λ v. v ≡ w) σ (sense C a p (side_level a s)).value) whole i.runs

  stores : (x : Held) (st : Stored E C p (side_level a s) σ e x) → Runs σ (λ x. x ≡ Past) (kind_at st.kind (p + i.offset) σ) (perform C (commands.Assign e a) p s)
  stores x st =
      let τ : Shape = kind_at st.kind (p + i.offset) σ in
      runs_then σ τ τ (anything {A = Unit {0}}) (λ x. x ≡ Past) _ past
      (runs_to_cell (λ v. Fits st.kind (Set v)) st.kind C p s (p + i.offset) σ τ e a st.runs (λ v f. f) address (writable_alive (σ (p + i.offset)) can.0) (kind_here st.kind (p + i.offset) σ) (λ c ne. kind_there st.kind (p + i.offset) σ c ne))
      (λ u y. runs_done τ (λ x. x ≡ Past) Past refl)

  up : Around E C.place γ R p (side_level a s) σ
  up = higher E C.place γ R p s (side_level a s) σ (side_above a s) h

  result : (x : Held) (st : Stored E C p (side_level a s) σ e x) → ((j : ℕ) → HoldsAt E.text C.place (kind_at st.kind (p + i.offset) σ (p + j)) (p + j) (cond (is_cell (R j) && is_only (Some b) j) (held_after E.text e) (R j)))
      → LearnsAt E γ C (learned E R (commands.Assign e a)) p s (p + i.offset) σ (perform C (commands.Assign e a) p s)
  result x st holds =
      let τ : Shape = kind_at st.kind (p + i.offset) σ in
      let r = refines_kind p i.offset st.kind σ can.0 st.readable in
      record {
        learns = record {
          shape = τ;
          runs = stores x st;
          around = around_as E C.place γ R (learned E R (commands.Assign e a)) p s σ τ r
              (subst (λ o. (j : ℕ) → HoldsAt E.text C.place (kind_at st.kind (p + i.offset) σ (p + j)) (p + j) (cond (is_cell (R j) && is_only o j) (held_after E.text e) (R j))) (sym is) holds) h;
          refines = r;
        };
        is_set = subst Readable (sym (kind_here st.kind (p + i.offset) σ)) st.readable;
      }

  elsewhere : (k : Kind) (j : ℕ) → j ≢ i.offset → HoldsAt E.text C.place (kind_at k (p + i.offset) σ (p + j)) (p + j) (cond (is_cell (R j) && is_only (Some b) j) (held_after E.text e) (R j))
  elsewhere k j ne =
      let other : is_only (Some b) j ≡ false = not_only b i.offset j i.low i.high ne in
      let same : kind_at k (p + i.offset) σ (p + j) ≡ σ (p + j) = kind_there k (p + i.offset) σ (p + j) (λ e1. ne (omega (arith, e1))) in
      let held : cond (is_cell (R j) && is_only (Some b) j) (held_after E.text e) (R j) ≡ R j = ap (λ t. cond (is_cell (R j) && t) (held_after E.text e) (R j)) other ∙ not_where (is_cell (R j)) (held_after E.text e) (R j) in
      subst (λ x. HoldsAt E.text C.place (kind_at k (p + i.offset) σ (p + j)) (p + j) x) (sym held) (subst (λ z. HoldsAt E.text C.place z (p + j) (R j)) (sym same) (h.holds j))

  by : (t : Bool) → (is_cell (R i.offset) && is_only (Some b) i.offset) ≡ t → LearnsAt E γ C (learned E R (commands.Assign e a)) p s (p + i.offset) σ (perform C (commands.Assign e a) p s)
  by true et =
      let st = stored_after E γ C R p (side_level a s) σ sound up e ok1 in
      result (held_after E.text e) st (λ j. ⊎_elim (λ ne. elsewhere st.kind j ne)
      (λ here. subst (λ z. HoldsAt E.text C.place (kind_at st.kind (p + i.offset) σ (p + z)) (p + z) (cond (is_cell (R z) && is_only (Some b) z) (held_after E.text e) (R z))) (sym here)
      (subst (λ t. HoldsAt E.text C.place (kind_at st.kind (p + i.offset) σ (p + i.offset)) (p + i.offset) (cond t (held_after E.text e) (R i.offset))) (sym et)
      (subst (λ k. HoldsAt E.text C.place k (p + i.offset) (held_after E.text e)) (sym (kind_here st.kind (p + i.offset) σ)) (st.holds (p + i.offset) can.1)))) (differ j i.offset))
  by false et =
      let st : Stored E C p (side_level a s) σ e AnyWord = record { kind = Sets; readable = tt; runs = runs_less σ σ IsWord (λ v. Fits Sets (Set v)) _ (runs_sense E γ C R p (side_level a s) σ sound up e ok1).0 (λ v lt. lt); holds = λ a lt. (refl, lt) } in
      result AnyWord st (λ j. ⊎_elim (λ ne. elsewhere Sets j ne)
      (λ here. subst (λ z. HoldsAt E.text C.place (kind_at Sets (p + i.offset) σ (p + z)) (p + z) (cond (is_cell (R z) && is_only (Some b) z) (held_after E.text e) (R z))) (sym here)
      (subst (λ t. HoldsAt E.text C.place (kind_at Sets (p + i.offset) σ (p + i.offset)) (p + i.offset) (cond t (held_after E.text e) (R i.offset))) (sym et)
      (subst (λ k. HoldsAt E.text C.place k (p + i.offset) (R i.offset)) (sym (kind_here Sets (p + i.offset) σ)) (holds_set E.text C.place (p + i.offset) (R i.offset) test can.1)))) (differ j i.offset))

-- the assignments that set no cell of a vector for the rest of the list
learns_kept : (E : Env) (γ : Shape) (C : Context) (R : Knows) (p s w : ℕ) (σ : Shape) → Sound E γ C → Around E C.place γ R p s σ → (e a : Exp) → tame_exp E R e (side_level a s) ≡ true
    → Runs σ (λ v. v ≡ w) σ (sense C a p (side_level a s)).value → σ w ≡ Sets → ((j : ℕ) → learned E R (commands.Assign e a) j ≡ R j)
    → Learns E γ C (learned E R (commands.Assign e a)) p s σ (perform C (commands.Assign e a) p s)
learns_kept E γ C R p s w σ sound h e a ok address sets same = record {
  shape = σ;
  runs = runs_then σ σ σ (anything {A = Unit {0}}) (λ x. x ≡ Past) _ past (runs_kept E γ C R p s w σ sound h e a ok address sets) (λ u y. runs_done σ (λ x. x ≡ Past) Past refl);
  around = around_same E C.place γ R (learned E R (commands.Assign e a)) p s σ same h;
  refines = refines_same p σ;
}

alone : (R : Knows) (b : Bounds) (j : ℕ) → b.least ≡ j → b.greatest ≡ j → is_cell (R j) ≡ true → all_between is_cell_or_word R (Some b) ≡ true
alone R b j low high cell =
    let one : b.greatest + 1 - b.least ≡ 1 = omega (arith, low, high) in
    subst (λ n. all_cells is_cell_or_word R n b.least ≡ true) (sym one) (subst (λ z. all_cells is_cell_or_word R 1 z ≡ true) (sym low) (rw cell refl))

learns_indexed : (E : Env) (γ : Shape) (C : Context) (R : Knows) (p s : ℕ) (σ : Shape) → Sound E γ C → Around E C.place γ R p s σ → (e a : Exp)
    → (all_between is_cell_or_word R (offsets_at R a) || is_in_table E.table R a) ≡ true → tame_exp E R e (side_level a s) ≡ true
    → Learns E γ C (learned E R (commands.Assign e a)) p s σ (perform C (commands.Assign e a) p s)
learns_indexed E γ C R p s σ sound h e a can ok = by (all_between is_cell_or_word R (offsets_at R a)) refl can where
  of_vector : (o : Option Bounds) → offsets_at R a ≡ o → all_between is_cell_or_word R o ≡ true → Learns E γ C (learned E R (commands.Assign e a)) p s σ (perform C (commands.Assign e a) p s)
  of_vector None eo ok1 = let z : ⊥ = cc in absurd z
  of_vector (Some b) eo ok1 = (learns_at E γ C R p s σ sound h e a b eo ok1 ok (at_offsets E γ C R p (side_level a s) s σ h a b eo)).learns

  same : (o : Option Bounds) → all_between is_cell_or_word R o ≡ false → (j : ℕ) (t q : Bool) → is_cell (R j) ≡ t → is_only o j ≡ q → cond (t && q) (held_after E.text e) (R j) ≡ R j
  same o none j false q et eq = refl
  same o none j true false et eq = refl
  same None none j true true et eq = let z : ⊥ = cc in absurd z
  same (Some b) none j true true et eq = let k = only_at b j eq in let some = alone R b j k.0 k.1 et in let z : ⊥ = cc in absurd z

  by : (t : Bool) → all_between is_cell_or_word R (offsets_at R a) ≡ t → (t || is_in_table E.table R a) ≡ true → Learns E γ C (learned E R (commands.Assign e a)) p s σ (perform C (commands.Assign e a) p s)
  by true et ok1 = of_vector (offsets_at R a) refl et
  by false et ok1 =
      let w = at_words E γ C R p (side_level a s) s σ h a ok1 in
      learns_kept E γ C R p s w.address σ sound h e a ok w.runs w.sets (λ j. same (offsets_at R a) et j (is_cell (R j)) (is_only (offsets_at R a) j) refl refl)

not_true : (t : Bool) → not t ≡ true → t ≡ false
not_true true z = let y : ⊥ = cc in absurd y
not_true false z = refl

pub learns_assign : (E : Env) (γ : Shape) (C : Context) (R : Knows) (p s : ℕ) (σ : Shape) → Sound E γ C → Around E C.place γ R p s σ → (e a : Exp) → can_write E R a ≡ true → tame_exp E R e (side_level a s) ≡ true
    → Learns E γ C (learned E R (commands.Assign e a)) p s σ (perform C (commands.Assign e a) p s)
learns_assign E γ C R p s σ sound h e (Frame k) can ok =
    let w = a_word E.text C.place (σ (p + k)) (p + k) (R k) can (h.holds k) in
    let whole : (p + k) % 65536 ≡ p + k = omega (arith, w.1) in
    learns_kept E γ C R p s (p + k) σ sound h e (Frame k) ok (runs_done σ (λ v. v ≡ p + k) _ whole) w.0 (λ j. not_where (is_cell (R j)) (held_after E.text e) (R j))
learns_assign E γ C R p s σ sound h e (Glob n) can ok =
    let both = both_true (nat_lt n 512) (not (E.fixed n)) can in
    let lt : n < 512 = less_true n 512 both.0 in
    let whole : (8 + n) % 65536 ≡ 8 + n = omega arith in
    learns_kept E γ C R p s (8 + n) σ sound h e (Glob n) ok (runs_done σ (λ v. v ≡ 8 + n) _ whole) ((grounded E C.place γ R p s σ h).assigned n lt (not_true (E.fixed n) both.1)) (λ j. not_where (is_cell (R j)) (held_after E.text e) (R j))
learns_assign E γ C R p s σ sound h e (Place m) can ok =
    learns_kept E γ C R p s (C.place m) σ sound h e (Place m) ok (runs_done σ (λ v. v ≡ C.place m) (C.place m) refl) ((grounded E C.place γ R p s σ h).statics m can) (λ j. not_where (is_cell (R j)) (held_after E.text e) (R j))
learns_assign E γ C R p s σ sound h e (Load x) can ok = learns_indexed E γ C R p s σ sound h e (Load x) can ok
learns_assign E γ C R p s σ sound h e (Bin op x y) can ok = learns_indexed E γ C R p s σ sound h e (Bin op x y) can ok
learns_assign E γ C R p s σ sound h e (Num n) can ok = let z : ⊥ = cc in absurd z
learns_assign E γ C R p s σ sound h e (Neg x) can ok = let z : ⊥ = cc in absurd z
learns_assign E γ C R p s σ sound h e (Not x) can ok = let z : ⊥ = cc in absurd z
learns_assign E γ C R p s σ sound h e (Cond c x y) can ok = let z : ⊥ = cc in absurd z
learns_assign E γ C R p s σ sound h e (Call es f) can ok = let z : ⊥ = cc in absurd z
learns_assign E γ C R p s σ sound h e (Valof n) can ok = let z : ⊥ = cc in absurd z

-- how a command of a list and the rest of the list pass
abbrev pub Fills : Env → Knows → Exits → Command → Items → ℕ → Type 0
Fills E R J c is s = (has_no_entry is ≡ true) × ((tame_filling E R c s ≡ true) × (tame_items E (filled R c s) J is s ≡ true))

abbrev pub GoesOn : Env → Knows → Exits → Command → Items → ℕ → Type 0
GoesOn E R J c is s = (tame_command E R J c s ≡ true) × (tame_items E (cond (has_no_entry is) (learned E R c) R) J is s ≡ true)

pub ways : (E : Env) (R : Knows) (J : Exits) (c : Command) (is : Items) (s : ℕ) → tame_items E R J (command c is) s ≡ true → Fills E R J c is s ⊎ GoesOn E R J c is s
ways E R J c is s ok = by (elim (has_no_entry is && tame_filling E R c s) as (λ z. Bool) [ true ↦ tame_items E (filled R c s) J is s | false ↦ false ]) refl ok where
  fills : (t : Bool) → (has_no_entry is && tame_filling E R c s) ≡ t → elim t as (λ z. Bool) [ true ↦ tame_items E (filled R c s) J is s | false ↦ false ] ≡ true → Fills E R J c is s
  fills true e e1 = let b = both_true (has_no_entry is) (tame_filling E R c s) e in (b.0, (b.1, e1))
  fills false e e1 = let z : ⊥ = cc in absurd z

  by : (t : Bool) → elim (has_no_entry is && tame_filling E R c s) as (λ z. Bool) [ true ↦ tame_items E (filled R c s) J is s | false ↦ false ] ≡ t
      → elim t as (λ z. Bool) [ true ↦ true | false ↦ tame_command E R J c s && tame_items E (cond (has_no_entry is) (learned E R c) R) J is s ] ≡ true → Fills E R J c is s ⊎ GoesOn E R J c is s
  by true e e1 = inl (fills (has_no_entry is && tame_filling E R c s) refl e)
  by false e e1 = inr (both_true (tame_command E R J c s) (tame_items E (cond (has_no_entry is) (learned E R c) R) J is s) e1)

-- a list of assignments
entered_once : (is : Items) → are_assignments is ≡ true → has_no_entry is ≡ true
entered_once no_item ok = refl
entered_once (command (commands.Assign v a) is) ok = entered_once is ok
entered_once _ ok = let z : ⊥ = cc in absurd z

pub learns_all : (E : Env) (γ : Shape) (C : Context) (R : Knows) (p s : ℕ) (σ : Shape) (J : Exits) → Sound E γ C → Around E C.place γ R p s σ → (is : Items) → are_assignments is ≡ true → tame_items E R J is s ≡ true
    → Learns E γ C (learned_all E R is) p s σ (perform_items C is p s Beginning)
learns_all E γ C R p s σ J sound h no_item all ok = record { shape = σ; runs = runs_done σ (λ x. x ≡ Past) Past refl; around = h; refines = refines_same p σ }
learns_all E γ C R p s σ J sound h (command (commands.Assign v a) is) all ok =
    by (λ τ t ok1. learns_all E γ C (learned E R (commands.Assign v a)) p s τ J sound t is all ok1) (ways E R J (commands.Assign v a) is s ok) where
      by : ((τ : Shape) → Around E C.place γ (learned E R (commands.Assign v a)) p s τ → tame_items E (learned E R (commands.Assign v a)) J is s ≡ true → Learns E γ C (learned_all E (learned E R (commands.Assign v a)) is) p s τ (perform_items C is p s Beginning))
          → Fills E R J (commands.Assign v a) is s ⊎ GoesOn E R J (commands.Assign v a) is s
          → Learns E γ C (learned_all E R (command (commands.Assign v a) is)) p s σ (perform_items C (command (commands.Assign v a) is) p s Beginning)
      by next (inl f) = let no = f.1.0 in let z : ⊥ = cc in absurd z
      by next (inr g) =
          let once = entered_once is all in
          let oks = both_true (can_write E R a) (tame_exp E R v (side_level a s)) g.0 in
          let first = learns_assign E γ C R p s σ sound h v a oks.0 oks.1 in
          let ok1 : tame_items E (learned E R (commands.Assign v a)) J is s ≡ true = subst (λ t. tame_items E (cond t (learned E R (commands.Assign v a)) R) J is s ≡ true) once g.1 in
          let more = next first.shape first.around ok1 in
          record {
            shape = more.shape;
            runs = runs_then σ first.shape more.shape (λ x. x ≡ Past) (λ x. x ≡ Past) _ _ first.runs (λ x e. rw e more.runs);
            around = more.around;
            refines = refines_both p more.shape first.shape σ more.refines first.refines;
          }
learns_all E γ C R p s σ J sound h _ all ok = let z : ⊥ = cc in absurd z

-- a list that goes past is done once
pub runs_list_once : (σ τ : Shape) (labels : ℕ → Bool) (items : Entry → Run Exit) → Runs σ (λ x. x ≡ Past) τ (items Beginning) → Runs σ (λ x. x ≡ Past) τ (listed labels items Beginning)
runs_list_once σ τ labels items h =
    runs_once σ τ (λ x. x ≡ Past) (λ at. then_do (items at) (after_list labels)) Beginning (runs_then σ τ τ (λ x. x ≡ Past) (OfRound (λ y. ⊥) (λ x. x ≡ Past)) (items Beginning) (after_list labels) h
    (λ x e. rw e (runs_done τ (OfRound (λ y. ⊥) (λ x. x ≡ Past)) (Leave Past) refl)))

pub either_block : (t q : Bool) → elim t as (λ z. Bool) [ true ↦ true | false ↦ q ] ≡ true → (t ≡ true) ⊎ (q ≡ true)
either_block true q e = inl refl
either_block false q e = inr e

pub block_ways : (E : Env) (R : Knows) (J : Exits) (ds : List (List Variable)) (is : Items) (s : ℕ) → tame_block E R J (block ds is) s ≡ true
    → (kept : Bool) × ((tame_declarations E kept R ds s ≡ true) × (tame_items E (and_declared E kept ds s R) (in_list is J) is (s + cells_declared ds) ≡ true))
block_ways E R J ds is s ok =
    ⊎_elim (λ e. (true, both_true (tame_declarations E true R ds s) (tame_items E (and_declared E true ds s R) (in_list is J) is (s + cells_declared ds)) e))
    (λ e. (false, both_true (tame_declarations E false R ds s) (tame_items E (and_declared E false ds s R) (in_list is J) is (s + cells_declared ds)) e))
    (either_block (tame_declarations E true R ds s && tame_items E (and_declared E true ds s R) (in_list is J) is (s + cells_declared ds))
    (tame_declarations E false R ds s && tame_items E (and_declared E false ds s R) (in_list is J) is (s + cells_declared ds)) ok)

pub learns_nested : (E : Env) (γ : Shape) (C : Context) (R : Knows) (p s : ℕ) (σ : Shape) (J : Exits) → Sound E γ C → Around E C.place γ R p s σ → (is : Items) → are_assignments is ≡ true → tame_block E R J (block [] is) s ≡ true
    → Learns E γ C (learned_all E R is) p s σ (perform C (commands.Nested (block [] is)) p s)
learns_nested E γ C R p s σ J sound h is all ok =
    let up : s ≤ s + 0 = omega arith in
    let down : s + 0 ≤ s = omega arith in
    let w = block_ways E R J [] is s ok in
    let l = learns_all E γ C R p (s + 0) σ (in_list is J) sound (higher E C.place γ R p s (s + 0) σ up h) is all w.1.1 in
    record { shape = l.shape; runs = runs_list_once σ l.shape (has_label is) (perform_items C is p (s + 0)) l.runs; around = higher E C.place γ (learned_all E R is) p (s + 0) s l.shape down l.around; refines = l.refines }
