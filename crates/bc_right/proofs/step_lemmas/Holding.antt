-- Values kept in the frame, and what was reached, seen from an earlier moment.
use Rattle.std.proofs.Common.{◌≡◌, ℕ, ◌+◌, ◌%◌, ◌<◌, ◌≤◌, ⊎_elim, List, [], ◌∷◌, length, false, ap, ◌∙◌, arith}
use Rattle.std.specs.Prelude.{slice_set}
use Rattle.std.proofs.lemmas.Bool.{cases_lt}
use Rattle.bc_text_items.specs.declared.item.Item.{Item}
use Rattle.bc_text_items.specs.declared.item.Base.TheVariants as bases
use Rattle.bc_text_items.specs.declared.item.Function.TheVariants as functions
use Rattle.bc_text_items.specs.Sizes.{operation_size}
use Rattle.bc_machine_defs.specs.State.{State}
use Rattle.bc_machine_defs.specs.Effect.{running}
use Rattle.bc_core.specs.Store.{Cell, Dead, cell_at}
use Rattle.bc_core.specs.Outcome as outcomes
use Rattle.bc_right.specs.steps.Leads.{machine}
use Rattle.bc_right.specs.steps.CodeAt.{HasWords}
use Rattle.bc_right.specs.steps.Items.{hold_item}
use Rattle.bc_right.specs.steps.Landing.{Moment, moment, Later, Stands, Reached}
use Rattle.bc_right.proofs.step_lemmas.Agreeing.{keeps_then, keeps_held, holds_held}
use Rattle.bc_right.proofs.step_lemmas.Steps.{later_then, acts, leads_more}

-- what was reached since a later moment was also reached since O
pub reached_from : {K : Moment} {most : ℕ} {O1 : Moment} {x : State} {t top1 p a b c g : ℕ} {m : List ℕ} {st : outcomes.State} (O : Moment) (top : ℕ) → Reached K most O1 x t top1 p a b c g m st → Later K O → Later O O1 → O.top ≤ top → top1 ≤ O1.top → ((i : ℕ) → top ≤ i → i < top1 → cell_at O1.cells i ≡ Dead)
    → Reached K most O x t top p a b c g m st
reached_from {top1 = top1} O top r since l low in1 dead = record {
  few = r.few;
  are_words = r.are_words;
  leads = r.leads;
  holds = let h = r.holds in record { agrees = h.agrees; above = λ i ge. ⊎_elim (λ lt. r.later.keeps.dead i (omega arith) (dead i ge lt)) (λ high. h.above i high) (cases_lt i top1); whole = h.whole; spans = h.spans };
  since = since;
  later = record { low = low; keeps = (later_then l r.later).keeps };
}

-- words in dead cells below the top are kept
pub kept_words : (M : Moment) (cells : List Cell) (m : List ℕ) (top i : ℕ) (ws : List ℕ) → Later M (moment top cells m) → ((k : ℕ) → i ≤ k → k < i + length ws → cell_at M.cells k ≡ Dead) → i + length ws ≤ M.top → HasWords M.store i ws → HasWords m i ws
kept_words M cells m top i [] l d le h = tt
kept_words M cells m top i (w ∷ ws) l d le h =
    (l.keeps.same i (omega arith) (d i (omega arith) (omega arith)) ∙ h.0, kept_words M cells m top (i + 1) ws l (λ k lo hi. d k (omega arith) (omega arith)) (omega arith) h.1)

-- `SPk`, into a dead cell above the origin's top
pub held_at : {address : ℕ → ℕ} {S K : Moment} {most : ℕ} {O : Moment} {x : State} {t p s v b c g end : ℕ} {m : List ℕ} {st : outcomes.State} (rest : List Item) → Later S K → p + s < 65536 → Stands address S c (hold_item s ∷ rest) end → Reached K most O x t (p + s) p v b c g m st
    → Reached K most O x t (p + s) p v b (c + operation_size bases.P s) (g + 1) (slice_set m (p + s) v) st
held_at {O = O} {t = t} {p = p} {s = s} {v = v} {b = b} {c = c} {g = g} {m = m} {st = st} rest old fits stands r =
    let at_k : (s + p) % 65536 ≡ p + s = omega arith in
    let stored = acts old functions.Store false bases.P s rest stands r ∙ ap (λ z. running (machine v b (c + operation_size bases.P s) p (slice_set m z v) st.streams)) at_k in
    let dead = r.holds.above (p + s) (omega arith) in
    record {
      few = r.few;
      are_words = r.are_words;
      leads = leads_more t g r.leads stored;
      holds = holds_held (p + s) (p + s) v st.cells m r.holds dead;
      since = r.since;
      later = record { low = r.later.low; keeps = keeps_then O.top O.cells st.cells st.cells O.store m (slice_set m (p + s) v) r.later.keeps (keeps_held O.top (p + s) v st.cells m r.later.low) };
    }
