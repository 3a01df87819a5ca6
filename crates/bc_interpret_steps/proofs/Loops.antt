-- Rounds of a FOR.
use Rattle.std.proofs.Common.{◌≡◌, ◌+◌, ◌%◌, ℕ, true, false, List, ◌∷◌, sym, ap, ◌∙◌}
use Rattle.bc_word.specs.Words.{holds}
use Rattle.bc_core.specs.Commands.{Block}
use Rattle.bc_core.specs.Level.{level_in_for}
use Rattle.bc_core.specs.Loop.{end_relation}
use Rattle.bc_core.specs.Map.{Placed}
use Rattle.bc_core.specs.Exit.{Exit, Past}
use Rattle.bc_core.specs.Store.{Cell, Dead, Unset, Set, cell_at}
use Rattle.bc_core.specs.Outcome as outcomes
use Rattle.bc_core.specs.Outcome.{Wild, followed, then_do, choose, content_of_cell, read, write, in_turn}
use Rattle.bc_interpret_defs.specs.Causes as causes
use Rattle.bc_interpret_defs.specs.Meeting.{IsWildBy}
use Rattle.bc_interpret_defs.specs.Trails.{Standing}
use Rattle.bc_interpret_defs.proofs.Naming.{wild_then, wild_read_dead, wild_read_unset}
use Rattle.bc_interpret_defs.specs.Machine.{Spot, Rest, Step, cell_of, go, give, enter, Left, ForBody, Round, round_step, following, next}
use Rattle.bc_interpret_steps.specs.declared.state.State.{State}
use Rattle.bc_interpret_steps.specs.declared.forms.Progress.{Progress}
use Rattle.bc_interpret_steps.specs.Came.{Came, Went}
use Rattle.bc_interpret_steps.proofs.Quiet.{same_came, went}

abbrev tested : Spot → (limit by : ℕ) → Block → ℕ → List Rest → ℕ → Step
tested E limit by b s rs i = choose (holds (end_relation by) i limit) (give (Left Past) rs) (enter E b (level_in_for s) (ForBody E limit by b s ∷ rs))

pub round_dead : (E : Spot) (limit by : ℕ) (b : Block) (s : ℕ) (rs : List Rest) (st : outcomes.State) → Dead ≡ cell_at st.cells (cell_of E s) → round_step E limit by b s rs st ≡ Wild
round_dead E limit by b s rs st e = ap (λ c. followed (content_of_cell c st) (tested E limit by b s rs)) (sym e)

pub round_unset : (E : Spot) (limit by : ℕ) (b : Block) (s : ℕ) (rs : List Rest) (st : outcomes.State) → Unset ≡ cell_at st.cells (cell_of E s) → round_step E limit by b s rs st ≡ Wild
round_unset E limit by b s rs st e = ap (λ c. followed (content_of_cell c st) (tested E limit by b s rs)) (sym e)

pub round_past : (E : Spot) (limit by : ℕ) (b : Block) (s i : ℕ) (rs : List Rest) (st : outcomes.State) → Set i ≡ cell_at st.cells (cell_of E s) → holds (end_relation by) i limit ≡ true → round_step E limit by b s rs st ≡ give (Left Past) rs st
round_past E limit by b s i rs st e t =
    ap (λ c. followed (content_of_cell c st) (tested E limit by b s rs)) (sym e)
    ∙ ap (λ t. choose t (give (Left Past) rs) (enter E b (level_in_for s) (ForBody E limit by b s ∷ rs)) st) t

pub round_on : (E : Spot) (limit by : ℕ) (b : Block) (s i : ℕ) (rs : List Rest) (st : outcomes.State) → Set i ≡ cell_at st.cells (cell_of E s) → holds (end_relation by) i limit ≡ false → round_step E limit by b s rs st ≡ enter E b (level_in_for s) (ForBody E limit by b s ∷ rs) st
round_on E limit by b s i rs st e t =
    ap (λ c. followed (content_of_cell c st) (tested E limit by b s rs)) (sym e)
    ∙ ap (λ t. choose t (give (Left Past) rs) (enter E b (level_in_for s) (ForBody E limit by b s ∷ rs)) st) t

pub round_goes : (trail : List Standing) → (E : Spot) (limit by : ℕ) (b : Block) (s i : ℕ) (rs : List Rest) (old : State) (p : Progress) (rs1 : List Rest) (vs : List ℕ) (new : State) → Set i ≡ cell_at old.store (cell_of E s) → holds (end_relation by) i limit ≡ false → Went (enter E b (level_in_for s) (ForBody E limit by b s ∷ rs)) old p rs1 vs new → Came trail (round_step E limit by b s rs) old p rs1 vs new
round_goes trail E limit by b s i rs old p rs1 vs new e t h =
    same_came _ (round_step E limit by b s rs) (enter E b (level_in_for s) (ForBody E limit by b s ∷ rs)) old p rs1 vs new (λ st keeps. round_on E limit by b s i rs st (sym (keeps (cell_of E s) i (sym e))) t) (went trail (enter E b (level_in_for s) (ForBody E limit by b s ∷ rs)) old p rs1 vs new h)

-- after the body
abbrev added : Spot → (limit by : ℕ) → Block → ℕ → List Rest → ℕ → Step
added E limit by b s rs i = then_do (write (cell_of E s) ((i + by) % 65536)) (λ u. in_turn (go (Round E limit by b s) rs))

pub stepped_dead : (program : List Placed) (E : Spot) (limit by : ℕ) (b : Block) (s : ℕ) (rs : List Rest) (st : outcomes.State) → Dead ≡ cell_at st.cells (cell_of E s) → next program (ForBody E limit by b s) (Left Past) rs st ≡ Wild
stepped_dead program E limit by b s rs st e = ap (λ c. followed (content_of_cell c st) (added E limit by b s rs)) (sym e)

pub stepped_unset : (program : List Placed) (E : Spot) (limit by : ℕ) (b : Block) (s : ℕ) (rs : List Rest) (st : outcomes.State) → Unset ≡ cell_at st.cells (cell_of E s) → next program (ForBody E limit by b s) (Left Past) rs st ≡ Wild
stepped_unset program E limit by b s rs st e = ap (λ c. followed (content_of_cell c st) (added E limit by b s rs)) (sym e)

-- where the loop goes on, it does so as if control had gone past the body
pub for_after : (program : List Placed) (E : Spot) (limit by : ℕ) (b : Block) (s : ℕ) (x : Exit) (rs : List Rest) → ((again : Step) (rs : List Rest) → following again x rs ≡ again)
    → next program (ForBody E limit by b s) (Left Past) rs ≡ next program (ForBody E limit by b s) (Left x) rs
for_after program E limit by b s x rs h = sym (h (next program (ForBody E limit by b s) (Left Past) rs) rs)

-- which cell makes a round wild
pub round_by_dead : (E : Spot) (limit by : ℕ) (b : Block) (s : ℕ) (rs : List Rest) (cells : List Cell) → Dead ≡ cell_at cells (cell_of E s) → IsWildBy (round_step E limit by b s rs) cells (causes.Dead (cell_of E s))
round_by_dead E limit by b s rs cells e = wild_then (read (cell_of E s)) (tested E limit by b s rs) cells (causes.Dead (cell_of E s)) (wild_read_dead (cell_of E s) cells (sym e))

pub round_by_unset : (E : Spot) (limit by : ℕ) (b : Block) (s : ℕ) (rs : List Rest) (cells : List Cell) → Unset ≡ cell_at cells (cell_of E s) → IsWildBy (round_step E limit by b s rs) cells (causes.Unset (cell_of E s))
round_by_unset E limit by b s rs cells e = wild_then (read (cell_of E s)) (tested E limit by b s rs) cells (causes.Unset (cell_of E s)) (wild_read_unset (cell_of E s) cells (sym e))

pub stepped_by_dead : (program : List Placed) (E : Spot) (limit by : ℕ) (b : Block) (s : ℕ) (rs : List Rest) (cells : List Cell) → Dead ≡ cell_at cells (cell_of E s) → IsWildBy (next program (ForBody E limit by b s) (Left Past) rs) cells (causes.Dead (cell_of E s))
stepped_by_dead program E limit by b s rs cells e = wild_then (read (cell_of E s)) (added E limit by b s rs) cells (causes.Dead (cell_of E s)) (wild_read_dead (cell_of E s) cells (sym e))

pub stepped_by_unset : (program : List Placed) (E : Spot) (limit by : ℕ) (b : Block) (s : ℕ) (rs : List Rest) (cells : List Cell) → Unset ≡ cell_at cells (cell_of E s) → IsWildBy (next program (ForBody E limit by b s) (Left Past) rs) cells (causes.Unset (cell_of E s))
stepped_by_unset program E limit by b s rs cells e = wild_then (read (cell_of E s)) (added E limit by b s rs) cells (causes.Unset (cell_of E s)) (wild_read_unset (cell_of E s) cells (sym e))
