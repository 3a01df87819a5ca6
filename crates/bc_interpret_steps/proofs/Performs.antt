-- Steps into commands.
use Rattle.std.proofs.Common.{◌≡◌, ◌+◌, ℕ, List, ◌∷◌, None, sym, ap, ◌∙◌}
use Rattle.bc_machine_defs.specs.Streams.{Content}
use Rattle.bc_core.specs.Tree.{Exp}
use Rattle.bc_core.specs.Commands as commands
use Rattle.bc_core.specs.Store.{opened}
use Rattle.bc_interpret_defs.specs.Machine.{Spot, Rest, Evaluate, StoresAt, Limits, Closes, cell_of, go, perform_step}
use Rattle.bc_interpret_steps.specs.declared.state.State.{State}
use Rattle.bc_interpret_steps.specs.Came.{state_of}

-- a FOR opens its variable's cell, and goes on to its start
pub for_performed : (E : Spot) (k : commands.Command) (start limit : Exp) (by : ℕ) (b : commands.Block) (s level cell address : ℕ) (rs closing limiting after : List Rest) (old new : State) (streams : Content)
    → k ≡ commands.For start limit by b → level ≡ s + 2 → cell ≡ E.frame + s → address ≡ cell_of E s → closing ≡ Closes None 1 cell ∷ rs → limiting ≡ Limits E limit by b s ∷ closing → after ≡ StoresAt address ∷ limiting
    → new.store ≡ opened 1 cell old.store → new.turns ≡ old.turns → perform_step E k s rs (state_of old streams) ≡ go (Evaluate E start level) after (state_of new streams)
for_performed E k start limit by b s level cell address rs closing limiting after old new streams e is_level is_cell is_address is_closing is_limiting is_after is_store is_turns =
    ap (λ x. perform_step E x s rs (state_of old streams)) e
    ∙ (ap (λ n. go (Evaluate E start n) (StoresAt (cell_of E s) ∷ Limits E limit by b s ∷ Closes None 1 (E.frame + s) ∷ rs) (record { cells = opened 1 (E.frame + s) old.store; streams = streams; turns = old.turns })) (sym is_level)
    ∙ (ap (λ a. go (Evaluate E start level) (StoresAt (cell_of E s) ∷ Limits E limit by b s ∷ Closes None 1 a ∷ rs) (record { cells = opened 1 a old.store; streams = streams; turns = old.turns })) (sym is_cell)
    ∙ (λ i. go (Evaluate E start level) (left i) (record { cells = sym is_store i; streams = streams; turns = sym is_turns i })))) where
      left : (StoresAt (cell_of E s) ∷ Limits E limit by b s ∷ Closes None 1 cell ∷ rs) ≡ after
      left = ap (λ q. StoresAt (cell_of E s) ∷ Limits E limit by b s ∷ q) (sym is_closing)
          ∙ (ap (λ q. StoresAt (cell_of E s) ∷ q) (sym is_limiting) ∙ (ap (λ a. StoresAt a ∷ limiting) (sym is_address) ∙ sym is_after))
