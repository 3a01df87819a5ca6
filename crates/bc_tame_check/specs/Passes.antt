-- What passes at a place of the check.
use Rattle.std.specs.Prelude.{ℕ, ◌≡◌, ◌+◌, ◌&&◌, ◌||◌, nat_le, Bool, true, false, Option, List}
use Rattle.bc_core.specs.Tree.{Exp, count}
use Rattle.bc_core.specs.declared.expression.CoreExp.{CoreExp}
use Rattle.bc_core.specs.View.{args}
use Rattle.bc_core.specs.Commands.{Command, Block, block, Items}
use Rattle.bc_core.specs.Level.{cells_declared}
use Rattle.bc_tame.specs.Tame.{Env, Knows, Held, AnyWord, Bounds, held_between, if_bounds, no_exits, and_also, and_declared, tame_exp, tame_command, tame_declarations, tame_block, tame_items, in_list, in_valof, called, fits_call, spoken, fits_room}
use Rattle.bc_tame_check.specs.declared.at.At.{At}
use Rattle.bc_tame_check.specs.declared.held.Entry.{Entry}
use Rattle.bc_tame_check.specs.Views.{env_at, reads_at, exits_at, notes_in, set_over}

abbrev pub exp_passes : At → Exp → Bool
exp_passes at e = tame_exp (env_at at) (reads_at at) e at.level

abbrev pub block_passes : At → Block → Bool
block_passes at b = tame_block (env_at at) (reads_at at) (exits_at at) b at.level

abbrev pub ExpPasses : At → Exp → Type 0
ExpPasses at e = exp_passes at e ≡ true

abbrev pub CommandPasses : At → Command → Type 0
CommandPasses at c = tame_command (env_at at) (reads_at at) (exits_at at) c at.level ≡ true

abbrev pub BlockPasses : At → Block → Type 0
BlockPasses at b = block_passes at b ≡ true

-- a call's routine can be called with these arguments, and there is room for it
abbrev pub CallFits : At → List CoreExp → Exp → Type 0
CallFits at es f =
    (fits_call (called (env_at at) f) (count (args es)) at.level at.around.size
    || fits_room (spoken (env_at at) f (notes_in at es)) at.level at.around.size) ≡ true

-- the items of a list pass, inside it
abbrev pub ItemsPass : At → Items → Type 0
ItemsPass at is = tame_items (env_at at) (reads_at at) (exits_at at) is at.level ≡ true

-- a list passes: its items do, with its labels added
abbrev pub ListPasses : At → Items → Type 0
ListPasses at is = tame_items (env_at at) (reads_at at) (in_list is (exits_at at)) is at.level ≡ true

-- an item passes before others, if these pass with what is known after it
abbrev pub ItemPasses : At → (whole rest : Items) → List Entry → Type 0
ItemPasses at whole rest more =
    tame_items (env_at at) (set_over (reads_at at) more) (exits_at at) rest at.level ≡ true
    → tame_items (env_at at) (reads_at at) (exits_at at) whole at.level ≡ true

-- a block passes, if its vectors and tables are kept or if they may be assigned
abbrev pub block_passes_as : At → (kept : Bool) → Block → Bool
block_passes_as at kept (block ds is) =
    tame_declarations (env_at at) kept (reads_at at) ds at.level
    && tame_items (env_at at) (and_declared (env_at at) kept ds at.level (reads_at at)) (in_list is (exits_at at)) is (at.level + cells_declared ds)

-- the body of a FOR passes if this is known of its variable
abbrev pub round_passes : At → Held → Block → Bool
round_passes at h b = tame_block (env_at at) (and_also at.level h (reads_at at)) (exits_at at) b (at.level + 2)

-- a FOR's start, limit and body pass without bounds for its variable
abbrev pub plain_passes : At → (start limit : Exp) → Block → Bool
plain_passes at start limit b =
    tame_exp (env_at at) (reads_at at) start (at.level + 2)
    && (tame_exp (env_at at) (and_also at.level AnyWord (reads_at at)) limit (at.level + 2) && round_passes at AnyWord b)

-- what remains of a FOR passes, if its variable is within these bounds
abbrev pub rounds_pass : At → Option Bounds → (start limit : Exp) → Block → Bool
rounds_pass at counts start limit b =
    elim (if_bounds counts (λ i. round_passes at (held_between i) b)) [ true ↦ true | false ↦ plain_passes at start limit b ]

-- there is room for a FOR, and its body passes with these bounds of its variable if no jump out of it is allowed
abbrev pub closed_passes : At → Bounds → Block → Bool
closed_passes at i b =
    nat_le (at.level + 2) at.around.size && tame_block (env_at at) (and_also at.level (held_between i) (reads_at at)) no_exits b (at.level + 2)

-- the body of a VALOF passes. This doesn't unfold by itself, since that would be long.
unfoldable pub ValofPasses : Env → Knows → Block → ℕ → Type 0
ValofPasses E R b s = tame_block E R in_valof b s ≡ true
