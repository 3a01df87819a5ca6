-- Where the machine is after each exit of a command.
use Rattle.std.specs.Prelude.{ℕ, ◌≡◌, ◌+◌, ◌<◌, ◌≤◌, List, [], ◌∷◌}
use Rattle.bc_text_items.specs.declared.item.Item.{Item}
use Rattle.bc_core.specs.Exit.{Exit, Past, Broke, Looped, LeftCases, Returned, Resulted, Jumped}
use Rattle.bc_core.specs.Commands.{Command}
use Rattle.bc_core.specs.Command.{perform}
use Rattle.bc_core.specs.Layout.{Bodies, cells_of_command}
use Rattle.bc_core.specs.Value.{Context}
use Rattle.bc_gen_defs.specs.Emit.{Exits, zero_item, execute, emit}
use Rattle.bc_right.specs.steps.Landing.{Moment, Later, Stands, Goal, Does}
use Rattle.bc_right.specs.steps.Items.{JumpAt}
use Rattle.bc_right.specs.steps.Premises.{Roots, RootsLand}
use Rattle.bc_right.specs.commands.Levelled.{CommandLevelled}

-- `L0 X4`
abbrev pub return_items : List Item
return_items = zero_item ∷ execute 4 ∷ []

-- The machine is after the code, or about to jump or to return; a GOTO has already jumped and taken a turn.
abbrev pub exit_goal : (ℕ → ℕ) → Moment → Exits → (end limit : ℕ) → Goal Exit
exit_goal address S E end limit Past a b c gain turns = c ≡ end
exit_goal address S E end limit Broke a b c gain turns = JumpAt address S c E.broken
exit_goal address S E end limit Looped a b c gain turns = JumpAt address S c E.looped
exit_goal address S E end limit LeftCases a b c gain turns = JumpAt address S c E.cases
exit_goal address S E end limit Returned a b c gain turns = (last : ℕ) × Stands address S c return_items last
exit_goal address S E end limit (Resulted v) a b c gain turns = (a ≡ v) × JumpAt address S c E.result
exit_goal address S E end limit (Jumped l) a b c gain turns = (c ≡ address (E.labels l)) × (turns < limit)

-- Wherever the code of a command is placed, it does what the command means, if the code of its roots does.
abbrev pub CommandsLand : Type 0
CommandsLand =
    (C : Context) (address levels : ℕ → ℕ) (V : Bodies) (S : Moment) (most : ℕ) (roots : Roots) → RootsLand C address levels V S most roots
    → (K : Moment) → Later S K
    → (k : Command) (p s : ℕ) (E : Exits) (first a c end limit : ℕ)
    → Stands address S c (emit (λ i. i) roots k s E first).0 end → p + cells_of_command V k s ≤ 65536 → CommandLevelled levels k s
    → Does K most (p + s) p limit a c (exit_goal address S E end limit) (perform C k p s)
