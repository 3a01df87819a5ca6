-- Commands whose VALOFs are at their levels. The type of a section ensures this; the laws of commands need it in this form.
use Rattle.std.specs.Prelude.{ℕ, ◌+◌, List, [], ◌∷◌}
use Rattle.bc_core.specs.Tree.{Exp, Frame}
use Rattle.bc_core.specs.Commands.{Variable, Initial, Vector, Command, Block, block, Items, no_item, command, case, default, label, Body, Gives, Does, Valof}
use Rattle.bc_core.specs.Commands as commands
use Rattle.bc_core.specs.Level.{side_level, cells_of, cells_of_all, cells_declared, level_in_for}
use Rattle.bc_right.specs.steps.Premises.{Levelled}

abbrev pub SidesLevelled : (ℕ → ℕ) → (value address : Exp) → ℕ → Type 0
SidesLevelled levels v a s = Levelled levels v (side_level a s) × Levelled levels a (side_level a s)

abbrev pub VariableLevelled : (ℕ → ℕ) → Variable → (k s : ℕ) → Type 0
VariableLevelled levels (Initial e) k s = SidesLevelled levels e (Frame k) s
VariableLevelled levels (Vector n) k s = Unit {0}

abbrev pub VariablesLevelled : (ℕ → ℕ) → List Variable → (k s : ℕ) → Type 0
VariablesLevelled levels [] k s = Unit {0}
VariablesLevelled levels (v ∷ vs) k s = VariableLevelled levels v k s × VariablesLevelled levels vs (k + cells_of v) s

abbrev pub DeclarationsLevelled : (ℕ → ℕ) → List (List Variable) → ℕ → Type 0
DeclarationsLevelled levels [] s = Unit {0}
DeclarationsLevelled levels (vs ∷ ds) s = let s1 = s + cells_of_all vs in VariablesLevelled levels vs s s1 × DeclarationsLevelled levels ds s1

abbrev mutual
  pub CommandLevelled : (ℕ → ℕ) → Command → ℕ → Type 0
  CommandLevelled levels (commands.Call e) s = Levelled levels e s
  CommandLevelled levels (commands.Assign v a) s = SidesLevelled levels v a s
  CommandLevelled levels (commands.If sense e b) s = Levelled levels e s × BlockLevelled levels b s
  CommandLevelled levels (commands.Test e b c) s = Levelled levels e s × BlockLevelled levels b s × BlockLevelled levels c s
  CommandLevelled levels (commands.While sense e b) s = Levelled levels e s × BlockLevelled levels b s
  CommandLevelled levels (commands.Repeat b) s = BlockLevelled levels b s
  CommandLevelled levels (commands.RepeatWhile b sense e) s = Levelled levels e s × BlockLevelled levels b s
  CommandLevelled levels (commands.For start limit by b) s =
      let s1 = level_in_for s in
      SidesLevelled levels start (Frame s) s1 × SidesLevelled levels limit (Frame (s + 1)) s1 × BlockLevelled levels b s1
  CommandLevelled levels (commands.SwitchOn e is) s = Levelled levels e s × ItemsLevelled levels is s
  CommandLevelled levels (commands.ResultIs e) s = Levelled levels e s
  CommandLevelled levels (commands.Nested b) s = BlockLevelled levels b s
  CommandLevelled levels _ s = Unit {0}

  pub BlockLevelled : (ℕ → ℕ) → Block → ℕ → Type 0
  BlockLevelled levels (block ds is) s = DeclarationsLevelled levels ds s × ItemsLevelled levels is (s + cells_declared ds)

  pub ItemsLevelled : (ℕ → ℕ) → Items → ℕ → Type 0
  ItemsLevelled levels no_item s = Unit {0}
  ItemsLevelled levels (command c is) s = CommandLevelled levels c s × ItemsLevelled levels is s
  ItemsLevelled levels (case k is) s = ItemsLevelled levels is s
  ItemsLevelled levels (default is) s = ItemsLevelled levels is s
  ItemsLevelled levels (label l is) s = ItemsLevelled levels is s

abbrev pub BodyLevelled : (ℕ → ℕ) → Body → ℕ → Type 0
BodyLevelled levels (Gives e) s = Levelled levels e s
BodyLevelled levels (Does b) s = BlockLevelled levels b s

-- the bodies of VALOFs, each at its own level
abbrev pub ValofsLevelled : (ℕ → ℕ) → List Valof → Type 0
ValofsLevelled levels [] = Unit {0}
ValofsLevelled levels (v ∷ vs) = BlockLevelled levels v.body v.level × ValofsLevelled levels vs
