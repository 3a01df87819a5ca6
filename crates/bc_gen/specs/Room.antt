-- For proofs: when all numbers in the code of a command have room: no offset of the frame is over 65,535, no root is too large for
-- the selector or for its own code, and the same holds of the bodies of the VALOFs in it.
use Rattle.std.specs.Prelude.{ℕ, ◌≡◌, ◌+◌, ◌^◌, ◌≤◌, ◌<◌, ◌==◌, not, true, false, IfSome, List, [], ◌∷◌, length, drop}
use Rattle.std.specs.List.{All}
use Rattle.bc_core.specs.Tree.{Frame, Root, Value, Test, Assign}
use Rattle.bc_core.specs.Commands.{Variable, Command, Block, block, Items, no_item, command, case, default, label, Body, Gives, Does, Valof, Place, Code, Text}
use Rattle.bc_core.specs.Commands as commands
use Rattle.bc_core.specs.Command.{step_of_for}
use Rattle.bc_core.specs.Level.{level_after_parameters, cells_of, cells_of_all, cells_declared, level_in_for}
use Rattle.bc_rules_defs.specs.declared.piece.Piece.{Piece}
use Rattle.bc_rules_defs.specs.declared.piece.Piece.TheVariants as pieces
use Rattle.bc_rules.specs.Code.{cells_of_root}
use Rattle.bc_select_defs.specs.Nodes.{root_nodes}
use Rattle.bc_gen_defs.specs.Emit.{entries_in, end_of_for}
use Rattle.bc_gen.specs.Chosen.{coding}
use Rattle.bc_gen.specs.Surroundings.{initial_of, valofs_in}
use Rattle.bc_gen.specs.declared.context.Around.{Around}

-- what is known of the body of each VALOF, given its number
abbrev pub Bodies : Type 1
Bodies = ℕ → Type 0

-- a piece has room if it is an item, or a body that has room
abbrev pub PieceHasRoom : Bodies → Piece → Type 0
PieceHasRoom B (pieces.Item i) = Unit {0}
PieceHasRoom B (pieces.Body n) = B n

-- A root has room if it has at most 2^32 nodes, which the selector requires, and at most 65,536 cells: then only labels can run out.
pub record RootHasRoom (B : Bodies) (r : Root) : Type 0 where
  pub nodes : root_nodes r ≤ 2 ^ 32
  pub cells : cells_of_root r ≤ 65536
  pub bodies : (target first : ℕ) → All (PieceHasRoom B) (coding.pieces r target first)

-- variables whose cells begin at offset k
abbrev pub VariablesHaveRoom : Bodies → List Variable → (k s : ℕ) → Type 0
VariablesHaveRoom B [] k s = Unit {0}
VariablesHaveRoom B (v ∷ vs) k s = RootHasRoom B (Assign s (initial_of v k) (Frame k)) × VariablesHaveRoom B vs (k + cells_of v) s

-- each declaration takes its cells first, and its initial values are at the level after them
abbrev pub DeclarationsHaveRoom : Bodies → List (List Variable) → ℕ → Type 0
DeclarationsHaveRoom B [] s = Unit {0}
DeclarationsHaveRoom B (vs ∷ ds) s = let s1 = s + cells_of_all vs in (s1 ≤ 65535) × VariablesHaveRoom B vs s s1 × DeclarationsHaveRoom B ds s1

-- a command at level s: its roots and its blocks, in the same order as in `emit`
abbrev mutual
  pub CommandHasRoom : Bodies → Command → ℕ → Type 0
  CommandHasRoom B (commands.Call e) s = RootHasRoom B (Value s e)
  CommandHasRoom B (commands.Assign v a) s = RootHasRoom B (Assign s v a)
  CommandHasRoom B (commands.If sense e b) s = RootHasRoom B (Test s (not sense) e) × BlockHasRoom B b s
  CommandHasRoom B (commands.Test e b c) s = RootHasRoom B (Test s false e) × BlockHasRoom B b s × BlockHasRoom B c s
  CommandHasRoom B (commands.While sense e b) s = RootHasRoom B (Test s (not sense) e) × BlockHasRoom B b s
  CommandHasRoom B (commands.Repeat b) s = BlockHasRoom B b s
  CommandHasRoom B (commands.RepeatWhile b sense e) s = BlockHasRoom B b s × RootHasRoom B (Test s sense e)
  CommandHasRoom B (commands.For start limit by b) s =
      let s1 = level_in_for s in
      (s1 ≤ 65535) × RootHasRoom B (Assign s1 start (Frame s)) × RootHasRoom B (Assign s1 limit (Frame (s + 1)))
      × RootHasRoom B (Test s1 true (end_of_for by s)) × BlockHasRoom B b s1 × RootHasRoom B (Assign s1 (step_of_for by s) (Frame s))
  CommandHasRoom B (commands.SwitchOn e is) s = RootHasRoom B (Value s e) × ItemsHaveRoom B is s
  CommandHasRoom B (commands.ResultIs e) s = RootHasRoom B (Value s e)
  CommandHasRoom B (commands.Nested b) s = BlockHasRoom B b s
  CommandHasRoom B _ s = Unit {0}

  -- a block's list has neither CASE nor DEFAULT
  pub BlockHasRoom : Bodies → Block → ℕ → Type 0
  BlockHasRoom B (block ds is) s = DeclarationsHaveRoom B ds s × (entries_in is ≡ 0) × ItemsHaveRoom B is (s + cells_declared ds)

  -- the items of a list
  pub ItemsHaveRoom : Bodies → Items → ℕ → Type 0
  ItemsHaveRoom B no_item s = Unit {0}
  ItemsHaveRoom B (command c is) s = CommandHasRoom B c s × ItemsHaveRoom B is s
  ItemsHaveRoom B (case k is) s = ItemsHaveRoom B is s
  ItemsHaveRoom B (default is) s = ItemsHaveRoom B is s
  ItemsHaveRoom B (label l is) s = ItemsHaveRoom B is s

-- the bodies of the VALOFs whose numbers begin with `first`, each at its level; a VALOF within a body has a greater number
abbrev pub ValofHasRoom : ℕ → List Valof → Bodies
ValofHasRoom first [] n = Unit {0}
ValofHasRoom first (v ∷ vs) n =
    let inner = ValofHasRoom (first + 1) vs in
    elim (n == first) [ true ↦ BlockHasRoom inner v.body v.level | false ↦ inner n ]

-- the bodies of the VALOFs that may occur in a context
abbrev pub room_in : Around → Bodies
room_in a = ValofHasRoom a.least (drop a.least (valofs_in a.valofs.now))

-- the body of a routine, where s is the next free offset of the frame
abbrev pub BodyHasRoom : Bodies → Body → ℕ → Type 0
BodyHasRoom B (Gives e) s = RootHasRoom B (Value s e)
BodyHasRoom B (Does b) s = BlockHasRoom B b s

-- the routine of a place, if it has one
abbrev pub RoutineHasRoom : Bodies → Place → Type 0
RoutineHasRoom B (Code r) = let s = level_after_parameters r.parameters in (s ≤ 65535) × BodyHasRoom B r.body s
RoutineHasRoom B _ = Unit {0}

-- the number of a global is below 512
abbrev pub SettingHasRoom : Place → Type 0
SettingHasRoom (Code r) = IfSome r.global (λ n. n < 512)
SettingHasRoom _ = Unit {0}

-- the length of a string fits into a byte
abbrev pub StringHasRoom : Place → Type 0
StringHasRoom (Text bytes) = length bytes ≤ 255
StringHasRoom _ = Unit {0}
