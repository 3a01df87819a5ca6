-- The roots of a section, found by walking its commands. A root comes before those in its VALOFs' bodies, and the bodies come in
-- the order of the root's code.
use Rattle.std.specs.Prelude.{ℕ, ◌+◌, ◌==◌, true, false, not, cond, nat_le, List, [], ◌∷◌, ◌++◌, flat_map}
use Rattle.bc_word.specs.declared.operator.Op.TheVariants as operators
use Rattle.bc_core.specs.Tree.{Exp, Frame, Load, Bin, Root, Value, Test, Assign}
use Rattle.bc_core.specs.Commands.{Variable, Initial, Vector, Command, Block, block, Items, no_item, command, case, default, label, Body, Gives, Does, Place, Valof, Core}
use Rattle.bc_core.specs.Commands as commands
use Rattle.bc_core.specs.Level.{cells_of, cells_of_all, cells_declared, level_in_for, level_after_parameters}
use Rattle.bc_core.specs.Command.{step_of_for}
use Rattle.bc_rules_defs.specs.declared.rule.Table.{Table}
use Rattle.bc_rules_defs.specs.declared.piece.Piece.{Piece}
use Rattle.bc_rules_defs.specs.declared.piece.Piece.TheVariants as pieces
use Rattle.bc_rules_defs.specs.Code.{root_code}
use Rattle.bc_gen_defs.specs.Bodies.{Choice}

-- the roots that a root contributes: itself, and those in its VALOFs' bodies
abbrev pub Counted : Type 0
Counted = Root → List Root

-- A root and the roots of its VALOFs' bodies. `valofs` has the numbers of a root's VALOFs in the order of its code, `within` the
-- roots of each body by its number.
abbrev pub with_bodies : (valofs : Root → List ℕ) → (within : ℕ → List Root) → Counted
with_bodies valofs within r = r ∷ flat_map within (valofs r)

-- a variable whose cell is at offset k, at level s; the cell of a vector is set to the address of the cell after it
abbrev pub roots_of_variable : Counted → Variable → (k s : ℕ) → List Root
roots_of_variable of (Initial e) k s = of (Assign s e (Frame k))
roots_of_variable of (Vector n) k s = of (Assign s (Frame (k + 1)) (Frame k))

abbrev pub roots_of_variables : Counted → List Variable → (k s : ℕ) → List Root
roots_of_variables of [] k s = []
roots_of_variables of (v ∷ vs) k s = roots_of_variable of v k s ++ roots_of_variables of vs (k + cells_of v) s

abbrev pub roots_of_declarations : Counted → List (List Variable) → ℕ → List Root
roots_of_declarations of [] s = []
roots_of_declarations of (vs ∷ ds) s =
    let n = cells_of_all vs in
    roots_of_variables of vs s (s + n) ++ roots_of_declarations of ds (s + n)

-- a FOR ends when its variable is past its limit
abbrev pub test_of_for : (by s : ℕ) → Exp
test_of_for by s = Bin (cond (nat_le 32768 by) operators.Less operators.Greater) (Load (Frame s)) (Load (Frame (s + 1)))

-- a command, where s is the next free offset of the frame
abbrev mutual
  pub roots_of_command : Counted → Command → ℕ → List Root
  roots_of_command of (commands.Call e) s = of (Value s e)
  roots_of_command of (commands.Assign v a) s = of (Assign s v a)
  roots_of_command of (commands.If sense e b) s = of (Test s (not sense) e) ++ roots_of_block of b s
  roots_of_command of (commands.Test e b c) s = of (Test s false e) ++ (roots_of_block of b s ++ roots_of_block of c s)
  roots_of_command of (commands.While sense e b) s = of (Test s (not sense) e) ++ roots_of_block of b s
  roots_of_command of (commands.Repeat b) s = roots_of_block of b s
  roots_of_command of (commands.RepeatWhile b sense e) s = roots_of_block of b s ++ of (Test s sense e)
  roots_of_command of (commands.For start limit by b) s =
      let s1 = level_in_for s in
      of (Assign s1 start (Frame s)) ++ (of (Assign s1 limit (Frame (s + 1))) ++ (of (Test s1 true (test_of_for by s))
      ++ (roots_of_block of b s1 ++ of (Assign s1 (step_of_for by s) (Frame s)))))
  roots_of_command of (commands.SwitchOn e is) s = of (Value s e) ++ roots_of_items of is s
  roots_of_command of commands.Break s = []
  roots_of_command of commands.Loop s = []
  roots_of_command of commands.EndCase s = []
  roots_of_command of commands.Return s = []
  roots_of_command of (commands.ResultIs e) s = of (Value s e)
  roots_of_command of commands.Finish s = []
  roots_of_command of (commands.Goto l) s = []
  roots_of_command of (commands.Nested b) s = roots_of_block of b s

  pub roots_of_block : Counted → Block → ℕ → List Root
  roots_of_block of (block ds is) s = roots_of_declarations of ds s ++ roots_of_items of is (s + cells_declared ds)

  pub roots_of_items : Counted → Items → ℕ → List Root
  roots_of_items of no_item s = []
  roots_of_items of (command c is) s = roots_of_command of c s ++ roots_of_items of is s
  roots_of_items of (case k is) s = roots_of_items of is s
  roots_of_items of (default is) s = roots_of_items of is s
  roots_of_items of (label l is) s = roots_of_items of is s

-- the roots of the body of each VALOF whose number is `first` or greater; a VALOF within a body has a greater number
abbrev pub roots_of_bodies : (valofs : Root → List ℕ) → (first : ℕ) → List Valof → ℕ → List Root
roots_of_bodies valofs first [] n = []
roots_of_bodies valofs first (v ∷ vs) n =
    let within = roots_of_bodies valofs (first + 1) vs in
    cond (n == first) (roots_of_block (with_bodies valofs within) v.body v.level) (within n)

abbrev pub roots_of_body : Counted → Body → ℕ → List Root
roots_of_body of (Gives e) s = of (Value s e)
roots_of_body of (Does b) s = roots_of_block of b s

abbrev pub roots_of_places : Counted → List Place → List Root
roots_of_places of [] = []
roots_of_places of (commands.Code r ∷ ps) = roots_of_body of r.body (level_after_parameters r.parameters) ++ roots_of_places of ps
roots_of_places of (commands.Static w ∷ ps) = roots_of_places of ps
roots_of_places of (commands.Table ws ∷ ps) = roots_of_places of ps
roots_of_places of (commands.Text bytes ∷ ps) = roots_of_places of ps

-- The roots of a section, given the VALOFs of each root in the order of its code.
abbrev pub roots_of : (valofs : Root → List ℕ) → Core → List Root
roots_of valofs core = roots_of_places (with_bodies valofs (roots_of_bodies valofs 0 core.valofs)) core.places

-- the numbers of the VALOFs whose bodies are in the code, in order
abbrev pub bodies_in : List Piece → List ℕ
bodies_in [] = []
bodies_in (pieces.Item i ∷ ps) = bodies_in ps
bodies_in (pieces.Body n ∷ ps) = n ∷ bodies_in ps

-- a root's VALOFs in the order of the code of its derivation
abbrev pub in_code : {T : Table} → Choice T → Root → List ℕ
in_code choice r = bodies_in (root_code (choice r) 0 0)
