-- The number of words of a section: the fixed words of its commands, its data, and the words of its roots.
use Rattle.std.specs.Prelude.{ℕ, ◌+◌, ◌*◌, ◌/◌, ◌==◌, true, false, not, List, [], ◌∷◌, length}
use Rattle.bc_core.specs.Tree.{Exp, Frame, Load, Neg, Not, Bin, Cond, Call, Args, no_argument, argument, Root, Value, Test, Assign}
use Rattle.bc_core.specs.Tree as tree
use Rattle.bc_core.specs.Commands.{Variable, Initial, Vector, Command, Block, block, Items, no_item, command, case, default, label, Body, Gives, Does, Place, Valof, Core}
use Rattle.bc_core.specs.Commands as commands
use Rattle.bc_core.specs.Level.{cells_of, cells_of_all, cells_declared, level_in_for, level_after_parameters}
use Rattle.bc_core.specs.Command.{step_of_for}
use Rattle.bc_gen_defs.specs.Emit.{end_of_for, cases_in}
use Rattle.bc_gen_defs.specs.Bodies.{level_of}

-- the words of a root, with those of the bodies of its VALOFs
abbrev pub Words : Type 0
Words = Root → ℕ

abbrev pub words_of_variable : Words → Variable → (k s : ℕ) → ℕ
words_of_variable words (Initial e) k s = words (Assign s e (Frame k))
words_of_variable words (Vector n) k s = words (Assign s (Frame (k + 1)) (Frame k))

abbrev pub words_of_variables : Words → List Variable → (k s : ℕ) → ℕ
words_of_variables words [] k s = 0
words_of_variables words (v ∷ vs) k s = words_of_variable words v k s + words_of_variables words vs (k + cells_of v) s

abbrev pub words_of_declarations : Words → List (List Variable) → ℕ → ℕ
words_of_declarations words [] s = 0
words_of_declarations words (vs ∷ ds) s = let n = cells_of_all vs in words_of_variables words vs s (s + n) + words_of_declarations words ds (s + n)

abbrev mutual
  pub words_of_command : Words → Command → ℕ → ℕ
  words_of_command words (commands.Call e) s = words (Value s e)
  words_of_command words (commands.Assign v a) s = words (Assign s v a)
  words_of_command words (commands.If sense e b) s = words (Test s (not sense) e) + words_of_block words b s
  words_of_command words (commands.Test e b c) s = 2 + words (Test s false e) + words_of_block words b s + words_of_block words c s
  words_of_command words (commands.While sense e b) s = 2 + words (Test s (not sense) e) + words_of_block words b s
  words_of_command words (commands.Repeat b) s = 2 + words_of_block words b s
  words_of_command words (commands.RepeatWhile b sense e) s = words_of_block words b s + words (Test s sense e)
  words_of_command words (commands.For start limit by b) s =
      let s1 = level_in_for s in
      2 + words (Assign s1 start (Frame s)) + words (Assign s1 limit (Frame (s + 1))) + words (Test s1 true (end_of_for by s))
      + words_of_block words b s1 + words (Assign s1 (step_of_for by s) (Frame s))
  words_of_command words (commands.SwitchOn e is) s = 3 + 2 * cases_in is + words (Value s e) + words_of_items words is s
  words_of_command words commands.Break s = 2
  words_of_command words commands.Loop s = 2
  words_of_command words commands.EndCase s = 2
  words_of_command words commands.Return s = 2
  words_of_command words (commands.ResultIs e) s = 2 + words (Value s e)
  words_of_command words commands.Finish s = 1
  words_of_command words (commands.Goto l) s = 2
  words_of_command words (commands.Nested b) s = words_of_block words b s

  pub words_of_block : Words → Block → ℕ → ℕ
  words_of_block words (block ds is) s = words_of_declarations words ds s + words_of_items words is (s + cells_declared ds)

  pub words_of_items : Words → Items → ℕ → ℕ
  words_of_items words no_item s = 0
  words_of_items words (command c is) s = words_of_command words c s + words_of_items words is s
  words_of_items words (case k is) s = words_of_items words is s
  words_of_items words (default is) s = words_of_items words is s
  words_of_items words (label l is) s = words_of_items words is s

-- the words of the bodies of the VALOFs in an expression, given those of each VALOF's number
abbrev mutual
  pub words_within : (ℕ → ℕ) → Exp → ℕ
  words_within bodies (Load e) = words_within bodies e
  words_within bodies (Neg e) = words_within bodies e
  words_within bodies (Not e) = words_within bodies e
  words_within bodies (Bin op a b) = words_within bodies a + words_within bodies b
  words_within bodies (Cond c x y) = words_within bodies c + words_within bodies x + words_within bodies y
  words_within bodies (Call es e) = words_within_args bodies es + words_within bodies e
  words_within bodies (tree.Valof n) = bodies n
  words_within bodies _ = 0

  pub words_within_args : (ℕ → ℕ) → Args → ℕ
  words_within_args bodies no_argument = 0
  words_within_args bodies (argument e es) = words_within bodies e + words_within_args bodies es

abbrev pub words_within_root : (ℕ → ℕ) → Root → ℕ
words_within_root bodies (Value s e) = words_within bodies e
words_within_root bodies (Test s sense e) = words_within bodies e
words_within_root bodies (Assign s value address) = words_within bodies value + words_within bodies address

-- a root's own words and those of its VALOFs' bodies
abbrev pub with_bodies : Words → (ℕ → ℕ) → Words
with_bodies own bodies r = own r + words_within_root bodies r

-- the words of the bodies of the VALOFs whose numbers begin with `first`, each with its final `L0`
abbrev pub words_of_bodies : (own : Words) → (levels : ℕ → ℕ) → ℕ → List Valof → ℕ → ℕ
words_of_bodies own levels first [] n = 0
words_of_bodies own levels first (v ∷ vs) n =
    let inner = words_of_bodies own levels (first + 1) vs in
    elim (n == first) [ true ↦ words_of_block (with_bodies own inner) v.body (levels n) + 1 | false ↦ inner n ]

abbrev pub words_of_body : Words → Body → ℕ → ℕ
words_of_body words (Gives e) s = words (Value s e) + 1
words_of_body words (Does b) s = words_of_block words b s + 2

-- the words of a place; a string's length and bytes are packed two to a word
abbrev pub words_of_place : Words → Place → ℕ
words_of_place words (commands.Code r) = words_of_body words r.body (level_after_parameters r.parameters)
words_of_place words (commands.Static w) = 1
words_of_place words (commands.Table ws) = length ws
words_of_place words (commands.Text bytes) = (length bytes + 2) / 2

abbrev pub words_of_places : Words → List Place → ℕ
words_of_places words [] = 0
words_of_places words (p ∷ ps) = words_of_place words p + words_of_places words ps

-- The words of a section, given the words of each root without the bodies of its VALOFs.
abbrev pub section_size : Words → Core → ℕ
section_size own core = words_of_places (with_bodies own (words_of_bodies own (level_of core.valofs) 0 core.valofs)) core.places
