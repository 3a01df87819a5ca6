-- Facts about each expression in the commands of a core.
use Rattle.std.proofs.Common.{List, [], ◌∷◌}
use Rattle.bc_core.specs.Tree.{Exp}
use Rattle.bc_core.specs.Commands.{Variable, Initial, Vector, Command, Block, block, Items, no_item, command, case, default, label, Body, Gives, Does, Place, Code, Static, Table, Text, Valof}
use Rattle.bc_core.specs.Commands as commands

abbrev pub OfVariables : (Exp → Type 0) → List Variable → Type 0
OfVariables L [] = Unit {0}
OfVariables L (Initial e ∷ vs) = L e × OfVariables L vs
OfVariables L (Vector n ∷ vs) = OfVariables L vs

abbrev pub OfDeclarations : (Exp → Type 0) → List (List Variable) → Type 0
OfDeclarations L [] = Unit {0}
OfDeclarations L (vs ∷ ds) = OfVariables L vs × OfDeclarations L ds

abbrev mutual
  pub OfCommand : (Exp → Type 0) → Command → Type 0
  OfCommand L (commands.Call e) = L e
  OfCommand L (commands.Assign v a) = L v × L a
  OfCommand L (commands.If sense e b) = L e × OfBlock L b
  OfCommand L (commands.Test e b c) = L e × OfBlock L b × OfBlock L c
  OfCommand L (commands.While sense e b) = L e × OfBlock L b
  OfCommand L (commands.Repeat b) = OfBlock L b
  OfCommand L (commands.RepeatWhile b sense e) = OfBlock L b × L e
  OfCommand L (commands.For start limit by b) = L start × L limit × OfBlock L b
  OfCommand L (commands.SwitchOn e is) = L e × OfItems L is
  OfCommand L commands.Break = Unit {0}
  OfCommand L commands.Loop = Unit {0}
  OfCommand L commands.EndCase = Unit {0}
  OfCommand L commands.Return = Unit {0}
  OfCommand L (commands.ResultIs e) = L e
  OfCommand L commands.Finish = Unit {0}
  OfCommand L (commands.Goto l) = Unit {0}
  OfCommand L (commands.Nested b) = OfBlock L b

  pub OfBlock : (Exp → Type 0) → Block → Type 0
  OfBlock L (block ds is) = OfDeclarations L ds × OfItems L is

  pub OfItems : (Exp → Type 0) → Items → Type 0
  OfItems L no_item = Unit {0}
  OfItems L (command c is) = OfCommand L c × OfItems L is
  OfItems L (case k is) = OfItems L is
  OfItems L (default is) = OfItems L is
  OfItems L (label k is) = OfItems L is

abbrev pub OfBody : (Exp → Type 0) → Body → Type 0
OfBody L (Gives e) = L e
OfBody L (Does b) = OfBlock L b

abbrev pub OfPlaces : (Exp → Type 0) → List Place → Type 0
OfPlaces L [] = Unit {0}
OfPlaces L (Code p ∷ ps) = OfBody L p.body × OfPlaces L ps
OfPlaces L (Static w ∷ ps) = OfPlaces L ps
OfPlaces L (Table ws ∷ ps) = OfPlaces L ps
OfPlaces L (Text bytes ∷ ps) = OfPlaces L ps

abbrev pub OfValofs : (Exp → Type 0) → List Valof → Type 0
OfValofs L [] = Unit {0}
OfValofs L (v ∷ vs) = OfBlock L v.body × OfValofs L vs
