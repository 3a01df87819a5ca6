-- What the program's resolved trees are in the definitions. A `Vec` inside a tree appears as a row of its elements.
use Rattle.std.specs.Prelude.{List, [], ◌∷◌, map}
use Rattle.bc_core.specs.declared.expression.CoreExp as expressions
use Rattle.bc_core.specs.declared.expression.CoreExp.{CoreExp, Row_of-CoreExp, end_of-CoreExp, more_of-CoreExp}
use Rattle.bc_core.specs.declared.expression.Root.{Root}
use Rattle.bc_core.specs.declared.expression.Root.TheVariants.{Value, Test, Assign}
use Rattle.bc_core.specs.declared.command.Variable.{Variable}
use Rattle.bc_core.specs.declared.command.Variable.TheVariants as variables
use Rattle.bc_core.specs.declared.command.Declaration.{Declaration}
use Rattle.bc_core.specs.declared.command.Command as command_forms
use Rattle.bc_core.specs.declared.command.Command.{Command, Row_of-ListItem, end_of-ListItem, more_of-ListItem}
use Rattle.bc_core.specs.declared.command.ListItem.{ListItem}
use Rattle.bc_core.specs.declared.command.ListItem.TheVariants as entries
use Rattle.bc_core.specs.declared.command.Block.{Block}
use Rattle.bc_core.specs.declared.command.Body.{Body}
use Rattle.bc_core.specs.declared.command.Body.TheVariants as bodies
use Rattle.bc_core.specs.declared.command.Routine.{Routine}
use Rattle.bc_core.specs.declared.command.Place.{Place}
use Rattle.bc_core.specs.declared.command.Place.TheVariants as places
use Rattle.bc_core.specs.declared.command.Valof.{Valof}
use Rattle.bc_core.specs.Tree as tree
use Rattle.bc_core.specs.Tree.{Exp, Args, no_argument, argument}
use Rattle.bc_core.specs.Commands as commands
use Rattle.bc_core.specs.Commands.{Items, no_item, block}

abbrev mutual
  -- an expression
  pub exp : CoreExp → Exp
  exp (expressions.Num n) = tree.Num n
  exp (expressions.Frame k) = tree.Frame k
  exp (expressions.Glob n) = tree.Glob n
  exp (expressions.Place m) = tree.Place m
  exp (expressions.Load' p e) = tree.Load (exp e)
  exp (expressions.Neg' p e) = tree.Neg (exp e)
  exp (expressions.Not' p e) = tree.Not (exp e)
  exp (expressions.Bin' op p a q b) = tree.Bin op (exp a) (exp b)
  exp (expressions.Cond' p c q x r y) = tree.Cond (exp c) (exp x) (exp y)
  exp (expressions.Call' shape es q f) = tree.Call (args_of_row es) (exp f)
  exp (expressions.Valof n) = tree.Valof n

  -- the arguments of a call, as a row
  pub args_of_row : {m : _} → Row_of-CoreExp m → Args
  args_of_row end_of-CoreExp = no_argument
  args_of_row (more_of-CoreExp e es) = argument (exp e) (args_of_row es)

-- the arguments of a call, as a list
abbrev pub args : List CoreExp → Args
args [] = no_argument
args (e ∷ es) = argument (exp e) (args es)

-- a root
abbrev pub root : Root → tree.Root
root (Value level e) = tree.Value level (exp e)
root (Test level sense e) = tree.Test level sense (exp e)
root (Assign level value address) = tree.Assign level (exp value) (exp address)

-- a variable
abbrev pub variable : Variable → commands.Variable
variable (variables.Value e) = commands.Initial (exp e)
variable (variables.Vector n) = commands.Vector n

-- declarations
abbrev pub declarations : List Declaration → List (List commands.Variable)
declarations ds = map (λ d. map variable d.variables.items) ds

abbrev mutual
  -- a command
  pub command : Command → commands.Command
  command (command_forms.Call e) = commands.Call (exp e)
  command (command_forms.Assign value address) = commands.Assign (exp value) (exp address)
  command (command_forms.If' c ds shape is) = commands.If c.sense (exp c.test) (block (declarations ds.items) (items_of_row is))
  command (command_forms.Test' e ds shape is es q js) = commands.Test (exp e) (block (declarations ds.items) (items_of_row is))
      (block (declarations es.items) (items_of_row js))
  command (command_forms.While' c ds shape is) = commands.While c.sense (exp c.test) (block (declarations ds.items) (items_of_row is))
  command (command_forms.Repeat' ds shape is) = commands.Repeat (block (declarations ds.items) (items_of_row is))
  command (command_forms.RepeatWhile' ds shape is c) = commands.RepeatWhile (block (declarations ds.items) (items_of_row is)) c.sense (exp c.test)
  command (command_forms.For' start limit by ds shape is) = commands.For (exp start) (exp limit) by (block (declarations ds.items) (items_of_row is))
  command (command_forms.SwitchOn' e shape is) = commands.SwitchOn (exp e) (items_of_row is)
  command command_forms.Break = commands.Break
  command command_forms.Loop = commands.Loop
  command command_forms.EndCase = commands.EndCase
  command command_forms.Return = commands.Return
  command (command_forms.ResultIs e) = commands.ResultIs (exp e)
  command command_forms.Finish = commands.Finish
  command (command_forms.Goto l) = commands.Goto l
  command (command_forms.Nested' ds shape is) = commands.Nested (block (declarations ds.items) (items_of_row is))

  -- the items of a list, as a row
  pub items_of_row : {m : _} → Row_of-ListItem m → Items
  items_of_row end_of-ListItem = no_item
  items_of_row (more_of-ListItem i is) = items_before i (items_of_row is)

  -- one item, before others
  pub items_before : ListItem → Items → Items
  items_before (entries.Command c) is = commands.command (command c) is
  items_before (entries.Case k) is = commands.case k is
  items_before entries.Default is = commands.default is
  items_before (entries.Label l) is = commands.label l is

-- the items of a list, as a list
abbrev pub items : List ListItem → Items
items [] = no_item
items (i ∷ is) = items_before i (items is)

-- a block
abbrev pub block_of : Block → commands.Block
block_of b = block (declarations b.declarations.items) (items b.list.items)

-- the body of a routine
abbrev pub body_of : Body → commands.Body
body_of (bodies.Value e) = commands.Gives (exp e)
body_of (bodies.Commands b) = commands.Does (block_of b)

-- a routine
abbrev pub routine_of : Routine → commands.Routine
routine_of r = record { global = r.global; parameters = r.parameters; body = body_of r.body }

-- a place
abbrev pub place_of : Place → commands.Place
place_of (places.Routine r) = commands.Code (routine_of r)
place_of (places.Static w) = commands.Static w
place_of (places.Table ws) = commands.Table ws.items
place_of (places.Text bytes) = commands.Text bytes.items

-- a VALOF
abbrev pub valof_of : Valof → commands.Valof
valof_of v = record { level = v.level; body = block_of v.body }

-- a section, which contracts see as the pair of its places and its VALOFs
abbrev pub section : List Place × List Valof → commands.Core
section (ps, vs) = record { places = map place_of ps; valofs = map valof_of vs }
