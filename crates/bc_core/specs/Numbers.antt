-- Whether all numbers of a section are words, and the bytes of its strings are bytes. The numbers are those of its
-- expressions, CASEs, steps, vectors, statics and tables.
use Rattle.std.specs.Prelude.{ℕ, ◌&&◌, nat_lt, Bool, true, List, [], ◌∷◌}
use Rattle.bc_core.specs.Tree.{Exp, Num, Load, Neg, Not, Bin, Cond, Call, Args, no_argument, argument, Root, Value, Test, Assign}
use Rattle.bc_core.specs.Commands.{Variable, Initial, Vector, Command, Block, block, Items, no_item, command, case, default, label, Body, Gives, Does, Place, Code, Static, Table, Text, Valof, Core}
use Rattle.bc_core.specs.Commands as commands

-- whether a number is a word
abbrev pub is_word : ℕ → Bool
is_word n = nat_lt n 65536

abbrev mutual
  -- an expression
  pub has_words : Exp → Bool
  has_words (Num n) = is_word n
  has_words (Load e) = has_words e
  has_words (Neg e) = has_words e
  has_words (Not e) = has_words e
  has_words (Bin op a b) = has_words a && has_words b
  has_words (Cond c x y) = has_words c && has_words x && has_words y
  has_words (Call es f) = args_have_words es && has_words f
  has_words _ = true

  -- arguments
  pub args_have_words : Args → Bool
  args_have_words no_argument = true
  args_have_words (argument e es) = has_words e && args_have_words es

-- a root
abbrev pub root_has_words : Root → Bool
root_has_words (Value s e) = has_words e
root_has_words (Test s sense e) = has_words e
root_has_words (Assign s v a) = has_words v && has_words a

-- variables
abbrev pub variables_have_words : List Variable → Bool
variables_have_words [] = true
variables_have_words (Initial e ∷ vs) = has_words e && variables_have_words vs
variables_have_words (Vector k ∷ vs) = is_word k && variables_have_words vs

-- declarations
abbrev pub declarations_have_words : List (List Variable) → Bool
declarations_have_words [] = true
declarations_have_words (vs ∷ ds) = variables_have_words vs && declarations_have_words ds

abbrev mutual
  -- a command
  pub command_has_words : Command → Bool
  command_has_words (commands.Call e) = has_words e
  command_has_words (commands.Assign v a) = has_words v && has_words a
  command_has_words (commands.If sense e b) = has_words e && block_has_words b
  command_has_words (commands.Test e b c) = has_words e && block_has_words b && block_has_words c
  command_has_words (commands.While sense e b) = has_words e && block_has_words b
  command_has_words (commands.Repeat b) = block_has_words b
  command_has_words (commands.RepeatWhile b sense e) = block_has_words b && has_words e
  command_has_words (commands.For start limit by b) = has_words start && has_words limit && is_word by && block_has_words b
  command_has_words (commands.SwitchOn e is) = has_words e && items_have_words is
  command_has_words (commands.ResultIs e) = has_words e
  command_has_words (commands.Nested b) = block_has_words b
  command_has_words _ = true

  -- a block
  pub block_has_words : Block → Bool
  block_has_words (block ds is) = declarations_have_words ds && items_have_words is

  -- items of a list
  pub items_have_words : Items → Bool
  items_have_words no_item = true
  items_have_words (command c is) = command_has_words c && items_have_words is
  items_have_words (case k is) = is_word k && items_have_words is
  items_have_words (default is) = items_have_words is
  items_have_words (label l is) = items_have_words is

-- the body of a routine
abbrev pub body_has_words : Body → Bool
body_has_words (Gives e) = has_words e
body_has_words (Does b) = block_has_words b

-- whether all numbers of a list are words
abbrev pub are_words : List ℕ → Bool
are_words [] = true
are_words (w ∷ ws) = is_word w && are_words ws

-- whether all numbers of a list are bytes
abbrev pub are_bytes : List ℕ → Bool
are_bytes [] = true
are_bytes (b ∷ bs) = nat_lt b 256 && are_bytes bs

-- places
abbrev pub places_have_words : List Place → Bool
places_have_words [] = true
places_have_words (Code r ∷ places) = body_has_words r.body && places_have_words places
places_have_words (Static w ∷ places) = is_word w && places_have_words places
places_have_words (Table ws ∷ places) = are_words ws && places_have_words places
places_have_words (Text bytes ∷ places) = are_bytes bytes && places_have_words places

-- VALOFs
abbrev pub valofs_have_words : List Valof → Bool
valofs_have_words [] = true
valofs_have_words (v ∷ vs) = block_has_words v.body && valofs_have_words vs

-- a section
abbrev pub core_has_words : Core → Bool
core_has_words core = places_have_words core.places && valofs_have_words core.valofs
