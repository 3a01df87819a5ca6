-- Parsing, as a definition: it reads a closed list from left to right and gives the tree of a section, or the first
-- fault.
--
-- A reader takes two bounds: `nest` is how deep the tree it reads may nest, and `round` is how many more parentheses
-- may be open at once. It gives a piece: what it read, how deep that nests, and the remaining parts. A place in the
-- list is given by the number of parts from there to the end. Readers of expressions, commands and definitions call
-- each other; they take one another as the arguments `E`, `C` and `D`, and the end of the file ties the knot.
use Rattle.std.specs.Prelude.{ℕ, zero, suc, ◌+◌, ◌-◌, Bool, true, false, ◌&&◌, ◌||◌, List, [], ◌∷◌, ◌++◌, length, max, Option, Some, None, Result, Ok, Err, nat_lt, ◌==◌, if◌then◌else◌}
use Rattle.bc_lex_tokens.specs.declared.symbol.Symbol.{Symbol}
use Rattle.bc_lex_tokens.specs.declared.symbol.Symbol.TheVariants as sign
use Rattle.bc_lex_tokens.specs.Numbers.{same}
use Rattle.bc_parse_tree.specs.declared.tree.BinaryOp as code_binary
use Rattle.bc_parse_tree.specs.declared.tree.BinaryOp.TheVariants as binary
use Rattle.bc_parse_tree.specs.declared.tree.UnaryOp as code_unary
use Rattle.bc_parse_tree.specs.declared.tree.UnaryOp.TheVariants as unary
use Rattle.bc_parse_tree.specs.declared.tree.Storage.TheVariants as storage
use Rattle.bc_parse_tree.specs.Parts.{Part, A, Name, Number, Character, String, NewLine}
use Rattle.bc_parse_tree.specs.Tree.{Exp, Exps, none, more, Block, block, Declaration, Declarations, no_declarations, declaration, Entries, no_entries, entry, Definition, Definitions, no_definitions, definition, Item, Labelled, Labels_alone, Items, no_items, item, Label, Labels, no_labels, label, Command}
use Rattle.bc_parse_tree.specs.Tree as tree
use Rattle.bc_parse_tree.specs.View.{for_from}
use Rattle.bc_parse_tree.specs.Operators.{level_of, left_level, own_level, operand_level}
use Rattle.bc_parse_tree.specs.Spelling.{add_exp, add_entry, add_definition, add_declaration, add_label, add_item, count}
use Rattle.bc_parse_defs.specs.declared.words.Start.{Start}
use Rattle.bc_parse_defs.specs.declared.words.Start.TheVariants as start
use Rattle.bc_parse_defs.specs.declared.words.Tested.{Tested}
use Rattle.bc_parse_defs.specs.declared.words.Tested.TheVariants as tested
use Rattle.bc_parse_defs.specs.declared.words.CommandWord.{CommandWord}
use Rattle.bc_parse_defs.specs.declared.words.CommandWord.TheVariants as command_word
use Rattle.bc_parse_defs.specs.declared.words.SimpleWord.{SimpleWord}
use Rattle.bc_parse_defs.specs.declared.words.SimpleWord.TheVariants as simple_word
use Rattle.bc_parse_defs.specs.declared.words.RepeatWord.{RepeatWord}
use Rattle.bc_parse_defs.specs.declared.words.RepeatWord.TheVariants as repeat_word
use Rattle.bc_parse_defs.specs.declared.words.DeclarationWord.{DeclarationWord}
use Rattle.bc_parse_defs.specs.declared.words.DeclarationWord.TheVariants as declaration_word
use Rattle.bc_parse_defs.specs.declared.words.Places.{Places}
use Rattle.bc_parse_defs.specs.declared.words.Places.TheVariants as places

-- A fault, with its place. `Expected`: what is being read can't go on with the part there. `TooDeep`: a bound is exceeded.
pub data Fault : Type 0 where
  Expected : ℕ → Fault
  TooDeep : ℕ → Fault

-- goes on with the value of a result, or keeps its fault
infixl 10 ◌>>=◌
abbrev pub ◌>>=◌ : {A B : Type 0} → Result A Fault → (A → Result B Fault) → Result B Fault
(Ok x) >>= f = f x
(Err e) >>= f = Err e

-- a piece: what was read, how deep it nests, and the remaining parts
pub record Piece (X : Type 0) : Type 0 where
  pub tree : X
  pub height : ℕ
  pub rest : List Part

-- a piece from its three components
abbrev pub piece : {X : Type 0} → X → ℕ → List Part → Piece X
piece x h ts = record { tree = x; height = h; rest = ts }

-- ---- which construct a symbol begins

-- the binary operator that a symbol is
abbrev pub binary_of : Symbol → Option code_binary.BinaryOp
binary_of sign.Equivalent = Some binary.Equivalent
binary_of sign.NotEquivalent = Some binary.NotEquivalent
binary_of sign.LogicalOr = Some binary.Or
binary_of sign.LogicalAnd = Some binary.And
binary_of sign.ShiftLeft = Some binary.ShiftLeft
binary_of sign.ShiftRight = Some binary.ShiftRight
binary_of sign.Equal = Some binary.Equal
binary_of sign.NotEqual = Some binary.NotEqual
binary_of sign.Less = Some binary.Less
binary_of sign.GreaterEqual = Some binary.GreaterEqual
binary_of sign.Greater = Some binary.Greater
binary_of sign.LessEqual = Some binary.LessEqual
binary_of sign.Plus = Some binary.Add
binary_of sign.Minus = Some binary.Subtract
binary_of sign.Multiply = Some binary.Multiply
binary_of sign.Divide = Some binary.Divide
binary_of sign.Remainder = Some binary.Remainder
binary_of sign.Indirection = Some binary.Index
binary_of _ = None

-- the operand of more than one part that a symbol begins
abbrev pub start_of : Symbol → Option Start
start_of sign.OpenBracket = Some start.Bracket
start_of sign.Table = Some start.Table
start_of sign.ValueOf = Some start.Valof
start_of sign.Not = Some (start.Unary unary.Not)
start_of sign.Minus = Some (start.Unary unary.Neg)
start_of sign.Indirection = Some (start.Unary unary.Load)
start_of sign.AddressOf = Some (start.Unary unary.Address)
start_of _ = None

-- the command that a symbol begins, if REPEAT can't follow it
abbrev pub command_word_of : Symbol → Option CommandWord
command_word_of sign.If = Some (command_word.Tested tested.If)
command_word_of sign.Unless = Some (command_word.Tested tested.Unless)
command_word_of sign.While = Some (command_word.Tested tested.While)
command_word_of sign.Until = Some (command_word.Tested tested.Until)
command_word_of sign.Test = Some command_word.Test
command_word_of sign.For = Some command_word.For
command_word_of sign.SwitchOn = Some command_word.SwitchOn
command_word_of _ = None

-- the command that a symbol begins, if REPEAT can follow it
abbrev pub simple_word_of : Symbol → Option SimpleWord
simple_word_of sign.OpenSection = Some simple_word.Block
simple_word_of sign.Break = Some simple_word.Break
simple_word_of sign.Loop = Some simple_word.Loop
simple_word_of sign.EndCase = Some simple_word.EndCase
simple_word_of sign.Return = Some simple_word.Return
simple_word_of sign.Finish = Some simple_word.Finish
simple_word_of sign.ResultIs = Some simple_word.ResultIs
simple_word_of sign.Goto = Some simple_word.Goto
simple_word_of _ = None

-- the repetition that a symbol is
abbrev pub repeat_word_of : Symbol → Option RepeatWord
repeat_word_of sign.Repeat = Some repeat_word.Repeat
repeat_word_of sign.RepeatWhile = Some repeat_word.While
repeat_word_of sign.RepeatUntil = Some repeat_word.Until
repeat_word_of _ = None

-- the declaration that a symbol begins
abbrev pub declaration_word_of : Symbol → Option DeclarationWord
declaration_word_of sign.Let = Some declaration_word.Let
declaration_word_of sign.Manifest = Some (declaration_word.Constants storage.Manifest)
declaration_word_of sign.Static = Some (declaration_word.Constants storage.Static)
declaration_word_of sign.Global = Some (declaration_word.Constants storage.Global)
declaration_word_of _ = None

-- what was found, with the remaining parts
abbrev pub with_rest : {W : Type 0} → List Part → Option W → Option (W × List Part)
with_rest ts None = None
with_rest ts (Some w) = Some (w, ts)

-- what the first part begins according to the table `f`, with the remaining parts
abbrev pub word_in : {W : Type 0} → (Symbol → Option W) → List Part → Option (W × List Part)
word_in f (A s ∷ ts) = with_rest ts (f s)
word_in f _ = None

-- ---- single parts

-- the parts after this symbol, if it comes first
abbrev pub after_of : Symbol → List Part → Option (List Part)
after_of s (A t ∷ ts) = if same t s then Some ts else None
after_of s _ = None

-- the parts after a semicolon, or after a line break that counts as one, if it comes first
abbrev pub separator_of : List Part → Option (List Part)
separator_of (NewLine ∷ ts) = Some ts
separator_of ts = after_of sign.Semicolon ts

-- what was found; if nothing was, Expected at these parts
abbrev pub wanted : {A : Type 0} → List Part → Option A → Result A Fault
wanted ts None = Err (Expected (length ts))
wanted ts (Some x) = Ok x

-- the parts after this symbol, which must come first
abbrev pub expect_of : Symbol → List Part → Result (List Part) Fault
expect_of s ts = wanted ts (after_of s ts)

-- a name and the parts after it, if it comes first
abbrev pub name_in : List Part → Option (List ℕ × List Part)
name_in (Name n ∷ ts) = Some (n, ts)
name_in _ = None

-- a name and the parts after it, which must come first
abbrev pub name_of : List Part → Result (List ℕ × List Part) Fault
name_of ts = wanted ts (name_in ts)

-- an expression of one part, if it comes first
abbrev pub leaf_of : List Part → Option (Exp × List Part)
leaf_of (Name n ∷ ts) = Some (tree.Name n, ts)
leaf_of (Number n ∷ ts) = Some (tree.Num n, ts)
leaf_of (Character n ∷ ts) = Some (tree.Character n, ts)
leaf_of (String n ∷ ts) = Some (tree.Text n, ts)
leaf_of (A sign.True ∷ ts) = Some (tree.True, ts)
leaf_of (A sign.False ∷ ts) = Some (tree.False, ts)
leaf_of _ = None

-- continues by whether something was found
abbrev pub on : {A B : Type 0} → Option A → Result B Fault → (A → Result B Fault) → Result B Fault
on None otherwise next = otherwise
on (Some x) otherwise next = next x

-- whether something was found
abbrev pub is_there : {A : Type 0} → Option A → Bool
is_there None = false
is_there (Some x) = true

-- what was found, or else this
abbrev pub or_else : {A : Type 0} → Option A → A → A
or_else None y = y
or_else (Some x) y = x

-- the parts after a line break, which may be missing
abbrev pub past_line : List Part → List Part
past_line (NewLine ∷ ts) = ts
past_line ts = ts

-- the parts after a line break and DO, each of which may be missing
abbrev pub past_do : List Part → List Part
past_do ts = or_else (after_of sign.Do (past_line ts)) (past_line ts)

-- What follows an operand in an expression of level `level`, where the operand has the level `top`: the end of the
-- expression, an operator, the arguments of a call, or a choice `->`. The argument has the parts after it.
pub data Following : Type 0 where
  Ends : Following
  Operator : code_binary.BinaryOp → List Part → Following
  Arguments : List Part → Following
  Choice : List Part → Following

-- whether the expression ends here
abbrev pub ends : Following → Bool
ends Ends = true
ends (Operator o ts) = false
ends (Arguments ts) = false
ends (Choice ts) = false

-- an operator continues the expression if its level is high enough for the place, and that of the operand for the
-- operator
abbrev pub operator_of : ℕ → ℕ → List Part → Option code_binary.BinaryOp → Following
operator_of level top ts None = Ends
operator_of level top ts (Some o) = if nat_lt (level_of o) level || nat_lt top (left_level o) then Ends else Operator o ts

-- what follows, by the first part
abbrev pub following : ℕ → ℕ → List Part → Following
following level top (A sign.OpenBracket ∷ ts) = if nat_lt top 12 then Ends else Arguments ts
following level top (A sign.Arrow ∷ ts) = if nat_lt 1 level || nat_lt top 2 then Ends else Choice ts
following level top (A s ∷ ts) = operator_of level top ts (binary_of s)
following level top _ = Ends

-- what begins a label: CASE, DEFAULT, or a name and a colon; the argument has the parts after it
pub data LabelStart : Type 0 where
  NoLabel : LabelStart
  CaseLabel : List Part → LabelStart
  DefaultLabel : List Part → LabelStart
  NameLabel : List ℕ → List Part → LabelStart

-- a name begins a label if a colon follows
abbrev pub named_start : List ℕ → Option (List Part) → LabelStart
named_start n None = NoLabel
named_start n (Some ts) = NameLabel n ts

-- the label that comes first
abbrev pub label_start : List Part → LabelStart
label_start (A sign.Case ∷ ts) = CaseLabel ts
label_start (A sign.Default ∷ ts) = DefaultLabel ts
label_start (Name n ∷ ts) = named_start n (after_of sign.Colon ts)
label_start _ = NoLabel

-- what follows the first name of a definition: `(`, `= VEC`, or anything else, which must be more names or `=`
pub data Shape : Type 0 where
  Parameters : List Part → Shape
  Size : List Part → Shape
  Values : Shape

-- VEC after `=` makes it a vector
abbrev pub vector_shape : Option (List Part) → Shape
vector_shape None = Values
vector_shape (Some ts) = elim (after_of sign.Vector ts) [ None ↦ Values | Some us ↦ Size us ]

-- the shape of a definition, by the parts after its first name
abbrev pub shape_of : List Part → Shape
shape_of (A sign.OpenBracket ∷ ts) = Parameters ts
shape_of ts = vector_shape (after_of sign.Equal ts)

-- ---- loops

-- Repeats a step until one says that it was the last. The number of steps is bounded, so that this is a definition;
-- the bound is always one more than the number of parts, and each step but the last takes a part.
unfoldable pub turns : {X : Type 0} → (Piece X → Result (Piece X × Bool) Fault) → ℕ → Piece X → Result (Piece X) Fault
turns step zero s = Err (Expected (length s.rest))
turns step (suc k) s = step s >>= λ t. if t.1 then Ok t.0 else turns step k t.0

-- the empty list, if nothing remains
abbrev pub no_parts : List Part → Option (List Part)
no_parts [] = Some []
no_parts _ = None

-- the parts after the end of a list of this kind, if it comes first
abbrev pub end_of : Places → List Part → Option (List Part)
end_of places.Section ts = no_parts ts
end_of places.Block ts = after_of sign.CloseSection ts
end_of places.Cases ts = after_of sign.CloseSection ts

-- the same piece with other remaining parts
abbrev pub moved : {X : Type 0} → Piece X → List Part → Piece X
moved p ts = piece p.tree p.height ts

-- after an element of a list of this kind: a semicolon, or the end, which makes it the last
abbrev pub place_end : Places → List Part → Result (List Part × Bool) Fault
place_end mode ts =
    on (separator_of ts)
    (on (end_of mode ts) (Err (Expected (length ts))) (λ after. Ok (after, true)))
    (λ after. Ok (after, false))

-- ---- names

-- `=` or `:` after a constant's name
abbrev pub constant_sign_of : List Part → Result (List Part) Fault
constant_sign_of ts = on (after_of sign.Equal ts) (expect_of sign.Colon ts) (λ after. Ok after)

-- one name of a list; a comma after it says that another follows
unfoldable pub name_turn : Piece (List (List ℕ)) → Result (Piece (List (List ℕ)) × Bool) Fault
name_turn s =
    name_of s.rest >>= λ n.
    on (after_of sign.Comma n.1)
    (Ok (piece (s.tree ++ n.0 ∷ []) s.height n.1, true))
    (λ after. Ok (piece (s.tree ++ n.0 ∷ []) s.height after, false))

-- one or more names, separated by commas
unfoldable pub names_read : List Part → Result (Piece (List (List ℕ))) Fault
names_read ts = turns name_turn (length ts + 1) (piece [] 0 ts)

-- the parameters of a routine, after `(`: none, or names separated by commas
unfoldable pub parameters_read : List Part → Result (Piece (List (List ℕ))) Fault
parameters_read ts =
    on (after_of sign.CloseBracket ts)
    (names_read ts >>= λ ns. expect_of sign.CloseBracket ns.rest >>= λ rest. Ok (piece ns.tree 0 rest))
    (λ after. Ok (piece [] 0 after))

-- ---- expressions

-- The type of a reader of expressions: given `nest`, `round`, a level and the parts, it reads an expression of at
-- least this level.
abbrev pub Reader : Type 0
Reader = ℕ → ℕ → ℕ → List Part → Result (Piece Exp) Fault

-- the type of a reader of commands: given `nest`, `round` and the parts
abbrev pub CommandReader : Type 0
CommandReader = ℕ → ℕ → List Part → Result (Piece Command) Fault

-- after an expression of a list: the last if the list has `limit` of them, or if no comma follows
abbrev pub next_exp : ℕ → Piece Exps → Result (Piece Exps × Bool) Fault
next_exp limit p =
    if count p.tree == limit then Ok (p, true)
    else on (after_of sign.Comma p.rest) (Ok (p, true)) (λ after. Ok (moved p after, false))

-- the call that a list consists of, if it is one call and nothing else
abbrev pub call_in : Exps → Option (Exp × Exps)
call_in (more (tree.Call f es) none) = Some (f, es)
call_in _ = None

module _ (E : Reader) where
  -- one expression of a list
  unfoldable pub exps_turn : ℕ → ℕ → ℕ → ℕ → Piece Exps → Result (Piece Exps × Bool) Fault
  exps_turn nest round level limit s = E nest round level s.rest >>= λ e. next_exp limit (piece (add_exp s.tree e.tree) (max s.height e.height) e.rest)

  -- one or more expressions, separated by commas, but at most `limit`
  unfoldable pub exps_read : ℕ → ℕ → ℕ → ℕ → List Part → Result (Piece Exps) Fault
  exps_read nest round level limit ts = turns (exps_turn nest round level limit) (length ts + 1) (piece none 0 ts)

  -- the arguments of a call, after `(`
  unfoldable pub arguments_read : ℕ → ℕ → List Part → Result (Piece Exps) Fault
  arguments_read nest round ts =
      on (after_of sign.CloseBracket ts)
      (exps_read nest round 1 (length ts + 1) ts >>= λ es. expect_of sign.CloseBracket es.rest >>= λ rest. Ok (moved es rest))
      (λ after. Ok (piece none 0 after))

  -- An operator after the operand `left`, with its right operand. `height` is how deep `left` nests, and `place` is
  -- the operator's place, which is named if the whole nests too deep.
  unfoldable pub with_operator : ℕ → ℕ → code_binary.BinaryOp → Exp → ℕ → ℕ → List Part → Result (Piece Exp) Fault
  with_operator nest round o left height place ts =
      if nat_lt height nest then (
      E (nest - 1) round (level_of o + 1) ts >>= λ right.
      Ok (piece (tree.Bin o left right.tree) (max height right.height + 1) right.rest))
      else Err (TooDeep place)

  -- the arguments of a call after the routine `left`; TooDeep names the bracket
  unfoldable pub with_arguments : ℕ → ℕ → Exp → ℕ → ℕ → List Part → Result (Piece Exp) Fault
  with_arguments nest round left height place ts =
      if nat_lt height nest && nat_lt 0 round then (
      arguments_read (nest - 1) (round - 1) ts >>= λ es.
      Ok (piece (tree.Call left es.tree) (max height es.height + 1) es.rest))
      else Err (TooDeep place)

  -- `->` and both values after the test `left`; TooDeep names the beginning of the expression
  unfoldable pub with_choice : ℕ → ℕ → Exp → ℕ → ℕ → List Part → Result (Piece Exp) Fault
  with_choice nest round left height place ts =
      if nat_lt height nest then (
      E (nest - 1) round 1 ts >>= λ x.
      expect_of sign.Comma x.rest >>= λ rest.
      E (nest - 1) round 1 rest >>= λ y.
      Ok (piece (tree.Cond left x.tree y.tree) (max (max height x.height) y.height + 1) y.rest))
      else Err (TooDeep place)

  -- one of these after an operand, and the level of the whole; `begin` is where the expression begins
  unfoldable pub suffix_read : ℕ → ℕ → ℕ → Following → Exp → ℕ → ℕ → Result (Piece (Exp × ℕ)) Fault
  suffix_read nest round begin Ends left height place = Err (Expected place)
  suffix_read nest round begin (Operator o after) left height place = with_operator nest round o left height place after >>= λ p. Ok
      (piece (p.tree, level_of o) p.height p.rest)
  suffix_read nest round begin (Arguments after) left height place = with_arguments nest round left height place after >>= λ p. Ok
      (piece (p.tree, 12) p.height p.rest)
  suffix_read nest round begin (Choice after) left height place = with_choice nest round left height begin after >>= λ p. Ok (piece (p.tree, 1) p.height p.rest)

  -- one step of an expression: it ends here, or an operator, a call or a choice follows
  unfoldable pub grow_turn : ℕ → ℕ → ℕ → ℕ → Piece (Exp × ℕ) → Result (Piece (Exp × ℕ) × Bool) Fault
  grow_turn nest round begin level s =
      if ends (following level s.tree.1 s.rest) then Ok (s, true)
      else suffix_read nest round begin (following level s.tree.1 s.rest) s.tree.0 s.height (length s.rest) >>= λ t. Ok (t, false)

  -- from an operand to the end of the expression
  unfoldable pub grow_read : ℕ → ℕ → ℕ → ℕ → Piece (Exp × ℕ) → Result (Piece Exp) Fault
  grow_read nest round begin level s = turns (grow_turn nest round begin level) (length s.rest + 1) s >>= λ p. Ok (piece p.tree.0 p.height p.rest)

  -- an expression in parentheses, after `(`, whose place is `place`
  unfoldable pub bracket_read : ℕ → ℕ → ℕ → List Part → Result (Piece Exp) Fault
  bracket_read nest round place ts =
      if nat_lt 0 round then (
      E nest (round - 1) 1 ts >>= λ e. expect_of sign.CloseBracket e.rest >>= λ rest. Ok (moved e rest))
      else Err (TooDeep place)

  -- the constants of a TABLE, after the word
  unfoldable pub table_read : ℕ → ℕ → List Part → Result (Piece Exp) Fault
  table_read nest round ts = exps_read (nest - 1) round 2 (length ts + 1) ts >>= λ ks. Ok (piece (tree.Table ks.tree) (ks.height + 1) ks.rest)

  -- the operand of a unary operator, after its sign
  unfoldable pub unary_read : ℕ → ℕ → code_unary.UnaryOp → List Part → Result (Piece Exp) Fault
  unary_read nest round m ts = E (nest - 1) round (operand_level m) ts >>= λ e. Ok (piece (tree.Unary m e.tree) (e.height + 1) e.rest)

-- ---- commands

-- a command with a test and one body
abbrev pub tested_command : Tested → Exp → Block → Command
tested_command tested.If e b = tree.If e b
tested_command tested.Unless e b = tree.Unless e b
tested_command tested.While e b = tree.While e b
tested_command tested.Until e b = tree.Until e b

-- the block of one command
abbrev pub alone : Command → Block
alone c = block no_declarations (item (Labelled no_labels c) no_items)

-- a command as a body, and how deep that nests; a block is the body itself
abbrev pub as_body : Command → ℕ → Block × ℕ
as_body (tree.Compound b) h = (b, h - 1)
as_body c h = (alone c, h)

-- whether there is a label
abbrev pub some_label : Labels → Bool
some_label no_labels = false
some_label (label l ls) = true

-- whether an item ends here: a semicolon or `$)` comes first
abbrev pub is_place_end : List Part → Bool
is_place_end ts = is_there (separator_of ts) || is_there (after_of sign.CloseSection ts)

-- whether a list of items is empty
abbrev pub no_item_yet : Items → Bool
no_item_yet no_items = true
no_item_yet (item i is) = false

-- whether a list of this kind may have items
abbrev pub may_command : Places → Bool
may_command places.Section = false
may_command places.Block = true
may_command places.Cases = true

-- the word of a declaration, if it comes first and a declaration may be here: in a section or block, before the first
-- item
abbrev pub declares : Places → Bool → List Part → Option (DeclarationWord × List Part)
declares places.Cases is_first ts = None
declares places.Section is_first ts = if is_first then word_in declaration_word_of ts else None
declares places.Block is_first ts = if is_first then word_in declaration_word_of ts else None

module _ (E : Reader) where
  -- a REPEAT, REPEATWHILE or REPEATUNTIL after the command `s`, whose test follows
  unfoldable pub repeated : ℕ → ℕ → RepeatWord → Piece Command → List Part → Result (Piece Command × Bool) Fault
  repeated nest round repeat_word.Repeat s ts = Ok (piece (tree.Repeat s.tree) (s.height + 1) ts, false)
  repeated nest round repeat_word.While s ts =
      E (nest - 1) round 1 ts >>= λ e. Ok (piece (tree.RepeatWhile s.tree e.tree) (max s.height e.height + 1) e.rest, false)
  repeated nest round repeat_word.Until s ts =
      E (nest - 1) round 1 ts >>= λ e. Ok (piece (tree.RepeatUntil s.tree e.tree) (max s.height e.height + 1) e.rest, false)

  -- one repetition after a command, if one follows; TooDeep names its word
  unfoldable pub repeat_turn : ℕ → ℕ → Piece Command → Result (Piece Command × Bool) Fault
  repeat_turn nest round s =
      on (word_in repeat_word_of s.rest)
      (Ok (s, true))
      (λ w. if nat_lt s.height nest then repeated nest round w.0 s w.1 else Err (TooDeep (length s.rest)))

  -- all repetitions after a command
  unfoldable pub repeats_read : ℕ → ℕ → Piece Command → Result (Piece Command) Fault
  repeats_read nest round c = turns (repeat_turn nest round) (length c.rest + 1) c

  -- one label of an item, if one follows
  unfoldable pub label_read : ℕ → ℕ → Piece Labels → LabelStart → Result (Piece Labels × Bool) Fault
  label_read nest round s NoLabel = Ok (s, true)
  label_read nest round s (CaseLabel ts) = E nest round 2 ts >>= λ k. expect_of sign.Colon k.rest >>= λ rest. Ok
      (piece (add_label s.tree (tree.Case k.tree)) (max s.height k.height) rest, false)
  label_read nest round s (DefaultLabel ts) = expect_of sign.Colon ts >>= λ rest. Ok (piece (add_label s.tree tree.Default) s.height rest, false)
  label_read nest round s (NameLabel n ts) = Ok (piece (add_label s.tree (tree.Named n)) s.height ts, false)

  -- the labels of an item
  unfoldable pub labels_read : ℕ → ℕ → List Part → Result (Piece Labels) Fault
  labels_read nest round ts = turns (λ s. label_read nest round s (label_start s.rest)) (length ts + 1) (piece no_labels 0 ts)

  -- a name and its constant
  unfoldable pub entry_read : ℕ → ℕ → Piece Entries → Result (Piece Entries) Fault
  entry_read nest round s =
      name_of s.rest >>= λ n.
      constant_sign_of n.1 >>= λ rest.
      E nest round 2 rest >>= λ k.
      Ok (piece (add_entry s.tree n.0 k.tree) (max s.height k.height) k.rest)

  -- one element of a list of constants: its end, an empty place, or a name and its constant
  unfoldable pub entry_turn : ℕ → ℕ → Piece Entries → Result (Piece Entries × Bool) Fault
  entry_turn nest round s =
      on (after_of sign.CloseSection s.rest)
      (on (separator_of s.rest)
      (entry_read nest round s >>= λ p. place_end places.Block p.rest >>= λ e. Ok (moved p e.0, e.1))
      (λ after. Ok (moved s after, false)))
      (λ after. Ok (moved s after, true))

  -- the constants of a MANIFEST, STATIC or GLOBAL, after `$(`
  unfoldable pub entries_read : ℕ → ℕ → List Part → Result (Piece Entries) Fault
  entries_read nest round ts = turns (entry_turn nest round) (length ts + 1) (piece no_entries 0 ts)

-- the type of a reader of definitions: given `nest`, `round` and the parts
abbrev pub DefinitionReader : Type 0
DefinitionReader = ℕ → ℕ → List Part → Result (Piece Definition) Fault

module _ (E : Reader) (C : CommandReader) (D : DefinitionReader) where
  -- an item: labels, then a command, which may be missing if there is a label and the item ends there
  unfoldable pub item_read : ℕ → ℕ → List Part → Result (Piece Item) Fault
  item_read nest round ts =
      labels_read E nest round ts >>= λ ls.
      if some_label ls.tree && is_place_end ls.rest then Ok (piece (Labels_alone ls.tree) ls.height ls.rest)
      else C nest round ls.rest >>= λ c. Ok (piece (Labelled ls.tree c.tree) (max ls.height c.height) c.rest)

  -- one definition of a LET; AND says that another follows
  unfoldable pub definition_turn : ℕ → ℕ → Piece Definitions → Result (Piece Definitions × Bool) Fault
  definition_turn nest round s =
      D nest round s.rest >>= λ d.
      on (after_of sign.And d.rest)
      (Ok (piece (add_definition s.tree d.tree) (max s.height d.height) d.rest, true))
      (λ after. Ok (piece (add_definition s.tree d.tree) (max s.height d.height) after, false))

  -- the definitions of a LET
  unfoldable pub definitions_read : ℕ → ℕ → List Part → Result (Piece Definitions) Fault
  definitions_read nest round ts = turns (definition_turn nest round) (length ts + 1) (piece no_definitions 0 ts)

  -- a declaration, after its first word
  unfoldable pub declaration_read : ℕ → ℕ → DeclarationWord → List Part → Result (Piece Declaration) Fault
  declaration_read nest round declaration_word.Let ts = definitions_read nest round ts >>= λ ds. Ok (piece (tree.Let ds.tree) ds.height ds.rest)
  declaration_read nest round (declaration_word.Constants s) ts = expect_of sign.OpenSection ts >>= λ rest. entries_read E nest round rest >>= λ es. Ok
      (piece (tree.Constants s es.tree) es.height es.rest)

  -- a declaration or an item, appended to those up to here
  unfoldable pub part_read : Places → ℕ → ℕ → Piece (Declarations × Items) → Result (Piece (Declarations × Items)) Fault
  part_read mode nest round s =
      on (declares mode (no_item_yet s.tree.1) s.rest)
      (if may_command mode then (
      item_read nest round s.rest >>= λ i.
      Ok (piece (s.tree.0, add_item s.tree.1 i.tree) (max s.height i.height) i.rest))
      else Err (Expected (length s.rest)))
      (λ w. declaration_read nest round w.0 w.1 >>= λ d. Ok (piece (add_declaration s.tree.0 d.tree, s.tree.1) (max s.height d.height) d.rest))

  -- one element of a list of declarations and items: its end, an empty place, or a declaration or item
  unfoldable pub place_turn : Places → ℕ → ℕ → Piece (Declarations × Items) → Result (Piece (Declarations × Items) × Bool) Fault
  place_turn mode nest round s =
      on (end_of mode s.rest)
      (on (separator_of s.rest)
      (part_read mode nest round s >>= λ p. place_end mode p.rest >>= λ e. Ok (moved p e.0, e.1))
      (λ after. Ok (moved s after, false)))
      (λ after. Ok (moved s after, true))

  -- all declarations and items of a list, and its end
  unfoldable pub places_read : Places → ℕ → ℕ → List Part → Result (Piece (Declarations × Items)) Fault
  places_read mode nest round ts = turns (place_turn mode nest round) (length ts + 1) (piece (no_declarations, no_items) 0 ts)

  -- a block, after `$(`
  unfoldable pub block_read : ℕ → ℕ → List Part → Result (Piece Block) Fault
  block_read nest round ts = places_read places.Block nest round ts >>= λ p. Ok (piece (block p.tree.0 p.tree.1) p.height p.rest)

  -- a block as a body; if a repetition follows, the body is the block of the repeated command
  unfoldable pub body_of_block : ℕ → ℕ → Piece Block → Result (Piece Block) Fault
  body_of_block nest round b =
      on (word_in repeat_word_of b.rest)
      (Ok b)
      (λ w. if nat_lt b.height nest then (repeats_read E nest round (piece (tree.Compound b.tree) (b.height + 1) b.rest) >>= λ c. Ok
      (piece (as_body c.tree c.height).0 (as_body c.tree c.height).1 c.rest)) else Err (TooDeep (length b.rest)))

  -- a body: a block, or a command
  unfoldable pub body_read : ℕ → ℕ → List Part → Result (Piece Block) Fault
  body_read nest round ts =
      on (after_of sign.OpenSection ts)
      (C nest round ts >>= λ c. Ok (piece (as_body c.tree c.height).0 (as_body c.tree c.height).1 c.rest))
      (λ inner. block_read nest round inner >>= λ b. body_of_block nest round b)

  -- a body after a condition or a range, where a line break and DO may precede it
  unfoldable pub do_read : ℕ → ℕ → List Part → Result (Piece Block) Fault
  do_read nest round ts = body_read nest round (past_do ts)

  -- the body of a VALOF, after the word
  unfoldable pub valof_read : ℕ → ℕ → List Part → Result (Piece Exp) Fault
  valof_read nest round ts = body_read (nest - 1) round ts >>= λ b. Ok (piece (tree.Valof b.tree) (b.height + 1) b.rest)

  -- the rest of an operand whose first part is at `place`, and its level
  unfoldable pub started_read : ℕ → ℕ → ℕ → Start → List Part → Result (Piece (Exp × ℕ)) Fault
  started_read nest round place start.Bracket ts = bracket_read E nest round place ts >>= λ e. Ok (piece (e.tree, 12) e.height e.rest)
  started_read nest round place start.Table ts = table_read E nest round ts >>= λ e. Ok (piece (e.tree, 12) e.height e.rest)
  started_read nest round place start.Valof ts = valof_read nest round ts >>= λ e. Ok (piece (e.tree, 12) e.height e.rest)
  started_read nest round place (start.Unary m) ts = unary_read E nest round m ts >>= λ e. Ok (piece (e.tree, own_level m) e.height e.rest)

  -- an operand, and its level
  unfoldable pub operand_read : ℕ → ℕ → List Part → Result (Piece (Exp × ℕ)) Fault
  operand_read nest round ts =
      on (leaf_of ts)
      (on (word_in start_of ts) (Err (Expected (length ts))) (λ w. started_read nest round (length ts) w.0 w.1))
      (λ e. Ok (piece (e.0, 12) 1 e.1))

  -- An assignment or a call. Both sides of an assignment have the same number of expressions; a surplus one is
  -- refused at its comma.
  unfoldable pub assigned_read : ℕ → ℕ → List Part → Result (Piece Command) Fault
  assigned_read nest round ts =
      exps_read E (nest - 1) round 1 (length ts + 1) ts >>= λ xs.
      on (after_of sign.Assign xs.rest)
      (on (call_in xs.tree) (Err (Expected (length xs.rest))) (λ c. Ok (piece (tree.Do c.0 c.1) (xs.height + 1) xs.rest)))
      (λ after.
      exps_read E (nest - 1) round 1 (count xs.tree) after >>= λ es.
      if count es.tree == count xs.tree then Ok (piece (tree.Assign xs.tree es.tree) (max xs.height es.height + 1) es.rest) else Err
      (Expected (length es.rest)))

  -- the rest of a command that REPEAT can follow, after its first word
  unfoldable pub simple_read : ℕ → ℕ → SimpleWord → List Part → Result (Piece Command) Fault
  simple_read nest round simple_word.Block ts = block_read (nest - 1) round ts >>= λ b. Ok (piece (tree.Compound b.tree) (b.height + 1) b.rest)
  simple_read nest round simple_word.Break ts = Ok (piece tree.Break 1 ts)
  simple_read nest round simple_word.Loop ts = Ok (piece tree.Loop 1 ts)
  simple_read nest round simple_word.EndCase ts = Ok (piece tree.EndCase 1 ts)
  simple_read nest round simple_word.Return ts = Ok (piece tree.Return 1 ts)
  simple_read nest round simple_word.Finish ts = Ok (piece tree.Finish 1 ts)
  simple_read nest round simple_word.ResultIs ts = E (nest - 1) round 1 ts >>= λ e. Ok (piece (tree.ResultIs e.tree) (e.height + 1) e.rest)
  simple_read nest round simple_word.Goto ts = name_of ts >>= λ n. Ok (piece (tree.Goto n.0) 1 n.1)

  -- IF, UNLESS, WHILE or UNTIL, after the word
  unfoldable pub tested_read : Tested → ℕ → ℕ → List Part → Result (Piece Command) Fault
  tested_read t nest round ts =
      E (nest - 1) round 1 ts >>= λ e.
      do_read (nest - 1) round e.rest >>= λ b.
      Ok (piece (tested_command t e.tree b.tree) (max e.height b.height + 1) b.rest)

  -- TEST, after the word
  unfoldable pub test_read : ℕ → ℕ → List Part → Result (Piece Command) Fault
  test_read nest round ts =
      E (nest - 1) round 1 ts >>= λ e.
      do_read (nest - 1) round e.rest >>= λ b.
      expect_of sign.Else b.rest >>= λ rest.
      body_read (nest - 1) round rest >>= λ d.
      Ok (piece (tree.Test e.tree b.tree d.tree) (max (max e.height b.height) d.height + 1) d.rest)

  -- the step of a FOR, if BY follows
  unfoldable pub step_read : ℕ → ℕ → List Part → Result (Piece (Option Exp)) Fault
  step_read nest round ts =
      on (after_of sign.By ts)
      (Ok (piece None 0 ts))
      (λ after. E nest round 2 after >>= λ k. Ok (piece (Some k.tree) k.height k.rest))

  -- FOR, after the word
  unfoldable pub for_read : ℕ → ℕ → List Part → Result (Piece Command) Fault
  for_read nest round ts =
      name_of ts >>= λ n.
      expect_of sign.Equal n.1 >>= λ first.
      E (nest - 1) round 1 first >>= λ a.
      expect_of sign.To a.rest >>= λ last.
      E (nest - 1) round 1 last >>= λ z.
      step_read (nest - 1) round z.rest >>= λ k.
      do_read (nest - 1) round k.rest >>= λ b.
      Ok (piece (for_from n.0 a.tree z.tree k.tree b.tree) (max (max (max a.height z.height) k.height) b.height + 1) b.rest)

  -- SWITCHON, after the word
  unfoldable pub switch_read : ℕ → ℕ → List Part → Result (Piece Command) Fault
  switch_read nest round ts =
      E (nest - 1) round 1 ts >>= λ e.
      expect_of sign.Into e.rest >>= λ into.
      expect_of sign.OpenSection into >>= λ inner.
      places_read places.Cases (nest - 1) round inner >>= λ p.
      Ok (piece (tree.SwitchOn e.tree p.tree.1) (max e.height p.height + 1) p.rest)

  -- the rest of a command that REPEAT can't follow, after its first word
  unfoldable pub compound_read : ℕ → ℕ → CommandWord → List Part → Result (Piece Command) Fault
  compound_read nest round (command_word.Tested t) ts = tested_read t nest round ts
  compound_read nest round command_word.Test ts = test_read nest round ts
  compound_read nest round command_word.For ts = for_read nest round ts
  compound_read nest round command_word.SwitchOn ts = switch_read nest round ts

  -- a command that REPEAT can follow, with its repetitions
  unfoldable pub repeatable_read : ℕ → ℕ → List Part → Result (Piece Command) Fault
  repeatable_read nest round ts =
      on (word_in simple_word_of ts) (assigned_read nest round ts) (λ w. simple_read nest round w.0 w.1) >>= λ c.
      repeats_read E nest round c

  -- a command
  unfoldable pub command_read : ℕ → ℕ → List Part → Result (Piece Command) Fault
  command_read nest round ts = on (word_in command_word_of ts) (repeatable_read nest round ts) (λ w. compound_read nest round w.0 w.1)

  -- `N, .. = E, ..`: as many initialisers as names; a surplus one is refused at its comma
  unfoldable pub variables_read : ℕ → ℕ → List Part → Result (Piece Definition) Fault
  variables_read nest round ts =
      names_read ts >>= λ ns.
      expect_of sign.Equal ns.rest >>= λ rest.
      exps_read E (nest - 1) round 1 (length ns.tree) rest >>= λ es.
      if count es.tree == length ns.tree then Ok (piece (tree.Variables ns.tree es.tree) (es.height + 1) es.rest) else Err (Expected (length es.rest))

  -- the constant of a VEC, after the word
  unfoldable pub vector_read : ℕ → ℕ → List ℕ → List Part → Result (Piece Definition) Fault
  vector_read nest round n ts = E (nest - 1) round 2 ts >>= λ k. Ok (piece (tree.Vector n k.tree) (k.height + 1) k.rest)

  -- a function or routine, after its `(`, whose place is `place`
  unfoldable pub routine_read : ℕ → ℕ → List ℕ → ℕ → List Part → Result (Piece Definition) Fault
  routine_read nest round n place ts =
      if nat_lt 0 round then (
      parameters_read ts >>= λ ps.
      on (after_of sign.Equal ps.rest)
      (expect_of sign.Be ps.rest >>= λ rest. body_read (nest - 1) round rest >>= λ b. Ok (piece (tree.Routine n ps.tree b.tree) (b.height + 1) b.rest))
      (λ after. E (nest - 1) round 1 after >>= λ e. Ok (piece (tree.Function n ps.tree e.tree) (e.height + 1) e.rest)))
      else Err (TooDeep place)

  -- a definition by what follows its first name `n`; `ts` are the parts from that name on
  unfoldable pub shaped_read : ℕ → ℕ → List ℕ → ℕ → List Part → Shape → Result (Piece Definition) Fault
  shaped_read nest round n place ts (Parameters after) = routine_read nest round n place after
  shaped_read nest round n place ts (Size after) = vector_read nest round n after
  shaped_read nest round n place ts Values = variables_read nest round ts

  -- a definition
  unfoldable pub defined_read : ℕ → ℕ → List Part → Result (Piece Definition) Fault
  defined_read nest round ts = name_of ts >>= λ n. shaped_read nest round n.0 (length n.1) ts (shape_of n.1)

-- ---- The knot: the readers of expressions, commands and definitions. Their first argument bounds how many readings
-- may be active within one another, which makes this a definition. A reading within another has one less of `nest` or
-- `round`, so a number as large as their sum never runs out.

unfoldable mutual
  -- an expression
  pub exp_of : ℕ → Reader
  exp_of zero nest round level ts = Err (TooDeep (length ts))
  exp_of (suc n) nest round level ts =
      if nat_lt 0 nest then (
      operand_read (exp_of n) (command_of n) (definition_of n) nest round ts >>= λ p. grow_read (exp_of n) nest round (length ts) level p)
      else Err (TooDeep (length ts))

  -- a command
  pub command_of : ℕ → CommandReader
  command_of zero nest round ts = Err (TooDeep (length ts))
  command_of (suc n) nest round ts = if nat_lt 0 nest then command_read (exp_of n) (command_of n) (definition_of n) nest round ts else Err (TooDeep (length ts))

  -- a definition
  pub definition_of : ℕ → DefinitionReader
  definition_of zero nest round ts = Err (TooDeep (length ts))
  definition_of (suc n) nest round ts = if nat_lt 0 nest then defined_read (exp_of n) (command_of n) (definition_of n) nest round ts else Err
      (TooDeep (length ts))

-- A section: its tree nests at most 200 deep, and at most 400 parentheses are open at once. 600 is the sum of both.
unfoldable pub section_of : List Part → Result Declarations Fault
section_of ts = places_read (exp_of 600) (command_of 600) (definition_of 600) places.Section 200 400 ts >>= λ p. Ok p.tree.0
