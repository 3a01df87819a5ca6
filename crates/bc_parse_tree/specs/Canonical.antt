-- The canonical spelling of a tree. An expression that is a part of another one or of a list is in parentheses,
-- unless it is a name, a number, a character, a string, TRUE or FALSE. The routine of a call is in parentheses unless
-- it is a name. Every body is in section brackets, and DO is written out. Semicolons separate all parts. MANIFEST and
-- STATIC have `=`, GLOBAL has `:`.
use Rattle.std.specs.Prelude.{List, [], ◌∷◌, ◌++◌}
use Rattle.bc_lex_tokens.specs.declared.symbol.Symbol.{Symbol}
use Rattle.bc_lex_tokens.specs.declared.symbol.Symbol.TheVariants as sign
use Rattle.bc_parse_tree.specs.declared.tree.Storage.{Storage}
use Rattle.bc_parse_tree.specs.declared.tree.Storage.TheVariants as storage
use Rattle.bc_parse_tree.specs.Parts.{Part, A, Name, Number, Character, String}
use Rattle.bc_parse_tree.specs.Tree.{Exp, Exps, none, more, Block, block, Declaration, Declarations, no_declarations, declaration, Entries, no_entries, entry, Definition, Definitions, no_definitions, definition, Item, Labelled, Labels_alone, Items, no_items, item, Label, Labels, no_labels, label, Command}
use Rattle.bc_parse_tree.specs.Tree as tree
use Rattle.bc_parse_tree.specs.Operators.{binary_sign, unary_sign, storage_sign}
use Rattle.bc_parse_tree.specs.Spelling.{in_round, named}

-- the tokens of an expression that is a part of another one or of a list, given those without parentheses
abbrev pub part_of : Exp → List Part → List Part
part_of (tree.Name s) ts = ts
part_of (tree.Num n) ts = ts
part_of (tree.Character n) ts = ts
part_of (tree.Text s) ts = ts
part_of tree.True ts = ts
part_of tree.False ts = ts
part_of _ ts = in_round ts

-- the tokens of the routine of a call, given those without parentheses
abbrev pub routine_of : Exp → List Part → List Part
routine_of (tree.Name s) ts = ts
routine_of _ ts = in_round ts

-- the sign between a constant's name and its value
abbrev pub entry_sign : Storage → Symbol
entry_sign storage.Manifest = sign.Equal
entry_sign storage.Static = sign.Equal
entry_sign storage.Global = sign.Colon

-- the elements of a list, given with a separator before each: the first separator is dropped
abbrev pub after_first : List Part → List Part
after_first [] = []
after_first (p ∷ ts) = ts

abbrev mutual
  -- the tokens of an expression in a place where it needs no parentheses
  pub whole : Exp → List Part
  whole (tree.Name s) = Name s ∷ []
  whole (tree.Num n) = Number n ∷ []
  whole (tree.Character n) = Character n ∷ []
  whole (tree.Text s) = String s ∷ []
  whole tree.True = A sign.True ∷ []
  whole tree.False = A sign.False ∷ []
  whole (tree.Table ks) = A sign.Table ∷ after_first (after_commas ks)
  whole (tree.Valof b) = A sign.ValueOf ∷ block_spelling b
  whole (tree.Unary m e) = A (unary_sign m) ∷ part_of e (whole e)
  whole (tree.Bin o l r) = part_of l (whole l) ++ A (binary_sign o) ∷ part_of r (whole r)
  whole (tree.Cond c x y) = part_of c (whole c) ++ A sign.Arrow ∷ (part_of x (whole x) ++ A sign.Comma ∷ part_of y (whole y))
  whole (tree.Call f es) = routine_of f (whole f) ++ in_round (after_first (after_commas es))

  -- the tokens of expressions, each preceded by a comma
  pub after_commas : Exps → List Part
  after_commas none = []
  after_commas (more e es) = A sign.Comma ∷ (part_of e (whole e) ++ after_commas es)

  -- the tokens of a block: declarations, then items, separated by semicolons, in section brackets
  pub block_spelling : Block → List Part
  block_spelling (block ds is) = A sign.OpenSection ∷ (after_first (declarations_spelling ds ++ items_spelling is) ++ A sign.CloseSection ∷ [])

  -- the tokens of declarations, each preceded by a semicolon
  pub declarations_spelling : Declarations → List Part
  declarations_spelling no_declarations = []
  declarations_spelling (declaration d ds) = A sign.Semicolon ∷ (declaration_spelling d ++ declarations_spelling ds)

  -- the tokens of a declaration
  pub declaration_spelling : Declaration → List Part
  declaration_spelling (tree.Constants s es) = A (storage_sign s) ∷ A sign.OpenSection
      ∷ (after_first (entries_spelling (entry_sign s) es) ++ A sign.CloseSection ∷ [])
  declaration_spelling (tree.Let ds) = A sign.Let ∷ after_first (definitions_spelling ds)

  -- the tokens of names with their constants, each preceded by a semicolon; `s` is the sign after the name
  pub entries_spelling : Symbol → Entries → List Part
  entries_spelling s no_entries = []
  entries_spelling s (entry n k es) = A sign.Semicolon ∷ Name n ∷ A s ∷ (part_of k (whole k) ++ entries_spelling s es)

  -- the tokens of definitions, each preceded by AND
  pub definitions_spelling : Definitions → List Part
  definitions_spelling no_definitions = []
  definitions_spelling (definition d ds) = A sign.And ∷ (definition_spelling d ++ definitions_spelling ds)

  -- the tokens of a definition
  pub definition_spelling : Definition → List Part
  definition_spelling (tree.Variables ns es) = named ns ++ A sign.Equal ∷ after_first (after_commas es)
  definition_spelling (tree.Vector n k) = Name n ∷ A sign.Equal ∷ A sign.Vector ∷ part_of k (whole k)
  definition_spelling (tree.Function n ps e) = Name n ∷ (in_round (named ps) ++ A sign.Equal ∷ whole e)
  definition_spelling (tree.Routine n ps b) = Name n ∷ (in_round (named ps) ++ A sign.Be ∷ block_spelling b)

  -- the tokens of items, each preceded by a semicolon
  pub items_spelling : Items → List Part
  items_spelling no_items = []
  items_spelling (item i is) = A sign.Semicolon ∷ (item_spelling i ++ items_spelling is)

  -- the tokens of an item: its labels, then its command if it has one
  pub item_spelling : Item → List Part
  item_spelling (Labelled ls c) = labels_spelling ls ++ command_spelling c
  item_spelling (Labels_alone ls) = labels_spelling ls

  -- the tokens of labels, one after another
  pub labels_spelling : Labels → List Part
  labels_spelling no_labels = []
  labels_spelling (label l ls) = label_spelling l ++ labels_spelling ls

  -- the tokens of a label, with its colon
  pub label_spelling : Label → List Part
  label_spelling (tree.Case k) = A sign.Case ∷ (part_of k (whole k) ++ A sign.Colon ∷ [])
  label_spelling tree.Default = A sign.Default ∷ A sign.Colon ∷ []
  label_spelling (tree.Named n) = Name n ∷ A sign.Colon ∷ []

  -- the tokens of a command
  pub command_spelling : Command → List Part
  command_spelling (tree.Assign xs es) = after_first (after_commas xs) ++ A sign.Assign ∷ after_first (after_commas es)
  command_spelling (tree.Do f es) = routine_of f (whole f) ++ in_round (after_first (after_commas es))
  command_spelling (tree.Compound b) = block_spelling b
  command_spelling tree.Break = A sign.Break ∷ []
  command_spelling tree.Loop = A sign.Loop ∷ []
  command_spelling tree.EndCase = A sign.EndCase ∷ []
  command_spelling tree.Return = A sign.Return ∷ []
  command_spelling tree.Finish = A sign.Finish ∷ []
  command_spelling (tree.ResultIs e) = A sign.ResultIs ∷ whole e
  command_spelling (tree.Goto n) = A sign.Goto ∷ Name n ∷ []
  command_spelling (tree.Repeat c) = command_spelling c ++ A sign.Repeat ∷ []
  command_spelling (tree.RepeatWhile c e) = command_spelling c ++ A sign.RepeatWhile ∷ whole e
  command_spelling (tree.RepeatUntil c e) = command_spelling c ++ A sign.RepeatUntil ∷ whole e
  command_spelling (tree.If e b) = A sign.If ∷ (whole e ++ A sign.Do ∷ block_spelling b)
  command_spelling (tree.Unless e b) = A sign.Unless ∷ (whole e ++ A sign.Do ∷ block_spelling b)
  command_spelling (tree.While e b) = A sign.While ∷ (whole e ++ A sign.Do ∷ block_spelling b)
  command_spelling (tree.Until e b) = A sign.Until ∷ (whole e ++ A sign.Do ∷ block_spelling b)
  command_spelling (tree.Test e b d) = A sign.Test ∷ (whole e ++ A sign.Do ∷ (block_spelling b ++ A sign.Else ∷ block_spelling d))
  command_spelling (tree.For n a z b) = A sign.For ∷ Name n ∷ A sign.Equal ∷ (whole a ++ A sign.To ∷ (whole z ++ A sign.Do ∷ block_spelling b))
  command_spelling (tree.ForBy n a z k b) = A sign.For ∷ Name n ∷ A sign.Equal
      ∷ (whole a ++ A sign.To ∷ (whole z ++ A sign.By ∷ (part_of k (whole k) ++ A sign.Do ∷ block_spelling b)))
  command_spelling (tree.SwitchOn e is) = A sign.SwitchOn
      ∷ (whole e ++ A sign.Into ∷ A sign.OpenSection ∷ (after_first (items_spelling is) ++ A sign.CloseSection ∷ []))

-- the canonical spelling of a section: its declarations, separated by semicolons
abbrev pub section_spelling : Declarations → List Part
section_spelling ds = after_first (declarations_spelling ds)
