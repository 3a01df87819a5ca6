-- Trees whose numbers are words and whose strings are bytes. All trees that the parser returns are such.
use Rattle.std.specs.Prelude.{ℕ, ◌<◌, List, [], ◌∷◌}
use Rattle.bc_parse_tree.specs.Tree.{Exp, Exps, none, more, Block, block, Declaration, Declarations, no_declarations, declaration, Entries, no_entries, entry, Definition, Definitions, no_definitions, definition, Labelled, Labels_alone, Items, no_items, item, Label, Labels, no_labels, label, Command}
use Rattle.bc_parse_tree.specs.Tree as tree

-- bytes
abbrev pub AreBytes : List ℕ → Type 0
AreBytes [] = Unit {0}
AreBytes (b ∷ bs) = (b < 256) × AreBytes bs

abbrev mutual
  -- an expression
  pub ExpHasWords : Exp → Type 0
  ExpHasWords (tree.Num n) = n < 65536
  ExpHasWords (tree.Character n) = n < 65536
  ExpHasWords (tree.Text text) = AreBytes text
  ExpHasWords (tree.Table ks) = ExpsHaveWords ks
  ExpHasWords (tree.Valof b) = BlockHasWords b
  ExpHasWords (tree.Unary m e) = ExpHasWords e
  ExpHasWords (tree.Bin o l r) = ExpHasWords l × ExpHasWords r
  ExpHasWords (tree.Cond c x y) = ExpHasWords c × ExpHasWords x × ExpHasWords y
  ExpHasWords (tree.Call f es) = ExpHasWords f × ExpsHaveWords es
  ExpHasWords _ = Unit {0}

  -- expressions
  pub ExpsHaveWords : Exps → Type 0
  ExpsHaveWords none = Unit {0}
  ExpsHaveWords (more e es) = ExpHasWords e × ExpsHaveWords es

  -- a block
  pub BlockHasWords : Block → Type 0
  BlockHasWords (block ds is) = DeclarationsHaveWords ds × ItemsHaveWords is

  -- declarations
  pub DeclarationsHaveWords : Declarations → Type 0
  DeclarationsHaveWords no_declarations = Unit {0}
  DeclarationsHaveWords (declaration d ds) = DeclarationHasWords d × DeclarationsHaveWords ds

  -- a declaration
  pub DeclarationHasWords : Declaration → Type 0
  DeclarationHasWords (tree.Constants s es) = EntriesHaveWords es
  DeclarationHasWords (tree.Let ds) = DefinitionsHaveWords ds

  -- the entries of a declaration
  pub EntriesHaveWords : Entries → Type 0
  EntriesHaveWords no_entries = Unit {0}
  EntriesHaveWords (entry n k es) = ExpHasWords k × EntriesHaveWords es

  -- the definitions of a LET
  pub DefinitionsHaveWords : Definitions → Type 0
  DefinitionsHaveWords no_definitions = Unit {0}
  DefinitionsHaveWords (definition d ds) = DefinitionHasWords d × DefinitionsHaveWords ds

  -- a definition
  pub DefinitionHasWords : Definition → Type 0
  DefinitionHasWords (tree.Variables ns es) = ExpsHaveWords es
  DefinitionHasWords (tree.Vector n k) = ExpHasWords k
  DefinitionHasWords (tree.Function n ps e) = ExpHasWords e
  DefinitionHasWords (tree.Routine n ps b) = BlockHasWords b

  -- the items of a list
  pub ItemsHaveWords : Items → Type 0
  ItemsHaveWords no_items = Unit {0}
  ItemsHaveWords (item (Labelled ls c) is) = LabelsHaveWords ls × CommandHasWords c × ItemsHaveWords is
  ItemsHaveWords (item (Labels_alone ls) is) = LabelsHaveWords ls × ItemsHaveWords is

  -- labels
  pub LabelsHaveWords : Labels → Type 0
  LabelsHaveWords no_labels = Unit {0}
  LabelsHaveWords (label l ls) = LabelHasWords l × LabelsHaveWords ls

  -- a label
  pub LabelHasWords : Label → Type 0
  LabelHasWords (tree.Case k) = ExpHasWords k
  LabelHasWords _ = Unit {0}

  -- a command
  pub CommandHasWords : Command → Type 0
  CommandHasWords (tree.Assign xs es) = ExpsHaveWords xs × ExpsHaveWords es
  CommandHasWords (tree.Do f es) = ExpHasWords f × ExpsHaveWords es
  CommandHasWords (tree.Compound b) = BlockHasWords b
  CommandHasWords (tree.ResultIs e) = ExpHasWords e
  CommandHasWords (tree.Repeat c) = CommandHasWords c
  CommandHasWords (tree.RepeatWhile c e) = CommandHasWords c × ExpHasWords e
  CommandHasWords (tree.RepeatUntil c e) = CommandHasWords c × ExpHasWords e
  CommandHasWords (tree.If e b) = ExpHasWords e × BlockHasWords b
  CommandHasWords (tree.Unless e b) = ExpHasWords e × BlockHasWords b
  CommandHasWords (tree.While e b) = ExpHasWords e × BlockHasWords b
  CommandHasWords (tree.Until e b) = ExpHasWords e × BlockHasWords b
  CommandHasWords (tree.Test e b c) = ExpHasWords e × BlockHasWords b × BlockHasWords c
  CommandHasWords (tree.For n a z b) = ExpHasWords a × ExpHasWords z × BlockHasWords b
  CommandHasWords (tree.ForBy n a z k b) = ExpHasWords a × ExpHasWords z × ExpHasWords k × BlockHasWords b
  CommandHasWords (tree.SwitchOn e is) = ExpHasWords e × ItemsHaveWords is
  CommandHasWords _ = Unit {0}
