-- What is known of a tree that the grammar has a spelling for: no list is empty that mustn't be, and there are as
-- many values as names. What a repeated command must be like is left open, as a parameter.
use Rattle.std.proofs.Common.{◌≡◌, length}
use Rattle.bc_parse_tree.specs.Tree.{Exp, Exps, none, more, Block, block, Declaration, Declarations, no_declarations, declaration, Entries, no_entries, entry, Definition, Definitions, no_definitions, definition, Item, Labelled, Labels_alone, Items, no_items, item, Label, Labels, no_labels, label, Command}
use Rattle.bc_parse_tree.specs.Tree as tree
use Rattle.bc_parse_tree.specs.Spelling.{count}

abbrev pub SomeExps : Exps → Type 0
SomeExps none = ⊥
SomeExps (more e es) = Unit {0}

abbrev pub SomeDefinitions : Definitions → Type 0
SomeDefinitions no_definitions = ⊥
SomeDefinitions (definition d ds) = Unit {0}

abbrev pub SomeLabels : Labels → Type 0
SomeLabels no_labels = ⊥
SomeLabels (label l ls) = Unit {0}

-- a command that REPEAT can follow
abbrev pub IsSimple : Command → Type 0
IsSimple (tree.If e b) = ⊥
IsSimple (tree.Unless e b) = ⊥
IsSimple (tree.While e b) = ⊥
IsSimple (tree.Until e b) = ⊥
IsSimple (tree.Test e b d) = ⊥
IsSimple (tree.For n a z b) = ⊥
IsSimple (tree.ForBy n a z k b) = ⊥
IsSimple (tree.SwitchOn e is) = ⊥
IsSimple _ = Unit {0}

abbrev pub IsNoValof : Exp → Type 0
IsNoValof (tree.Valof b) = ⊥
IsNoValof _ = Unit {0}

-- a command whose canonical spelling doesn't end with a VALOF's body
abbrev pub EndsInNoValof : Command → Type 0
EndsInNoValof (tree.ResultIs e) = IsNoValof e
EndsInNoValof (tree.RepeatWhile c e) = IsNoValof e
EndsInNoValof (tree.RepeatUntil c e) = IsNoValof e
EndsInNoValof _ = Unit {0}

-- what a command before a REPEAT word must be like, other than simple, is left open
module _ (Repeated : Command → Type 0) where
  abbrev mutual
    pub FormedExp : Exp → Type 0
    FormedExp (tree.Name s) = Unit {0}
    FormedExp (tree.Num n) = Unit {0}
    FormedExp (tree.Character n) = Unit {0}
    FormedExp (tree.Text s) = Unit {0}
    FormedExp tree.True = Unit {0}
    FormedExp tree.False = Unit {0}
    FormedExp (tree.Table ks) = SomeExps ks × FormedExps ks
    FormedExp (tree.Valof b) = FormedBlock b
    FormedExp (tree.Unary m e) = FormedExp e
    FormedExp (tree.Bin o l r) = FormedExp l × FormedExp r
    FormedExp (tree.Cond c x y) = FormedExp c × FormedExp x × FormedExp y
    FormedExp (tree.Call f es) = FormedExp f × FormedExps es

    pub FormedExps : Exps → Type 0
    FormedExps none = Unit {0}
    FormedExps (more e es) = FormedExp e × FormedExps es

    pub FormedBlock : Block → Type 0
    FormedBlock (block ds is) = FormedDeclarations ds × FormedItems is

    pub FormedDeclaration : Declaration → Type 0
    FormedDeclaration (tree.Constants s es) = FormedEntries es
    FormedDeclaration (tree.Let ds) = SomeDefinitions ds × FormedDefinitions ds

    pub FormedDeclarations : Declarations → Type 0
    FormedDeclarations no_declarations = Unit {0}
    FormedDeclarations (declaration d ds) = FormedDeclaration d × FormedDeclarations ds

    pub FormedEntries : Entries → Type 0
    FormedEntries no_entries = Unit {0}
    FormedEntries (entry n k es) = FormedExp k × FormedEntries es

    -- as many values as names, at least one
    pub FormedDefinition : Definition → Type 0
    FormedDefinition (tree.Variables ns es) = (length ns ≡ count es) × SomeExps es × FormedExps es
    FormedDefinition (tree.Vector n k) = FormedExp k
    FormedDefinition (tree.Function n ps e) = FormedExp e
    FormedDefinition (tree.Routine n ps b) = FormedBlock b

    pub FormedDefinitions : Definitions → Type 0
    FormedDefinitions no_definitions = Unit {0}
    FormedDefinitions (definition d ds) = FormedDefinition d × FormedDefinitions ds

    pub FormedItem : Item → Type 0
    FormedItem (Labelled ls c) = FormedLabels ls × FormedCommand c
    FormedItem (Labels_alone ls) = SomeLabels ls × FormedLabels ls

    pub FormedItems : Items → Type 0
    FormedItems no_items = Unit {0}
    FormedItems (item i is) = FormedItem i × FormedItems is

    pub FormedLabel : Label → Type 0
    FormedLabel (tree.Case k) = FormedExp k
    FormedLabel tree.Default = Unit {0}
    FormedLabel (tree.Named n) = Unit {0}

    pub FormedLabels : Labels → Type 0
    FormedLabels no_labels = Unit {0}
    FormedLabels (label l ls) = FormedLabel l × FormedLabels ls

    -- as many values as places, at least one
    pub FormedCommand : Command → Type 0
    FormedCommand (tree.Assign xs es) = SomeExps xs × (count xs ≡ count es) × FormedExps xs × FormedExps es
    FormedCommand (tree.Do f es) = FormedExp f × FormedExps es
    FormedCommand (tree.Compound b) = FormedBlock b
    FormedCommand tree.Break = Unit {0}
    FormedCommand tree.Loop = Unit {0}
    FormedCommand tree.EndCase = Unit {0}
    FormedCommand tree.Return = Unit {0}
    FormedCommand tree.Finish = Unit {0}
    FormedCommand (tree.ResultIs e) = FormedExp e
    FormedCommand (tree.Goto n) = Unit {0}
    FormedCommand (tree.Repeat c) = IsSimple c × Repeated c × FormedCommand c
    FormedCommand (tree.RepeatWhile c e) = IsSimple c × Repeated c × FormedCommand c × FormedExp e
    FormedCommand (tree.RepeatUntil c e) = IsSimple c × Repeated c × FormedCommand c × FormedExp e
    FormedCommand (tree.If e b) = FormedExp e × FormedBlock b
    FormedCommand (tree.Unless e b) = FormedExp e × FormedBlock b
    FormedCommand (tree.While e b) = FormedExp e × FormedBlock b
    FormedCommand (tree.Until e b) = FormedExp e × FormedBlock b
    FormedCommand (tree.Test e b d) = FormedExp e × FormedBlock b × FormedBlock d
    FormedCommand (tree.For n a z b) = FormedExp a × FormedExp z × FormedBlock b
    FormedCommand (tree.ForBy n a z k b) = FormedExp a × FormedExp z × FormedExp k × FormedBlock b
    FormedCommand (tree.SwitchOn e is) = FormedExp e × FormedItems is
