-- The grammar: which parts spell which tree. Each constructor is a line of the grammar. Lists grow at their end,
-- since a parser gathers them in that order.
use Rattle.std.specs.Prelude.{◌≡◌, ◌≢◌, ℕ, ◌+◌, ◌≤◌, Bool, true, false, List, [], ◌∷◌, ◌++◌, length}
use Rattle.bc_lex_tokens.specs.declared.symbol.Symbol.{Symbol}
use Rattle.bc_lex_tokens.specs.declared.symbol.Symbol.TheVariants as sign
use Rattle.bc_parse_tree.specs.declared.tree.BinaryOp as code_binary
use Rattle.bc_parse_tree.specs.declared.tree.UnaryOp as code_unary
use Rattle.bc_parse_tree.specs.declared.tree.Storage.{Storage}
use Rattle.bc_parse_tree.specs.Parts.{Part, A, Name, Number, Character, String, NewLine}
use Rattle.bc_parse_tree.specs.Tree.{Exp, Exps, none, more, Block, block, Declaration, Declarations, no_declarations, declaration, Entries, no_entries, entry, Definition, Definitions, no_definitions, definition, Item, Labelled, Labels_alone, Items, no_items, item, Label, Labels, no_labels, label, Command}
use Rattle.bc_parse_tree.specs.Tree as tree
use Rattle.bc_parse_tree.specs.Operators.{level_of, left_level, own_level, operand_level, binary_sign, unary_sign, storage_sign}

-- ---- a list with one more element at its end

abbrev pub add_exp : Exps → Exp → Exps
add_exp none e = more e none
add_exp (more d ds) e = more d (add_exp ds e)

abbrev pub add_entry : Entries → List ℕ → Exp → Entries
add_entry no_entries n k = entry n k no_entries
add_entry (entry m j es) n k = entry m j (add_entry es n k)

abbrev pub add_definition : Definitions → Definition → Definitions
add_definition no_definitions d = definition d no_definitions
add_definition (definition c ds) d = definition c (add_definition ds d)

abbrev pub add_declaration : Declarations → Declaration → Declarations
add_declaration no_declarations d = declaration d no_declarations
add_declaration (declaration c ds) d = declaration c (add_declaration ds d)

abbrev pub add_label : Labels → Label → Labels
add_label no_labels l = label l no_labels
add_label (label k ls) l = label k (add_label ls l)

abbrev pub add_item : Items → Item → Items
add_item no_items i = item i no_items
add_item (item h is) i = item h (add_item is i)

-- the number of expressions in a list
abbrev pub count : Exps → ℕ
count none = 0
count (more e es) = count es + 1

-- ---- pieces of spellings

-- these parts, in parentheses
abbrev pub in_round : List Part → List Part
in_round ts = A sign.OpenBracket ∷ (ts ++ A sign.CloseBracket ∷ [])

-- names, separated by commas
abbrev pub named : List (List ℕ) → List Part
named [] = []
named (n ∷ []) = Name n ∷ []
named (n ∷ m ∷ ns) = Name n ∷ A sign.Comma ∷ named (m ∷ ns)

-- a part that may be left out, followed by the rest
abbrev pub optional : Bool → Part → List Part → List Part
optional true s ts = s ∷ ts
optional false s ts = ts

-- a semicolon, or a line break that counts as one
pub data IsSeparator : Part → Type 0 where
  semicolon : IsSeparator (A sign.Semicolon)
  new_line : IsSeparator NewLine

-- the sign between a constant's name and its value
pub data IsConstantSign : Symbol → Type 0 where
  equal : IsConstantSign sign.Equal
  colon : IsConstantSign sign.Colon

-- The block that a body is: a block itself, or else the block of its one command.
abbrev pub body : Command → Block
body (tree.Compound b) = b
body c = block no_declarations (item (Labelled no_labels c) no_items)

mutual
  -- These parts spell this expression in a place for this level. A unary operator may begin any such place,
  -- whatever its own level.
  pub data Spells : ℕ → Exp → List Part → Type 0 where
    of_level : {level : ℕ} {e : Exp} {ts : List Part} → IsOfLevel level e ts → Spells level e ts
    prefixed : {level : ℕ} {m : code_unary.UnaryOp} {e : Exp} {ts : List Part} → Spells (operand_level m) e ts
        → Spells level (tree.Unary m e) (A (unary_sign m) ∷ ts)

  -- These parts spell this expression, and it has this level itself or binds more tightly.
  pub data IsOfLevel : ℕ → Exp → List Part → Type 0 where
    name : {level : ℕ} {s : List ℕ} → IsOfLevel level (tree.Name s) (Name s ∷ [])
    number : {level n : ℕ} → IsOfLevel level (tree.Num n) (Number n ∷ [])
    character : {level n : ℕ} → IsOfLevel level (tree.Character n) (Character n ∷ [])
    text : {level : ℕ} {s : List ℕ} → IsOfLevel level (tree.Text s) (String s ∷ [])
    true_word : {level : ℕ} → IsOfLevel level tree.True (A sign.True ∷ [])
    false_word : {level : ℕ} → IsOfLevel level tree.False (A sign.False ∷ [])
    bracketed : {level : ℕ} {e : Exp} {ts : List Part} → Spells 1 e ts → IsOfLevel level e (in_round ts)
    table : {level : ℕ} {ks : Exps} {ts : List Part} → SpellsExps 2 ks ts → IsOfLevel level (tree.Table ks) (A sign.Table ∷ ts)
    valof : {level : ℕ} {b : Block} {ts : List Part} → SpellsBody b ts → IsOfLevel level (tree.Valof b) (A sign.ValueOf ∷ ts)
    call : {level : ℕ} {f : Exp} {es : Exps} {ts us : List Part} → IsOfLevel 12 f ts → SpellsArguments es us
        → IsOfLevel level (tree.Call f es) (ts ++ in_round us)
    unary : {level : ℕ} {m : code_unary.UnaryOp} {e : Exp} {ts : List Part} → level ≤ own_level m → Spells (operand_level m) e ts
        → IsOfLevel level (tree.Unary m e) (A (unary_sign m) ∷ ts)
    binary : {level : ℕ} {o : code_binary.BinaryOp} {l r : Exp} {ts us : List Part} → level ≤ level_of o → IsOfLevel (left_level o) l ts
        → Spells (level_of o + 1) r us
        → IsOfLevel level (tree.Bin o l r) (ts ++ A (binary_sign o) ∷ us)
    condition : {level : ℕ} {c x y : Exp} {ts us vs : List Part} → level ≤ 1 → IsOfLevel 2 c ts → Spells 1 x us → Spells 1 y vs
        → IsOfLevel level (tree.Cond c x y) (ts ++ A sign.Arrow ∷ (us ++ A sign.Comma ∷ vs))

  -- one or more expressions of a level, separated by commas
  pub data SpellsExps : ℕ → Exps → List Part → Type 0 where
    one : {level : ℕ} {e : Exp} {ts : List Part} → Spells level e ts → SpellsExps level (more e none) ts
    next : {level : ℕ} {e : Exp} {es : Exps} {ts us : List Part} → SpellsExps level es ts → Spells level e us
        → SpellsExps level (add_exp es e) (ts ++ A sign.Comma ∷ us)

  -- the arguments of a call: nothing, or expressions separated by commas
  pub data SpellsArguments : Exps → List Part → Type 0 where
    no_arguments : SpellsArguments none []
    arguments : {es : Exps} {ts : List Part} → SpellsExps 1 es ts → SpellsArguments es ts

  -- a section: declarations, separated by semicolons
  pub data SpellsSection : Declarations → List Part → Type 0 where
    section : {ds : Declarations} {ts : List Part} → SpellsPlaces ds no_items ts → SpellsSection ds ts

  -- a block in its section brackets
  pub data SpellsBlock : Block → List Part → Type 0 where
    block_brackets : {ds : Declarations} {is : Items} {ts : List Part} → SpellsPlaces ds is ts
        → SpellsBlock (block ds is) (A sign.OpenSection ∷ (ts ++ A sign.CloseSection ∷ []))

  -- declarations, then items, separated by semicolons; the place between two semicolons may be empty
  pub data SpellsPlaces : Declarations → Items → List Part → Type 0 where
    ended : {ds : Declarations} {is : Items} {ts : List Part} → SpellsEnded ds is ts → SpellsPlaces ds is ts
    last_declaration : {ds : Declarations} {d : Declaration} {ts us : List Part} → SpellsEnded ds no_items ts → SpellsDeclaration d us
        → SpellsPlaces (add_declaration ds d) no_items (ts ++ us)
    last_item : {ds : Declarations} {is : Items} {i : Item} {ts us : List Part} → SpellsEnded ds is ts → SpellsItem i us
        → SpellsPlaces ds (add_item is i) (ts ++ us)

  -- the same, where each is followed by its semicolon
  pub data SpellsEnded : Declarations → Items → List Part → Type 0 where
    nothing : SpellsEnded no_declarations no_items []
    gap : {ds : Declarations} {is : Items} {ts : List Part} {s : Part} → SpellsEnded ds is ts → IsSeparator s → SpellsEnded ds is (ts ++ s ∷ [])
    declared : {ds : Declarations} {d : Declaration} {ts us : List Part} {s : Part} → SpellsEnded ds no_items ts → SpellsDeclaration d us → IsSeparator s
        → SpellsEnded (add_declaration ds d) no_items (ts ++ (us ++ s ∷ []))
    placed : {ds : Declarations} {is : Items} {i : Item} {ts us : List Part} {s : Part} → SpellsEnded ds is ts → SpellsItem i us → IsSeparator s
        → SpellsEnded ds (add_item is i) (ts ++ (us ++ s ∷ []))

  -- a declaration: a list of constants, or LET and definitions
  pub data SpellsDeclaration : Declaration → List Part → Type 0 where
    constants : {s : Storage} {es : Entries} {ts : List Part} → SpellsEntries es ts
        → SpellsDeclaration (tree.Constants s es) (A (storage_sign s) ∷ A sign.OpenSection ∷ (ts ++ A sign.CloseSection ∷ []))
    definitions : {ds : Definitions} {ts : List Part} → SpellsDefinitions ds ts → SpellsDeclaration (tree.Let ds) (A sign.Let ∷ ts)

  -- names with their constants, separated by semicolons
  pub data SpellsEntries : Entries → List Part → Type 0 where
    all_entries_ended : {es : Entries} {ts : List Part} → EndedEntries es ts → SpellsEntries es ts
    last_entry : {es : Entries} (n : List ℕ) {s : Symbol} {k : Exp} {ts us : List Part} → EndedEntries es ts → IsConstantSign s → Spells 2 k us
        → SpellsEntries (add_entry es n k) (ts ++ (Name n ∷ A s ∷ us))

  -- the same, where each is followed by its semicolon
  pub data EndedEntries : Entries → List Part → Type 0 where
    no_entry : EndedEntries no_entries []
    entry_gap : {es : Entries} {ts : List Part} {s : Part} → EndedEntries es ts → IsSeparator s → EndedEntries es (ts ++ s ∷ [])
    entered : {es : Entries} (n : List ℕ) {s : Symbol} {t : Part} {k : Exp} {ts us : List Part} → EndedEntries es ts → IsConstantSign s → Spells 2 k us
        → IsSeparator t
        → EndedEntries (add_entry es n k) (ts ++ ((Name n ∷ A s ∷ us) ++ t ∷ []))

  -- one or more definitions, separated by AND
  pub data SpellsDefinitions : Definitions → List Part → Type 0 where
    one_definition : {d : Definition} {ts : List Part} → SpellsDefinition d ts → SpellsDefinitions (definition d no_definitions) ts
    next_definition : {d : Definition} {ds : Definitions} {ts us : List Part} → SpellsDefinitions ds ts → SpellsDefinition d us
        → SpellsDefinitions (add_definition ds d) (ts ++ A sign.And ∷ us)

  -- one definition of a LET; there are as many initialisers as variables
  pub data SpellsDefinition : Definition → List Part → Type 0 where
    variables : {ns : List (List ℕ)} {es : Exps} {ts : List Part} → length ns ≡ count es → SpellsExps 1 es ts
        → SpellsDefinition (tree.Variables ns es) (named ns ++ A sign.Equal ∷ ts)
    vector : {n : List ℕ} {k : Exp} {ts : List Part} → Spells 2 k ts → SpellsDefinition (tree.Vector n k) (Name n ∷ A sign.Equal ∷ A sign.Vector ∷ ts)
    function : {n : List ℕ} {ps : List (List ℕ)} {e : Exp} {ts : List Part} → Spells 1 e ts
        → SpellsDefinition (tree.Function n ps e) (Name n ∷ (in_round (named ps) ++ A sign.Equal ∷ ts))
    routine : {n : List ℕ} {ps : List (List ℕ)} {b : Block} {ts : List Part} → SpellsBody b ts
        → SpellsDefinition (tree.Routine n ps b) (Name n ∷ (in_round (named ps) ++ A sign.Be ∷ ts))

  -- an item: labels and a command, or at least one label
  pub data SpellsItem : Item → List Part → Type 0 where
    labelled : {ls : Labels} {c : Command} {ts us : List Part} → SpellsLabels ls ts → SpellsCommand c us → SpellsItem (Labelled ls c) (ts ++ us)
    labels_alone : {ls : Labels} {ts : List Part} → ls ≢ no_labels → SpellsLabels ls ts → SpellsItem (Labels_alone ls) ts

  -- labels, each followed by its colon
  pub data SpellsLabels : Labels → List Part → Type 0 where
    no_more : SpellsLabels no_labels []
    case : {ls : Labels} {k : Exp} {ts us : List Part} → SpellsLabels ls ts → Spells 2 k us
        → SpellsLabels (add_label ls (tree.Case k)) (ts ++ A sign.Case ∷ (us ++ A sign.Colon ∷ []))
    default : {ls : Labels} {ts : List Part} → SpellsLabels ls ts → SpellsLabels (add_label ls tree.Default) (ts ++ A sign.Default ∷ A sign.Colon ∷ [])
    named_label : {ls : Labels} (n : List ℕ) {ts : List Part} → SpellsLabels ls ts
        → SpellsLabels (add_label ls (tree.Named n)) (ts ++ Name n ∷ A sign.Colon ∷ [])

  -- a body: a block, or another command, which is then the block of that command
  pub data SpellsBody : Block → List Part → Type 0 where
    body_command : {c : Command} {ts : List Part} → SpellsCommand c ts → SpellsBody (body c) ts

  -- the body after a condition or a range: a line break and DO may precede it
  pub data SpellsDo : Block → List Part → Type 0 where
    do_body : {b : Block} {ts : List Part} (line word : Bool) → SpellsBody b ts → SpellsDo b (optional line NewLine (optional word (A sign.Do) ts))

  -- a command that REPEAT, REPEATWHILE or REPEATUNTIL can follow; two lists around `:=` are equally long
  pub data SpellsSimple : Command → List Part → Type 0 where
    assign : {xs es : Exps} {ts us : List Part} → count xs ≡ count es → SpellsExps 1 xs ts → SpellsExps 1 es us
        → SpellsSimple (tree.Assign xs es) (ts ++ A sign.Assign ∷ us)
    run : {f : Exp} {es : Exps} {ts : List Part} → Spells 1 (tree.Call f es) ts → SpellsSimple (tree.Do f es) ts
    compound : {b : Block} {ts : List Part} → SpellsBlock b ts → SpellsSimple (tree.Compound b) ts
    break : SpellsSimple tree.Break (A sign.Break ∷ [])
    loop : SpellsSimple tree.Loop (A sign.Loop ∷ [])
    end_case : SpellsSimple tree.EndCase (A sign.EndCase ∷ [])
    return : SpellsSimple tree.Return (A sign.Return ∷ [])
    finish : SpellsSimple tree.Finish (A sign.Finish ∷ [])
    result_is : {e : Exp} {ts : List Part} → Spells 1 e ts → SpellsSimple (tree.ResultIs e) (A sign.ResultIs ∷ ts)
    goto : {n : List ℕ} → SpellsSimple (tree.Goto n) (A sign.Goto ∷ Name n ∷ [])
    repeat : {c : Command} {ts : List Part} → SpellsSimple c ts → SpellsSimple (tree.Repeat c) (ts ++ A sign.Repeat ∷ [])
    repeat_while : {c : Command} {e : Exp} {ts us : List Part} → SpellsSimple c ts → Spells 1 e us
        → SpellsSimple (tree.RepeatWhile c e) (ts ++ A sign.RepeatWhile ∷ us)
    repeat_until : {c : Command} {e : Exp} {ts us : List Part} → SpellsSimple c ts → Spells 1 e us
        → SpellsSimple (tree.RepeatUntil c e) (ts ++ A sign.RepeatUntil ∷ us)

  -- a command
  pub data SpellsCommand : Command → List Part → Type 0 where
    simple : {c : Command} {ts : List Part} → SpellsSimple c ts → SpellsCommand c ts
    if_do : {e : Exp} {b : Block} {ts us : List Part} → Spells 1 e ts → SpellsDo b us → SpellsCommand (tree.If e b) (A sign.If ∷ (ts ++ us))
    unless_do : {e : Exp} {b : Block} {ts us : List Part} → Spells 1 e ts → SpellsDo b us → SpellsCommand (tree.Unless e b) (A sign.Unless ∷ (ts ++ us))
    while_do : {e : Exp} {b : Block} {ts us : List Part} → Spells 1 e ts → SpellsDo b us → SpellsCommand (tree.While e b) (A sign.While ∷ (ts ++ us))
    until_do : {e : Exp} {b : Block} {ts us : List Part} → Spells 1 e ts → SpellsDo b us → SpellsCommand (tree.Until e b) (A sign.Until ∷ (ts ++ us))
    test : {e : Exp} {b d : Block} {ts us vs : List Part} → Spells 1 e ts → SpellsDo b us → SpellsBody d vs
        → SpellsCommand (tree.Test e b d) (A sign.Test ∷ (ts ++ (us ++ A sign.Else ∷ vs)))
    for : {n : List ℕ} {a z : Exp} {b : Block} {ts us vs : List Part} → Spells 1 a ts → Spells 1 z us → SpellsDo b vs
        → SpellsCommand (tree.For n a z b) (A sign.For ∷ Name n ∷ A sign.Equal ∷ (ts ++ A sign.To ∷ (us ++ vs)))
    for_by : {n : List ℕ} {a z k : Exp} {b : Block} {ts us ws vs : List Part} → Spells 1 a ts → Spells 1 z us → Spells 2 k ws → SpellsDo b vs
        → SpellsCommand (tree.ForBy n a z k b) (A sign.For ∷ Name n ∷ A sign.Equal ∷ (ts ++ A sign.To ∷ (us ++ A sign.By ∷ (ws ++ vs))))
    switch_on : {e : Exp} {is : Items} {ts us : List Part} → Spells 1 e ts → SpellsPlaces no_declarations is us
        → SpellsCommand (tree.SwitchOn e is) (A sign.SwitchOn ∷ (ts ++ A sign.Into ∷ A sign.OpenSection ∷ (us ++ A sign.CloseSection ∷ [])))
