-- The canonical spelling of a tree is one of its spellings by the grammar.
use Rattle.std.proofs.Common.{◌≡◌, ℕ, ◌≤◌, true, false, List, [], ◌∷◌, ◌++◌, refl, sym, ap, subst, append_assoc, arith}
use Rattle.std.proofs.lemmas.List.{append-nil}
use Rattle.bc_lex_tokens.specs.declared.symbol.Symbol.TheVariants as sign
use Rattle.bc_parse_tree.specs.declared.tree.BinaryOp as code_binary
use Rattle.bc_parse_tree.specs.declared.tree.BinaryOp.TheVariants as binary
use Rattle.bc_parse_tree.specs.declared.tree.Storage.{Storage}
use Rattle.bc_parse_tree.specs.declared.tree.Storage.TheVariants as storage
use Rattle.bc_parse_tree.specs.Parts.{Part, A, Name}
use Rattle.bc_parse_tree.specs.Tree.{Exp, Exps, none, more, Block, block, Declaration, Declarations, no_declarations, declaration, Entries, no_entries, entry, Definition, Definitions, no_definitions, definition, Item, Labelled, Labels_alone, Items, no_items, item, Label, Labels, no_labels, label, Command}
use Rattle.bc_parse_tree.specs.Tree as tree
use Rattle.bc_parse_tree.specs.Operators.{level_of}
use Rattle.bc_parse_tree.specs.Spelling.{Spells, of_level, prefixed, IsOfLevel, SpellsExps, one, next, SpellsArguments, no_arguments, arguments, SpellsSection, section, SpellsBlock, block_brackets, SpellsPlaces, ended, last_declaration, last_item, SpellsEnded, nothing, gap, declared, placed, semicolon, IsConstantSign, equal, colon, SpellsDeclaration, SpellsEntries, all_entries_ended, last_entry, EndedEntries, no_entry, entry_gap, entered, SpellsDefinitions, one_definition, next_definition, SpellsDefinition, SpellsItem, labelled, labels_alone, SpellsLabels, no_more, named_label, SpellsBody, body_command, SpellsDo, do_body, SpellsSimple, SpellsCommand, count, add_exp, add_entry, add_definition, add_declaration, add_label, add_item}
use Rattle.bc_parse_tree.specs.Spelling as spell
use Rattle.bc_parse_tree.specs.Canonical.{part_of, routine_of, entry_sign, after_first, whole, after_commas, block_spelling, declarations_spelling, declaration_spelling, entries_spelling, definitions_spelling, definition_spelling, items_spelling, item_spelling, labels_spelling, label_spelling, command_spelling, section_spelling}
use Rattle.bc_parse_laws.proofs.Formed.{SomeExps, SomeDefinitions, SomeLabels, IsSimple, FormedExp, FormedExps, FormedBlock, FormedDeclaration, FormedDeclarations, FormedEntries, FormedDefinition, FormedDefinitions, FormedItem, FormedItems, FormedLabel, FormedLabels, FormedCommand}
use Rattle.bc_parse_laws.proofs.Grammar.{Any}
use Rattle.bc_parse_laws.proofs.Expressions.{append_exps, append_more}
use Rattle.bc_parse_laws.proofs.Lists.{append_labels, append_no_labels, append_more_labels, append_entries, append_one_entry, append_more_entries}
use Rattle.bc_parse_laws.proofs.Definitions.{append_definitions, append_more_definitions}
use Rattle.bc_parse_laws.proofs.Places.{append_items, append_one_item, append_more_items, append_declarations, append_one_declaration, append_more_declarations}

-- ---- parts

level_positive : (o : code_binary.BinaryOp) → 1 ≤ level_of o
level_positive binary.Equivalent = omega arith
level_positive binary.NotEquivalent = omega arith
level_positive binary.Or = omega arith
level_positive binary.And = omega arith
level_positive binary.ShiftLeft = omega arith
level_positive binary.ShiftRight = omega arith
level_positive binary.Equal = omega arith
level_positive binary.NotEqual = omega arith
level_positive binary.Less = omega arith
level_positive binary.GreaterEqual = omega arith
level_positive binary.Greater = omega arith
level_positive binary.LessEqual = omega arith
level_positive binary.Add = omega arith
level_positive binary.Subtract = omega arith
level_positive binary.Multiply = omega arith
level_positive binary.Divide = omega arith
level_positive binary.Remainder = omega arith
level_positive binary.Index = omega arith

part_spelled : (level : ℕ) (e : Exp) → Spells 1 e (whole e) → IsOfLevel level e (part_of e (whole e))
part_spelled level (tree.Name s) f = spell.name
part_spelled level (tree.Num n) f = spell.number
part_spelled level (tree.Character n) f = spell.character
part_spelled level (tree.Text s) f = spell.text
part_spelled level tree.True f = spell.true_word
part_spelled level tree.False f = spell.false_word
part_spelled level (tree.Table ks) f = spell.bracketed f
part_spelled level (tree.Valof b) f = spell.bracketed f
part_spelled level (tree.Unary m e) f = spell.bracketed f
part_spelled level (tree.Bin o l r) f = spell.bracketed f
part_spelled level (tree.Cond c x y) f = spell.bracketed f
part_spelled level (tree.Call g es) f = spell.bracketed f

routine_spelled : (level : ℕ) (e : Exp) → Spells 1 e (whole e) → IsOfLevel level e (routine_of e (whole e))
routine_spelled level (tree.Name s) f = spell.name
routine_spelled level (tree.Num n) f = spell.bracketed f
routine_spelled level (tree.Character n) f = spell.bracketed f
routine_spelled level (tree.Text s) f = spell.bracketed f
routine_spelled level tree.True f = spell.bracketed f
routine_spelled level tree.False f = spell.bracketed f
routine_spelled level (tree.Table ks) f = spell.bracketed f
routine_spelled level (tree.Valof b) f = spell.bracketed f
routine_spelled level (tree.Unary m e) f = spell.bracketed f
routine_spelled level (tree.Bin o l r) f = spell.bracketed f
routine_spelled level (tree.Cond c x y) f = spell.bracketed f
routine_spelled level (tree.Call g es) f = spell.bracketed f

-- ---- lists, whose spellings grow at their end

abbrev ExpsSpelled : Exps → Type 0
ExpsSpelled none = Unit {0}
ExpsSpelled (more e es) = Spells 1 e (whole e) × ExpsSpelled es

append_none : (es : Exps) → append_exps es none ≡ es
append_none none = refl
append_none (more e es) = ap (λ (r : Exps). more e r) (append_none es)

more_exps : (level : ℕ) (ds es : Exps) (ts : List Part) → ExpsSpelled es → SpellsExps level ds ts → SpellsExps level (append_exps ds es) (ts ++ after_commas es)
more_exps level ds none ts all s = rw (append_none ds, append-nil ts) s
more_exps level ds (more e es) ts all s =
    let longer = more_exps level (add_exp ds e) es (ts ++ A sign.Comma ∷ part_of e (whole e)) all.1 (next s (of_level (part_spelled level e all.0))) in
    rw (← append_more ds e es) (subst (λ (r : List Part). SpellsExps level (append_exps (add_exp ds e) es) r) (append_assoc ts (A sign.Comma ∷ part_of e (whole e)) (after_commas es)) longer)

exps_spelled : (level : ℕ) (es : Exps) → SomeExps es → ExpsSpelled es → SpellsExps level es (after_first (after_commas es))
exps_spelled level none some all = absurd some
exps_spelled level (more e es) some all = more_exps level (more e none) es (part_of e (whole e)) all.1 (one (of_level (part_spelled level e all.0)))

arguments_spelled : (es : Exps) → ExpsSpelled es → SpellsArguments es (after_first (after_commas es))
arguments_spelled none all = no_arguments
arguments_spelled (more e es) all = arguments (exps_spelled 1 (more e es) tt all)

abbrev EntriesSpelled : Entries → Type 0
EntriesSpelled no_entries = Unit {0}
EntriesSpelled (entry n k es) = Spells 1 k (whole k) × EntriesSpelled es

sign_is : (s : Storage) → IsConstantSign (entry_sign s)
sign_is storage.Manifest = equal
sign_is storage.Static = equal
sign_is storage.Global = colon

more_entries : (s : Storage) (ds es : Entries) (n : List ℕ) (k : Exp) (ts : List Part) → Spells 1 k (whole k) → EntriesSpelled es → EndedEntries ds ts
    → SpellsEntries (append_entries ds (entry n k es)) (ts ++ (Name n ∷ A (entry_sign s) ∷ (part_of k (whole k) ++ entries_spelling (entry_sign s) es)))
more_entries s ds no_entries n k ts f all so_far = rw (append_one_entry ds n k, append-nil (part_of k (whole k))) (last_entry n so_far (sign_is s) (of_level (part_spelled 2 k f)))
more_entries s ds (entry m j es) n k ts f all so_far =
    let longer = more_entries s (add_entry ds n k) es m j (ts ++ ((Name n ∷ A (entry_sign s) ∷ part_of k (whole k)) ++ A sign.Semicolon ∷ [])) all.0 all.1 (entered n so_far (sign_is s) (of_level (part_spelled 2 k f)) semicolon) in
    rw (← append_more_entries ds n k (entry m j es)) (subst (λ (r : List Part). SpellsEntries (append_entries (add_entry ds n k) (entry m j es)) r) (simp append_assoc) longer)

entries_spelled : (s : Storage) (es : Entries) → EntriesSpelled es → SpellsEntries es (after_first (entries_spelling (entry_sign s) es))
entries_spelled s no_entries all = all_entries_ended no_entry
entries_spelled s (entry n k es) all = more_entries s no_entries es n k [] all.0 all.1 no_entry

abbrev DefinitionsSpelled : Definitions → Type 0
DefinitionsSpelled no_definitions = Unit {0}
DefinitionsSpelled (definition d ds) = SpellsDefinition d (definition_spelling d) × DefinitionsSpelled ds

append_no_definitions : (ds : Definitions) → append_definitions ds no_definitions ≡ ds
append_no_definitions no_definitions = refl
append_no_definitions (definition d ds) = ap (λ (r : Definitions). definition d r) (append_no_definitions ds)

more_definitions : (ds es : Definitions) (ts : List Part) → DefinitionsSpelled es → SpellsDefinitions ds ts → SpellsDefinitions (append_definitions ds es) (ts ++ definitions_spelling es)
more_definitions ds no_definitions ts all s = rw (append_no_definitions ds, append-nil ts) s
more_definitions ds (definition d es) ts all s =
    let longer = more_definitions (add_definition ds d) es (ts ++ A sign.And ∷ definition_spelling d) all.1 (next_definition s all.0) in
    rw (← append_more_definitions ds d es) (subst (λ (r : List Part). SpellsDefinitions (append_definitions (add_definition ds d) es) r) (append_assoc ts (A sign.And ∷ definition_spelling d) (definitions_spelling es)) longer)

definitions_spelled : (ds : Definitions) → SomeDefinitions ds → DefinitionsSpelled ds → SpellsDefinitions ds (after_first (definitions_spelling ds))
definitions_spelled no_definitions some all = absurd some
definitions_spelled (definition d ds) some all = more_definitions (definition d no_definitions) ds (definition_spelling d) all.1 (one_definition all.0)

abbrev LabelSpelled : Label → Type 0
LabelSpelled (tree.Case k) = Spells 1 k (whole k)
LabelSpelled tree.Default = Unit {0}
LabelSpelled (tree.Named n) = Unit {0}

abbrev LabelsSpelled : Labels → Type 0
LabelsSpelled no_labels = Unit {0}
LabelsSpelled (label l ls) = LabelSpelled l × LabelsSpelled ls

one_label : (ks : Labels) (l : Label) (ts : List Part) → LabelSpelled l → SpellsLabels ks ts → SpellsLabels (add_label ks l) (ts ++ label_spelling l)
one_label ks (tree.Case k) ts f s = spell.case s (of_level (part_spelled 2 k f))
one_label ks tree.Default ts f s = spell.default s
one_label ks (tree.Named n) ts f s = named_label n s

more_labels : (ks ls : Labels) (ts : List Part) → LabelsSpelled ls → SpellsLabels ks ts → SpellsLabels (append_labels ks ls) (ts ++ labels_spelling ls)
more_labels ks no_labels ts all s = rw (append_no_labels ks, append-nil ts) s
more_labels ks (label l ls) ts all s =
    let longer = more_labels (add_label ks l) ls (ts ++ label_spelling l) all.1 (one_label ks l ts all.0 s) in
    rw (← append_more_labels ks l ls) (subst (λ (r : List Part). SpellsLabels (append_labels (add_label ks l) ls) r) (append_assoc ts (label_spelling l) (labels_spelling ls)) longer)

labels_spelled : (ls : Labels) → LabelsSpelled ls → SpellsLabels ls (labels_spelling ls)
labels_spelled ls all = more_labels no_labels ls [] all no_more

-- ---- places

abbrev ItemsSpelled : Items → Type 0
ItemsSpelled no_items = Unit {0}
ItemsSpelled (item i is) = SpellsItem i (item_spelling i) × ItemsSpelled is

abbrev DeclarationsSpelled : Declarations → Type 0
DeclarationsSpelled no_declarations = Unit {0}
DeclarationsSpelled (declaration d ds) = SpellsDeclaration d (declaration_spelling d) × DeclarationsSpelled ds

more_items : (ds : Declarations) (is js : Items) (i : Item) (ts : List Part) → SpellsItem i (item_spelling i) → ItemsSpelled js → SpellsEnded ds is ts → SpellsPlaces ds (append_items is (item i js)) (ts ++ (item_spelling i ++ items_spelling js))
more_items ds is no_items i ts f all so_far = rw (append_one_item is i, append-nil (item_spelling i)) (last_item so_far f)
more_items ds is (item j js) i ts f all so_far =
    let longer = more_items ds (add_item is i) js j (ts ++ (item_spelling i ++ A sign.Semicolon ∷ [])) all.0 all.1 (placed so_far f semicolon) in
    rw (← append_more_items is i (item j js)) (subst (λ (r : List Part). SpellsPlaces ds (append_items (add_item is i) (item j js)) r) (simp append_assoc) longer)

more_declarations : (cs ds : Declarations) (is : Items) (d : Declaration) (ts : List Part) → SpellsDeclaration d (declaration_spelling d) → DeclarationsSpelled ds → ItemsSpelled is → SpellsEnded cs no_items ts
    → SpellsPlaces (append_declarations cs (declaration d ds)) is (ts ++ (declaration_spelling d ++ (declarations_spelling ds ++ items_spelling is)))
more_declarations cs no_declarations no_items d ts f all items so_far = rw (append_one_declaration cs d, append-nil (declaration_spelling d)) (last_declaration so_far f)
more_declarations cs no_declarations (item i is) d ts f all items so_far =
    let longer = more_items (add_declaration cs d) no_items is i (ts ++ (declaration_spelling d ++ A sign.Semicolon ∷ [])) items.0 items.1 (declared so_far f semicolon) in
    rw (append_one_declaration cs d) (subst (λ (r : List Part). SpellsPlaces (add_declaration cs d) (item i is) r) (simp append_assoc) longer)
more_declarations cs (declaration e ds) is d ts f all items so_far =
    let longer = more_declarations (add_declaration cs d) ds is e (ts ++ (declaration_spelling d ++ A sign.Semicolon ∷ [])) all.0 all.1 items (declared so_far f semicolon) in
    rw (← append_more_declarations cs d (declaration e ds)) (subst (λ (r : List Part). SpellsPlaces (append_declarations (add_declaration cs d) (declaration e ds)) is r) (simp append_assoc) longer)

places_spelled : (ds : Declarations) (is : Items) → DeclarationsSpelled ds → ItemsSpelled is → SpellsPlaces ds is (after_first (declarations_spelling ds ++ items_spelling is))
places_spelled no_declarations no_items all items = ended nothing
places_spelled no_declarations (item i is) all items = more_items no_declarations no_items is i [] items.0 items.1 nothing
places_spelled (declaration d ds) is all items =
    subst (λ (r : List Part). SpellsPlaces (declaration d ds) is r) (sym (append_assoc (declaration_spelling d) (declarations_spelling ds) (items_spelling is)))
    (more_declarations no_declarations ds is d [] all.0 all.1 items nothing)

-- ---- trees

body_spelled : (b : Block) → SpellsBlock b (block_spelling b) → SpellsBody b (block_spelling b)
body_spelled b s = body_command {c = tree.Compound b} (spell.simple (spell.compound s))

do_spelled : (b : Block) → SpellsBlock b (block_spelling b) → SpellsDo b (A sign.Do ∷ block_spelling b)
do_spelled b s = do_body false true (body_spelled b s)

abbrev CommandSpelled : Command → Type 0
CommandSpelled c = SpellsCommand c (command_spelling c) × (IsSimple c → SpellsSimple c (command_spelling c))

simple : (c : Command) → SpellsSimple c (command_spelling c) → CommandSpelled c
simple c s = (spell.simple s, λ is. s)

compound : (c : Command) → (IsSimple c → ⊥) → SpellsCommand c (command_spelling c) → CommandSpelled c
compound c no_simple s = (s, λ is. absurd (no_simple is))

some_values : (xs es : Exps) → SomeExps xs → count xs ≡ count es → SomeExps es
some_values none es some same = absurd some
some_values (more x xs) none some same = absurd (omega arith)
some_values (more x xs) (more e es) some same = tt

some_is_not_none : (ls : Labels) → SomeLabels ls → ls ≡ no_labels → ⊥
some_is_not_none no_labels some is = absurd some
some_is_not_none (label l ls) some is = absurd cc

mutual
  whole_spelled : (e : Exp) → FormedExp Any e → Spells 1 e (whole e)
  whole_spelled (tree.Name s) f = of_level spell.name
  whole_spelled (tree.Num n) f = of_level spell.number
  whole_spelled (tree.Character n) f = of_level spell.character
  whole_spelled (tree.Text s) f = of_level spell.text
  whole_spelled tree.True f = of_level spell.true_word
  whole_spelled tree.False f = of_level spell.false_word
  whole_spelled (tree.Table ks) f = of_level (spell.table (exps_spelled 2 ks f.0 (all_spelled ks f.1)))
  whole_spelled (tree.Valof b) f = of_level (spell.valof (body_spelled b (block_spelled b f)))
  whole_spelled (tree.Unary m e) f = prefixed (of_level (part_spelled _ e (whole_spelled e f)))
  whole_spelled (tree.Bin o l r) f = of_level (spell.binary (level_positive o) (part_spelled _ l (whole_spelled l f.0)) (of_level (part_spelled _ r (whole_spelled r f.1))))
  whole_spelled (tree.Cond c x y) f = of_level (spell.condition (omega arith) (part_spelled 2 c (whole_spelled c f.0)) (of_level (part_spelled 1 x (whole_spelled x f.1))) (of_level (part_spelled 1 y (whole_spelled y f.2))))
  whole_spelled (tree.Call g es) f = of_level (spell.call (routine_spelled 12 g (whole_spelled g f.0)) (arguments_spelled es (all_spelled es f.1)))

  all_spelled : (es : Exps) → FormedExps Any es → ExpsSpelled es
  all_spelled none f = tt
  all_spelled (more e es) f = (whole_spelled e f.0, all_spelled es f.1)

  block_spelled : (b : Block) → FormedBlock Any b → SpellsBlock b (block_spelling b)
  block_spelled (block ds is) f = block_brackets (places_spelled ds is (declarations_spelled ds f.0) (items_spelled is f.1))

  declarations_spelled : (ds : Declarations) → FormedDeclarations Any ds → DeclarationsSpelled ds
  declarations_spelled no_declarations f = tt
  declarations_spelled (declaration d ds) f = (declaration_spelled d f.0, declarations_spelled ds f.1)

  declaration_spelled : (d : Declaration) → FormedDeclaration Any d → SpellsDeclaration d (declaration_spelling d)
  declaration_spelled (tree.Constants s es) f = spell.constants (entries_spelled s es (all_entries_spelled es f))
  declaration_spelled (tree.Let ds) f = spell.definitions (definitions_spelled ds f.0 (all_definitions_spelled ds f.1))

  all_entries_spelled : (es : Entries) → FormedEntries Any es → EntriesSpelled es
  all_entries_spelled no_entries f = tt
  all_entries_spelled (entry n k es) f = (whole_spelled k f.0, all_entries_spelled es f.1)

  all_definitions_spelled : (ds : Definitions) → FormedDefinitions Any ds → DefinitionsSpelled ds
  all_definitions_spelled no_definitions f = tt
  all_definitions_spelled (definition d ds) f = (definition_spelled d f.0, all_definitions_spelled ds f.1)

  definition_spelled : (d : Definition) → FormedDefinition Any d → SpellsDefinition d (definition_spelling d)
  definition_spelled (tree.Variables ns es) f = spell.variables f.0 (exps_spelled 1 es f.1 (all_spelled es f.2))
  definition_spelled (tree.Vector n k) f = spell.vector (of_level (part_spelled 2 k (whole_spelled k f)))
  definition_spelled (tree.Function n ps e) f = spell.function (whole_spelled e f)
  definition_spelled (tree.Routine n ps b) f = spell.routine (body_spelled b (block_spelled b f))

  items_spelled : (is : Items) → FormedItems Any is → ItemsSpelled is
  items_spelled no_items f = tt
  items_spelled (item i is) f = (item_spelled i f.0, items_spelled is f.1)

  item_spelled : (i : Item) → FormedItem Any i → SpellsItem i (item_spelling i)
  item_spelled (Labelled ls c) f = labelled (labels_spelled ls (all_labels_spelled ls f.0)) (command_spelled c f.1).0
  item_spelled (Labels_alone ls) f = labels_alone (some_is_not_none ls f.0) (labels_spelled ls (all_labels_spelled ls f.1))

  all_labels_spelled : (ls : Labels) → FormedLabels Any ls → LabelsSpelled ls
  all_labels_spelled no_labels f = tt
  all_labels_spelled (label l ls) f = (label_spelled l f.0, all_labels_spelled ls f.1)

  label_spelled : (l : Label) → FormedLabel Any l → LabelSpelled l
  label_spelled (tree.Case k) f = whole_spelled k f
  label_spelled tree.Default f = tt
  label_spelled (tree.Named n) f = tt

  command_spelled : (c : Command) → FormedCommand Any c → CommandSpelled c
  command_spelled (tree.Assign xs es) f = simple (tree.Assign xs es) (spell.assign f.1 (exps_spelled 1 xs f.0 (all_spelled xs f.2)) (exps_spelled 1 es (some_values xs es f.0 f.1) (all_spelled es f.3)))
  command_spelled (tree.Do g es) f = simple (tree.Do g es) (spell.run (of_level (spell.call (routine_spelled 12 g (whole_spelled g f.0)) (arguments_spelled es (all_spelled es f.1)))))
  command_spelled (tree.Compound b) f = simple (tree.Compound b) (spell.compound (block_spelled b f))
  command_spelled tree.Break f = simple tree.Break spell.break
  command_spelled tree.Loop f = simple tree.Loop spell.loop
  command_spelled tree.EndCase f = simple tree.EndCase spell.end_case
  command_spelled tree.Return f = simple tree.Return spell.return
  command_spelled tree.Finish f = simple tree.Finish spell.finish
  command_spelled (tree.ResultIs e) f = simple (tree.ResultIs e) (spell.result_is (whole_spelled e f))
  command_spelled (tree.Goto n) f = simple (tree.Goto n) spell.goto
  command_spelled (tree.Repeat c) f = simple (tree.Repeat c) (spell.repeat ((command_spelled c f.2).1 f.0))
  command_spelled (tree.RepeatWhile c e) f = simple (tree.RepeatWhile c e) (spell.repeat_while ((command_spelled c f.2).1 f.0) (whole_spelled e f.3))
  command_spelled (tree.RepeatUntil c e) f = simple (tree.RepeatUntil c e) (spell.repeat_until ((command_spelled c f.2).1 f.0) (whole_spelled e f.3))
  command_spelled (tree.If e b) f = compound (tree.If e b) (λ is. is) (spell.if_do (whole_spelled e f.0) (do_spelled b (block_spelled b f.1)))
  command_spelled (tree.Unless e b) f = compound (tree.Unless e b) (λ is. is) (spell.unless_do (whole_spelled e f.0) (do_spelled b (block_spelled b f.1)))
  command_spelled (tree.While e b) f = compound (tree.While e b) (λ is. is) (spell.while_do (whole_spelled e f.0) (do_spelled b (block_spelled b f.1)))
  command_spelled (tree.Until e b) f = compound (tree.Until e b) (λ is. is) (spell.until_do (whole_spelled e f.0) (do_spelled b (block_spelled b f.1)))
  command_spelled (tree.Test e b d) f = compound (tree.Test e b d) (λ is. is) (spell.test (whole_spelled e f.0) (do_spelled b (block_spelled b f.1)) (body_spelled d (block_spelled d f.2)))
  command_spelled (tree.For n a z b) f = compound (tree.For n a z b) (λ is. is) (spell.for (whole_spelled a f.0) (whole_spelled z f.1) (do_spelled b (block_spelled b f.2)))
  command_spelled (tree.ForBy n a z k b) f =
      compound (tree.ForBy n a z k b) (λ is. is) (spell.for_by (whole_spelled a f.0) (whole_spelled z f.1) (of_level (part_spelled 2 k (whole_spelled k f.2))) (do_spelled b (block_spelled b f.3)))
  command_spelled (tree.SwitchOn e is) f = compound (tree.SwitchOn e is) (λ h. h) (spell.switch_on (whole_spelled e f.0) (places_spelled no_declarations is tt (items_spelled is f.1)))

pub section_spelled : (ds : Declarations) → FormedDeclarations Any ds → SpellsSection ds (section_spelling ds)
section_spelled ds f = section (subst (λ (ts : List Part). SpellsPlaces ds no_items (after_first ts)) (append-nil (declarations_spelling ds)) (places_spelled ds no_items (declarations_spelled ds f) tt))
