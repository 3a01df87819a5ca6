-- A tree that the grammar has a spelling for is `Formed`, except that a VALOF may precede REPEAT.
use Rattle.std.proofs.Common.{◌≢◌, ℕ, List, refl}
use Rattle.bc_parse_tree.specs.Parts.{Part}
use Rattle.bc_parse_tree.specs.Tree.{Exp, Exps, none, more, Block, block, Declaration, Declarations, no_declarations, declaration, Entries, no_entries, entry, Definition, Definitions, no_definitions, definition, Item, Labelled, Labels_alone, Items, no_items, item, Label, Labels, no_labels, label, Command}
use Rattle.bc_parse_tree.specs.Tree as tree
use Rattle.bc_parse_tree.specs.Spelling.{Spells, of_level, prefixed, IsOfLevel, SpellsExps, one, next, SpellsArguments, no_arguments, arguments, SpellsSection, section, SpellsBlock, block_brackets, SpellsPlaces, ended, last_declaration, last_item, SpellsEnded, nothing, gap, declared, placed, SpellsDeclaration, SpellsEntries, all_entries_ended, last_entry, EndedEntries, no_entry, entry_gap, entered, SpellsDefinitions, one_definition, next_definition, SpellsDefinition, SpellsItem, labelled, labels_alone, SpellsLabels, no_more, named_label, SpellsBody, body_command, SpellsDo, do_body, SpellsSimple, SpellsCommand, body, count, add_exp, add_entry, add_definition, add_declaration, add_label, add_item}
use Rattle.bc_parse_tree.specs.Spelling as spell
use Rattle.bc_parse_laws.proofs.Formed.{SomeExps, SomeDefinitions, SomeLabels, IsSimple, FormedExp, FormedExps, FormedBlock, FormedDeclaration, FormedDeclarations, FormedEntries, FormedDefinition, FormedDefinitions, FormedItem, FormedItems, FormedLabel, FormedLabels, FormedCommand}

abbrev pub Any : Command → Type 0
Any c = Unit {0}

-- ---- a list with one more element at its end

some_add_exp : (es : Exps) (e : Exp) → SomeExps (add_exp es e)
some_add_exp none e = tt
some_add_exp (more d ds) e = tt

formed_add_exp : (es : Exps) (e : Exp) → FormedExps Any es → FormedExp Any e → FormedExps Any (add_exp es e)
formed_add_exp none e fs f = (f, tt)
formed_add_exp (more d ds) e fs f = (fs.0, formed_add_exp ds e fs.1 f)

formed_add_entry : (es : Entries) (n : List ℕ) (k : Exp) → FormedEntries Any es → FormedExp Any k → FormedEntries Any (add_entry es n k)
formed_add_entry no_entries n k fs f = (f, tt)
formed_add_entry (entry m j es) n k fs f = (fs.0, formed_add_entry es n k fs.1 f)

some_add_definition : (ds : Definitions) (d : Definition) → SomeDefinitions (add_definition ds d)
some_add_definition no_definitions d = tt
some_add_definition (definition c ds) d = tt

formed_add_definition : (ds : Definitions) (d : Definition) → FormedDefinitions Any ds → FormedDefinition Any d → FormedDefinitions Any (add_definition ds d)
formed_add_definition no_definitions d fs f = (f, tt)
formed_add_definition (definition c ds) d fs f = (fs.0, formed_add_definition ds d fs.1 f)

formed_add_declaration : (ds : Declarations) (d : Declaration) → FormedDeclarations Any ds → FormedDeclaration Any d → FormedDeclarations Any (add_declaration ds d)
formed_add_declaration no_declarations d fs f = (f, tt)
formed_add_declaration (declaration c ds) d fs f = (fs.0, formed_add_declaration ds d fs.1 f)

formed_add_label : (ls : Labels) (l : Label) → FormedLabels Any ls → FormedLabel Any l → FormedLabels Any (add_label ls l)
formed_add_label no_labels l fs f = (f, tt)
formed_add_label (label k ls) l fs f = (fs.0, formed_add_label ls l fs.1 f)

formed_add_item : (is : Items) (i : Item) → FormedItems Any is → FormedItem Any i → FormedItems Any (add_item is i)
formed_add_item no_items i fs f = (f, tt)
formed_add_item (item h is) i fs f = (fs.0, formed_add_item is i fs.1 f)

-- ---- parts

some_labels : (ls : Labels) → ls ≢ no_labels → SomeLabels ls
some_labels no_labels other = absurd (other refl)
some_labels (label l ls) other = tt

formed_body : (c : Command) → FormedCommand Any c → FormedBlock Any (body c)
formed_body (tree.Compound b) f = f
formed_body (tree.Assign xs es) f = (tt, ((tt, f), tt))
formed_body (tree.Do g es) f = (tt, ((tt, f), tt))
formed_body tree.Break f = (tt, ((tt, f), tt))
formed_body tree.Loop f = (tt, ((tt, f), tt))
formed_body tree.EndCase f = (tt, ((tt, f), tt))
formed_body tree.Return f = (tt, ((tt, f), tt))
formed_body tree.Finish f = (tt, ((tt, f), tt))
formed_body (tree.ResultIs e) f = (tt, ((tt, f), tt))
formed_body (tree.Goto n) f = (tt, ((tt, f), tt))
formed_body (tree.Repeat c) f = (tt, ((tt, f), tt))
formed_body (tree.RepeatWhile c e) f = (tt, ((tt, f), tt))
formed_body (tree.RepeatUntil c e) f = (tt, ((tt, f), tt))
formed_body (tree.If e b) f = (tt, ((tt, f), tt))
formed_body (tree.Unless e b) f = (tt, ((tt, f), tt))
formed_body (tree.While e b) f = (tt, ((tt, f), tt))
formed_body (tree.Until e b) f = (tt, ((tt, f), tt))
formed_body (tree.Test e b d) f = (tt, ((tt, f), tt))
formed_body (tree.For n a z b) f = (tt, ((tt, f), tt))
formed_body (tree.ForBy n a z k b) f = (tt, ((tt, f), tt))
formed_body (tree.SwitchOn e is) f = (tt, ((tt, f), tt))

is_simple : {c : Command} {ts : List Part} → SpellsSimple c ts → IsSimple c
is_simple (spell.assign s f g) = tt
is_simple (spell.run s) = tt
is_simple (spell.compound s) = tt
is_simple spell.break = tt
is_simple spell.loop = tt
is_simple spell.end_case = tt
is_simple spell.return = tt
is_simple spell.finish = tt
is_simple (spell.result_is s) = tt
is_simple spell.goto = tt
is_simple (spell.repeat s) = tt
is_simple (spell.repeat_while s e) = tt
is_simple (spell.repeat_until s e) = tt

-- ---- by the grammar

mutual
  exp_formed : {level : ℕ} {e : Exp} {ts : List Part} → Spells level e ts → FormedExp Any e
  exp_formed (of_level s) = level_formed s
  exp_formed (prefixed s) = exp_formed s

  level_formed : {level : ℕ} {e : Exp} {ts : List Part} → IsOfLevel level e ts → FormedExp Any e
  level_formed spell.name = tt
  level_formed spell.number = tt
  level_formed spell.character = tt
  level_formed spell.text = tt
  level_formed spell.true_word = tt
  level_formed spell.false_word = tt
  level_formed (spell.bracketed s) = exp_formed s
  level_formed (spell.table s) = exps_formed s
  level_formed (spell.valof s) = body_formed s
  level_formed (spell.call f es) = (level_formed f, arguments_formed es)
  level_formed (spell.unary h s) = exp_formed s
  level_formed (spell.binary h l r) = (level_formed l, exp_formed r)
  level_formed (spell.condition h c x y) = (level_formed c, exp_formed x, exp_formed y)

  exps_formed : {level : ℕ} {es : Exps} {ts : List Part} → SpellsExps level es ts → SomeExps es × FormedExps Any es
  exps_formed (one s) = (tt, (exp_formed s, tt))
  exps_formed (next {e = e} {es = es} ss s) = (some_add_exp es e, formed_add_exp es e (exps_formed ss).1 (exp_formed s))

  arguments_formed : {es : Exps} {ts : List Part} → SpellsArguments es ts → FormedExps Any es
  arguments_formed no_arguments = tt
  arguments_formed (arguments ss) = (exps_formed ss).1

  pub section_formed : {ds : Declarations} {ts : List Part} → SpellsSection ds ts → FormedDeclarations Any ds
  section_formed (section s) = (places_formed s).0

  block_formed : {b : Block} {ts : List Part} → SpellsBlock b ts → FormedBlock Any b
  block_formed (block_brackets s) = ((places_formed s).0, (places_formed s).1)

  places_formed : {ds : Declarations} {is : Items} {ts : List Part} → SpellsPlaces ds is ts → FormedDeclarations Any ds × FormedItems Any is
  places_formed (ended s) = ended_formed s
  places_formed (last_declaration {ds = ds} {d = d} s t) = (formed_add_declaration ds d (ended_formed s).0 (declaration_formed t), tt)
  places_formed (last_item {is = is} {i = i} s t) = ((ended_formed s).0, formed_add_item is i (ended_formed s).1 (item_formed t))

  ended_formed : {ds : Declarations} {is : Items} {ts : List Part} → SpellsEnded ds is ts → FormedDeclarations Any ds × FormedItems Any is
  ended_formed nothing = (tt, tt)
  ended_formed (gap s h) = ended_formed s
  ended_formed (declared {ds = ds} {d = d} s t h) = (formed_add_declaration ds d (ended_formed s).0 (declaration_formed t), tt)
  ended_formed (placed {is = is} {i = i} s t h) = ((ended_formed s).0, formed_add_item is i (ended_formed s).1 (item_formed t))

  declaration_formed : {d : Declaration} {ts : List Part} → SpellsDeclaration d ts → FormedDeclaration Any d
  declaration_formed (spell.constants s) = entries_formed s
  declaration_formed (spell.definitions s) = definitions_formed s

  entries_formed : {es : Entries} {ts : List Part} → SpellsEntries es ts → FormedEntries Any es
  entries_formed (all_entries_ended s) = ended_entries_formed s
  entries_formed (last_entry {es = es} n {k = k} s h t) = formed_add_entry es n k (ended_entries_formed s) (exp_formed t)

  ended_entries_formed : {es : Entries} {ts : List Part} → EndedEntries es ts → FormedEntries Any es
  ended_entries_formed no_entry = tt
  ended_entries_formed (entry_gap s h) = ended_entries_formed s
  ended_entries_formed (entered {es = es} n {k = k} s h t g) = formed_add_entry es n k (ended_entries_formed s) (exp_formed t)

  definitions_formed : {ds : Definitions} {ts : List Part} → SpellsDefinitions ds ts → SomeDefinitions ds × FormedDefinitions Any ds
  definitions_formed (one_definition s) = (tt, (definition_formed s, tt))
  definitions_formed (next_definition {d = d} {ds = ds} ss s) = (some_add_definition ds d, formed_add_definition ds d (definitions_formed ss).1 (definition_formed s))

  definition_formed : {d : Definition} {ts : List Part} → SpellsDefinition d ts → FormedDefinition Any d
  definition_formed (spell.variables same ss) = (same, (exps_formed ss).0, (exps_formed ss).1)
  definition_formed (spell.vector s) = exp_formed s
  definition_formed (spell.function s) = exp_formed s
  definition_formed (spell.routine s) = body_formed s

  item_formed : {i : Item} {ts : List Part} → SpellsItem i ts → FormedItem Any i
  item_formed (labelled ls c) = (labels_formed ls, command_formed c)
  item_formed (labels_alone {ls = ls} other s) = (some_labels ls other, labels_formed s)

  labels_formed : {ls : Labels} {ts : List Part} → SpellsLabels ls ts → FormedLabels Any ls
  labels_formed no_more = tt
  labels_formed (spell.case {ls = ls} {k = k} s t) = formed_add_label ls (tree.Case k) (labels_formed s) (exp_formed t)
  labels_formed (spell.default {ls = ls} s) = formed_add_label ls tree.Default (labels_formed s) tt
  labels_formed (named_label {ls = ls} n s) = formed_add_label ls (tree.Named n) (labels_formed s) tt

  body_formed : {b : Block} {ts : List Part} → SpellsBody b ts → FormedBlock Any b
  body_formed (body_command {c = c} s) = formed_body c (command_formed s)

  do_formed : {b : Block} {ts : List Part} → SpellsDo b ts → FormedBlock Any b
  do_formed (do_body line word s) = body_formed s

  simple_formed : {c : Command} {ts : List Part} → SpellsSimple c ts → FormedCommand Any c
  simple_formed (spell.assign same f g) = ((exps_formed f).0, same, (exps_formed f).1, (exps_formed g).1)
  simple_formed (spell.run s) = exp_formed s
  simple_formed (spell.compound s) = block_formed s
  simple_formed spell.break = tt
  simple_formed spell.loop = tt
  simple_formed spell.end_case = tt
  simple_formed spell.return = tt
  simple_formed spell.finish = tt
  simple_formed (spell.result_is s) = exp_formed s
  simple_formed spell.goto = tt
  simple_formed (spell.repeat s) = (is_simple s, tt, simple_formed s)
  simple_formed (spell.repeat_while s e) = (is_simple s, tt, simple_formed s, exp_formed e)
  simple_formed (spell.repeat_until s e) = (is_simple s, tt, simple_formed s, exp_formed e)

  command_formed : {c : Command} {ts : List Part} → SpellsCommand c ts → FormedCommand Any c
  command_formed (spell.simple s) = simple_formed s
  command_formed (spell.if_do e b) = (exp_formed e, do_formed b)
  command_formed (spell.unless_do e b) = (exp_formed e, do_formed b)
  command_formed (spell.while_do e b) = (exp_formed e, do_formed b)
  command_formed (spell.until_do e b) = (exp_formed e, do_formed b)
  command_formed (spell.test e b d) = (exp_formed e, do_formed b, body_formed d)
  command_formed (spell.for a z b) = (exp_formed a, exp_formed z, do_formed b)
  command_formed (spell.for_by a z k b) = (exp_formed a, exp_formed z, exp_formed k, do_formed b)
  command_formed (spell.switch_on e s) = (exp_formed e, (places_formed s).1)
