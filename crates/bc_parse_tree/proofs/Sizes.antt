-- A tree has at most as many definitions, commands and expressions as its spelling has parts that count. By induction
-- on the grammar, with one line per constructor.
use Rattle.std.proofs.Common.{◌≡◌, ℕ, ◌+◌, ◌≤◌, true, false, List, [], ◌∷◌, ◌++◌, refl, arith}
use Rattle.bc_lex_tokens.specs.declared.symbol.Symbol.TheVariants as sign
use Rattle.bc_parse_tree.specs.declared.tree.BinaryOp as code_binary
use Rattle.bc_parse_tree.specs.declared.tree.BinaryOp.TheVariants as binary
use Rattle.bc_parse_tree.specs.declared.tree.UnaryOp as code_unary
use Rattle.bc_parse_tree.specs.declared.tree.UnaryOp.TheVariants as unary
use Rattle.bc_parse_tree.specs.Operators.{binary_sign, unary_sign}
use Rattle.bc_parse_tree.specs.Parts.{Part, A, Name}
use Rattle.bc_parse_tree.specs.Tree.{Exp, Exps, none, more, Block, block, Declaration, Declarations, no_declarations, declaration, Entries, no_entries, entry, Definition, Definitions, no_definitions, definition, Item, Labelled, Labels_alone, Items, no_items, item, Label, Labels, no_labels, label, Command}
use Rattle.bc_parse_tree.specs.Tree as tree
use Rattle.bc_parse_tree.specs.Size.{exp_size, exps_size, block_size, declaration_size, declarations_size, entries_size, definition_size, definitions_size, item_size, items_size, label_size, labels_size, command_size, weight_of, weight}
use Rattle.bc_parse_tree.specs.Spelling.{Spells, of_level, prefixed, IsOfLevel, SpellsExps, one, next, SpellsArguments, no_arguments, arguments, SpellsSection, section, SpellsBlock, block_brackets, SpellsPlaces, ended, last_declaration, last_item, SpellsEnded, nothing, gap, declared, placed, SpellsDeclaration, SpellsEntries, all_entries_ended, last_entry, EndedEntries, no_entry, entry_gap, entered, SpellsDefinitions, one_definition, next_definition, SpellsDefinition, SpellsItem, labelled, labels_alone, SpellsLabels, no_more, SpellsBody, body_command, SpellsDo, do_body, SpellsSimple, SpellsCommand, simple, in_round, named, optional, body, add_exp, add_entry, add_definition, add_declaration, add_label, add_item}
use Rattle.bc_parse_tree.specs.Spelling as spell

weight_append : (ts us : List Part) → weight (ts ++ us) ≡ weight ts + weight us
weight_append [] us = omega arith
weight_append (p ∷ ts) us = omega (arith, weight_append ts us)

size_add_exp : (es : Exps) (e : Exp) → exps_size (add_exp es e) ≡ exps_size es + exp_size e
size_add_exp none e = omega arith
size_add_exp (more d es) e = omega (arith, size_add_exp es e)

size_add_entry : (es : Entries) (n : List ℕ) (k : Exp) → entries_size (add_entry es n k) ≡ entries_size es + exp_size k
size_add_entry no_entries n k = omega arith
size_add_entry (entry m j es) n k = omega (arith, size_add_entry es n k)

size_add_definition : (ds : Definitions) (d : Definition) → definitions_size (add_definition ds d) ≡ definitions_size ds + definition_size d
size_add_definition no_definitions d = omega arith
size_add_definition (definition c ds) d = omega (arith, size_add_definition ds d)

size_add_declaration : (ds : Declarations) (d : Declaration) → declarations_size (add_declaration ds d) ≡ declarations_size ds + declaration_size d
size_add_declaration no_declarations d = omega arith
size_add_declaration (declaration c ds) d = omega (arith, size_add_declaration ds d)

size_add_label : (ls : Labels) (l : Label) → labels_size (add_label ls l) ≡ labels_size ls + label_size l
size_add_label no_labels l = omega arith
size_add_label (label k ls) l = omega (arith, size_add_label ls l)

size_add_item : (is : Items) (i : Item) → items_size (add_item is i) ≡ items_size is + item_size i
size_add_item no_items i = omega arith
size_add_item (item j is) i = omega (arith, size_add_item is i)

weight_binary : (o : code_binary.BinaryOp) → weight_of (A (binary_sign o)) ≡ 1
weight_binary binary.Equivalent = refl
weight_binary binary.NotEquivalent = refl
weight_binary binary.Or = refl
weight_binary binary.And = refl
weight_binary binary.ShiftLeft = refl
weight_binary binary.ShiftRight = refl
weight_binary binary.Equal = refl
weight_binary binary.NotEqual = refl
weight_binary binary.Less = refl
weight_binary binary.GreaterEqual = refl
weight_binary binary.Greater = refl
weight_binary binary.LessEqual = refl
weight_binary binary.Add = refl
weight_binary binary.Subtract = refl
weight_binary binary.Multiply = refl
weight_binary binary.Divide = refl
weight_binary binary.Remainder = refl
weight_binary binary.Index = refl

weight_unary : (m : code_unary.UnaryOp) → weight_of (A (unary_sign m)) ≡ 1
weight_unary unary.Not = refl
weight_unary unary.Neg = refl
weight_unary unary.Load = refl
weight_unary unary.Address = refl

size_body : (c : Command) → block_size (body c) ≤ command_size c
size_body (tree.Compound b) = omega arith
size_body (tree.Assign xs es) = omega arith
size_body (tree.Do f es) = omega arith
size_body tree.Break = omega arith
size_body tree.Loop = omega arith
size_body tree.EndCase = omega arith
size_body tree.Return = omega arith
size_body tree.Finish = omega arith
size_body (tree.ResultIs e) = omega arith
size_body (tree.Goto n) = omega arith
size_body (tree.Repeat c) = omega arith
size_body (tree.RepeatWhile c e) = omega arith
size_body (tree.RepeatUntil c e) = omega arith
size_body (tree.If e b) = omega arith
size_body (tree.Unless e b) = omega arith
size_body (tree.While e b) = omega arith
size_body (tree.Until e b) = omega arith
size_body (tree.Test e b d) = omega arith
size_body (tree.For n a z b) = omega arith
size_body (tree.ForBy n a z k b) = omega arith
size_body (tree.SwitchOn e is) = omega arith

-- a call is counted with one part to spare, for the command that it may be; the parentheses provide it
abbrev extra : Exp → ℕ
extra (tree.Call f es) = 1
extra _ = 0

mutual
  pub spells_size : {level : ℕ} {e : Exp} {ts : List Part} → Spells level e ts → exp_size e + extra e ≤ weight ts
  spells_size (of_level s) = of_level_size s
  spells_size (prefixed {m = m} s) = omega (arith, spells_size s, weight_unary m)

  pub of_level_size : {level : ℕ} {e : Exp} {ts : List Part} → IsOfLevel level e ts → exp_size e + extra e ≤ weight ts
  of_level_size spell.name = omega arith
  of_level_size spell.number = omega arith
  of_level_size spell.character = omega arith
  of_level_size spell.text = omega arith
  of_level_size spell.true_word = omega arith
  of_level_size spell.false_word = omega arith
  of_level_size (spell.bracketed {ts = ts} s) = omega (arith, spells_size s, weight_append ts (A sign.CloseBracket ∷ []))
  of_level_size (spell.table s) = omega (arith, exps_spelled_size s)
  of_level_size (spell.valof s) = omega (arith, body_size s)
  of_level_size (spell.call {ts = ts} {us = us} f es) = omega (arith, of_level_size f, arguments_size es, weight_append ts (in_round us), weight_append us (A sign.CloseBracket ∷ []))
  of_level_size (spell.unary {m = m} h s) = omega (arith, spells_size s, weight_unary m)
  of_level_size (spell.binary {o = o} {ts = ts} {us = us} h l r) = omega (arith, of_level_size l, spells_size r, weight_append ts (A (binary_sign o) ∷ us), weight_binary o)
  of_level_size (spell.condition {ts = ts} {us = us} {vs = vs} h c x y) = omega (arith, of_level_size c, spells_size x, spells_size y, weight_append ts (A sign.Arrow ∷ (us ++ A sign.Comma ∷ vs)), weight_append us (A sign.Comma ∷ vs))

  pub exps_spelled_size : {level : ℕ} {es : Exps} {ts : List Part} → SpellsExps level es ts → exps_size es ≤ weight ts
  exps_spelled_size (one s) = omega (arith, spells_size s)
  exps_spelled_size (next {e = e} {es = es} {ts = ts} {us = us} s t) = omega (arith, exps_spelled_size s, spells_size t, size_add_exp es e, weight_append ts (A sign.Comma ∷ us))

  pub arguments_size : {es : Exps} {ts : List Part} → SpellsArguments es ts → exps_size es ≤ weight ts
  arguments_size no_arguments = omega arith
  arguments_size (arguments s) = exps_spelled_size s

  pub section_size : {ds : Declarations} {ts : List Part} → SpellsSection ds ts → declarations_size ds ≤ weight ts
  section_size (section s) = omega (arith, places_size s)

  pub block_spelled_size : {b : Block} {ts : List Part} → SpellsBlock b ts → block_size b + 1 ≤ weight ts
  block_spelled_size (block_brackets {ts = ts} s) = omega (arith, places_size s, weight_append ts (A sign.CloseSection ∷ []))

  pub places_size : {ds : Declarations} {is : Items} {ts : List Part} → SpellsPlaces ds is ts → declarations_size ds + items_size is ≤ weight ts
  places_size (ended s) = ended_size s
  places_size (last_declaration {ds = ds} {d = d} {ts = ts} {us = us} s t) = omega (arith, ended_size s, declaration_spelled_size t, size_add_declaration ds d, weight_append ts us)
  places_size (last_item {is = is} {i = i} {ts = ts} {us = us} s t) = omega (arith, ended_size s, item_spelled_size t, size_add_item is i, weight_append ts us)

  pub ended_size : {ds : Declarations} {is : Items} {ts : List Part} → SpellsEnded ds is ts → declarations_size ds + items_size is ≤ weight ts
  ended_size nothing = omega arith
  ended_size (gap {ts = ts} {s = x} s h) = omega (arith, ended_size s, weight_append ts (x ∷ []))
  ended_size (declared {ds = ds} {d = d} {ts = ts} {us = us} {s = x} s t h) = omega (arith, ended_size s, declaration_spelled_size t, size_add_declaration ds d, weight_append ts (us ++ x ∷ []), weight_append us (x ∷ []))
  ended_size (placed {is = is} {i = i} {ts = ts} {us = us} {s = x} s t h) = omega (arith, ended_size s, item_spelled_size t, size_add_item is i, weight_append ts (us ++ x ∷ []), weight_append us (x ∷ []))

  pub declaration_spelled_size : {d : Declaration} {ts : List Part} → SpellsDeclaration d ts → declaration_size d ≤ weight ts
  declaration_spelled_size (spell.constants {ts = ts} s) = omega (arith, entries_spelled_size s, weight_append ts (A sign.CloseSection ∷ []))
  declaration_spelled_size (spell.definitions s) = omega (arith, definitions_spelled_size s)

  pub entries_spelled_size : {es : Entries} {ts : List Part} → SpellsEntries es ts → entries_size es ≤ weight ts
  entries_spelled_size (all_entries_ended s) = ended_entries_size s
  entries_spelled_size (last_entry {es = es} n {s = x} {k = k} {ts = ts} {us = us} s h t) = omega (arith, ended_entries_size s, spells_size t, size_add_entry es n k, weight_append ts (Name n ∷ A x ∷ us))

  pub ended_entries_size : {es : Entries} {ts : List Part} → EndedEntries es ts → entries_size es ≤ weight ts
  ended_entries_size no_entry = omega arith
  ended_entries_size (entry_gap {ts = ts} {s = x} s h) = omega (arith, ended_entries_size s, weight_append ts (x ∷ []))
  ended_entries_size (entered {es = es} n {s = x} {t = y} {k = k} {ts = ts} {us = us} s h t i) =
      omega (arith, ended_entries_size s, spells_size t, size_add_entry es n k, weight_append ts ((Name n ∷ A x ∷ us) ++ y ∷ []), weight_append (Name n ∷ A x ∷ us) (y ∷ []))

  pub definitions_spelled_size : {ds : Definitions} {ts : List Part} → SpellsDefinitions ds ts → definitions_size ds ≤ weight ts
  definitions_spelled_size (one_definition s) = omega (arith, definition_spelled_size s)
  definitions_spelled_size (next_definition {d = d} {ds = ds} {ts = ts} {us = us} s t) = omega (arith, definitions_spelled_size s, definition_spelled_size t, size_add_definition ds d, weight_append ts (A sign.And ∷ us))

  pub definition_spelled_size : {d : Definition} {ts : List Part} → SpellsDefinition d ts → definition_size d ≤ weight ts
  definition_spelled_size (spell.variables {ns = ns} {ts = ts} h s) = omega (arith, exps_spelled_size s, weight_append (named ns) (A sign.Equal ∷ ts))
  definition_spelled_size (spell.vector s) = omega (arith, spells_size s)
  definition_spelled_size (spell.function {ps = ps} {ts = ts} s) = omega (arith, spells_size s, weight_append (in_round (named ps)) (A sign.Equal ∷ ts))
  definition_spelled_size (spell.routine {ps = ps} {ts = ts} s) = omega (arith, body_size s, weight_append (in_round (named ps)) (A sign.Be ∷ ts))

  pub item_spelled_size : {i : Item} {ts : List Part} → SpellsItem i ts → item_size i ≤ weight ts
  item_spelled_size (labelled {ts = ts} {us = us} s t) = omega (arith, labels_spelled_size s, command_spelled_size t, weight_append ts us)
  item_spelled_size (labels_alone h s) = labels_spelled_size s

  pub labels_spelled_size : {ls : Labels} {ts : List Part} → SpellsLabels ls ts → labels_size ls ≤ weight ts
  labels_spelled_size no_more = omega arith
  labels_spelled_size (spell.case {ls = ls} {k = k} {ts = ts} {us = us} s t) = omega (arith, labels_spelled_size s, spells_size t, size_add_label ls (tree.Case k), weight_append ts (A sign.Case ∷ (us ++ A sign.Colon ∷ [])), weight_append us (A sign.Colon ∷ []))
  labels_spelled_size (spell.default {ls = ls} {ts = ts} s) = omega (arith, labels_spelled_size s, size_add_label ls tree.Default, weight_append ts (A sign.Default ∷ A sign.Colon ∷ []))
  labels_spelled_size (spell.named_label {ls = ls} n {ts = ts} s) = omega (arith, labels_spelled_size s, size_add_label ls (tree.Named n), weight_append ts (Name n ∷ A sign.Colon ∷ []))

  pub body_size : {b : Block} {ts : List Part} → SpellsBody b ts → block_size b ≤ weight ts
  body_size (body_command {c = c} s) = omega (arith, command_spelled_size s, size_body c)

  pub do_size : {b : Block} {ts : List Part} → SpellsDo b ts → block_size b ≤ weight ts
  do_size (do_body true true s) = omega (arith, body_size s)
  do_size (do_body true false s) = omega (arith, body_size s)
  do_size (do_body false true s) = omega (arith, body_size s)
  do_size (do_body false false s) = omega (arith, body_size s)

  pub simple_size : {c : Command} {ts : List Part} → SpellsSimple c ts → command_size c ≤ weight ts
  simple_size (spell.assign {ts = ts} {us = us} h s t) = omega (arith, exps_spelled_size s, exps_spelled_size t, weight_append ts (A sign.Assign ∷ us))
  simple_size (spell.run s) = spells_size s
  simple_size (spell.compound s) = block_spelled_size s
  simple_size spell.break = omega arith
  simple_size spell.loop = omega arith
  simple_size spell.end_case = omega arith
  simple_size spell.return = omega arith
  simple_size spell.finish = omega arith
  simple_size (spell.result_is s) = omega (arith, spells_size s)
  simple_size spell.goto = omega arith
  simple_size (spell.repeat {ts = ts} s) = omega (arith, simple_size s, weight_append ts (A sign.Repeat ∷ []))
  simple_size (spell.repeat_while {ts = ts} {us = us} s t) = omega (arith, simple_size s, spells_size t, weight_append ts (A sign.RepeatWhile ∷ us))
  simple_size (spell.repeat_until {ts = ts} {us = us} s t) = omega (arith, simple_size s, spells_size t, weight_append ts (A sign.RepeatUntil ∷ us))

  pub command_spelled_size : {c : Command} {ts : List Part} → SpellsCommand c ts → command_size c ≤ weight ts
  command_spelled_size (simple s) = simple_size s
  command_spelled_size (spell.if_do {ts = ts} {us = us} s t) = omega (arith, spells_size s, do_size t, weight_append ts us)
  command_spelled_size (spell.unless_do {ts = ts} {us = us} s t) = omega (arith, spells_size s, do_size t, weight_append ts us)
  command_spelled_size (spell.while_do {ts = ts} {us = us} s t) = omega (arith, spells_size s, do_size t, weight_append ts us)
  command_spelled_size (spell.until_do {ts = ts} {us = us} s t) = omega (arith, spells_size s, do_size t, weight_append ts us)
  command_spelled_size (spell.test {ts = ts} {us = us} {vs = vs} s t u) = omega (arith, spells_size s, do_size t, body_size u, weight_append ts (us ++ A sign.Else ∷ vs), weight_append us (A sign.Else ∷ vs))
  command_spelled_size (spell.for {ts = ts} {us = us} {vs = vs} s t u) = omega (arith, spells_size s, spells_size t, do_size u, weight_append ts (A sign.To ∷ (us ++ vs)), weight_append us vs)
  command_spelled_size (spell.for_by {ts = ts} {us = us} {ws = ws} {vs = vs} s t w u) =
      omega (arith, spells_size s, spells_size t, spells_size w, do_size u, weight_append ts (A sign.To ∷ (us ++ A sign.By ∷ (ws ++ vs))), weight_append us (A sign.By ∷ (ws ++ vs)), weight_append ws vs)
  command_spelled_size (spell.switch_on {ts = ts} {us = us} s t) = omega (arith, spells_size s, places_size t, weight_append ts (A sign.Into ∷ A sign.OpenSection ∷ (us ++ A sign.CloseSection ∷ [])), weight_append us (A sign.CloseSection ∷ []))
