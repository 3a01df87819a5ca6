-- The height that a reader gives is that of the tree, and at most the bound. One lemma per reader, along the reader's
-- text.
use Rattle.std.proofs.Common.{◌≡◌, ℕ, zero, suc, ◌-◌, ◌+◌, ◌<◌, ◌≤◌, Bool, true, false, ◌&&◌, cond, ltb, eqb, List, [], ◌∷◌, length, max, Option, Some, None, Result, Ok, Err, refl, sym, ap, subst, arith}
use Rattle.std.proofs.lemmas.Bool.{ltb-true}
use Rattle.bc_lex_tokens.specs.declared.symbol.Symbol.TheVariants as sign
use Rattle.bc_parse_tree.specs.declared.tree.BinaryOp as code_binary
use Rattle.bc_parse_tree.specs.declared.tree.UnaryOp as code_unary
use Rattle.bc_parse_tree.specs.Parts.{Part}
use Rattle.bc_parse_tree.specs.Parts as Parts
use Rattle.bc_parse_tree.specs.Tree.{Exp, Exps, none, more, Block, block, Declaration, Declarations, no_declarations, declaration, Entries, no_entries, entry, Definition, Definitions, no_definitions, definition, Item, Labelled, Labels_alone, Items, no_items, item, Label, Labels, no_labels, label, Command}
use Rattle.bc_parse_tree.specs.Tree as tree
use Rattle.bc_parse_tree.specs.View.{for_from}
use Rattle.bc_parse_tree.specs.Operators.{level_of, operand_level}
use Rattle.bc_parse_tree.specs.Height.{exp_height, exps_height, block_height, declaration_height, declarations_height, entries_height, definition_height, definitions_height, item_height, items_height, label_height, labels_height, command_height}
use Rattle.bc_parse_tree.specs.Spelling.{count, add_exp, add_entry, add_definition, add_declaration, add_label, add_item}
use Rattle.bc_parse_defs.specs.declared.words.Start.{Start}
use Rattle.bc_parse_defs.specs.declared.words.Start.TheVariants as start
use Rattle.bc_parse_defs.specs.declared.words.Tested.{Tested}
use Rattle.bc_parse_defs.specs.declared.words.Tested.TheVariants as tested
use Rattle.bc_parse_defs.specs.declared.words.CommandWord.{CommandWord}
use Rattle.bc_parse_defs.specs.declared.words.CommandWord.TheVariants as command_word
use Rattle.bc_parse_defs.specs.declared.words.SimpleWord.{SimpleWord}
use Rattle.bc_parse_defs.specs.declared.words.SimpleWord.TheVariants as simple_word
use Rattle.bc_parse_defs.specs.declared.words.RepeatWord.{RepeatWord}
use Rattle.bc_parse_defs.specs.declared.words.RepeatWord.TheVariants as repeat_word
use Rattle.bc_parse_defs.specs.declared.words.DeclarationWord.{DeclarationWord}
use Rattle.bc_parse_defs.specs.declared.words.DeclarationWord.TheVariants as declaration_word
use Rattle.bc_parse_defs.specs.declared.words.Places.{Places}
use Rattle.bc_parse_defs.specs.declared.words.Places.TheVariants as places
use Rattle.bc_parse_defs.specs.Reading.{Fault, ◌>>=◌, Piece, piece, turns, on, expect_of, after_of, separator_of, name_of, word_in, leaf_of, start_of, command_word_of, simple_word_of, repeat_word_of, constant_sign_of, Following, Ends, Operator, Arguments, Choice, ends, following, LabelStart, NoLabel, CaseLabel, DefaultLabel, NameLabel, label_start, Shape, Parameters, Size, Values, shape_of, past_do, end_of, place_end, names_read, parameters_read, Reader, CommandReader, DefinitionReader, next_exp, call_in, exps_turn, exps_read, arguments_read, with_operator, with_arguments, with_choice, suffix_read, grow_turn, grow_read, bracket_read, table_read, unary_read, tested_command, as_body, some_label, is_place_end, no_item_yet, may_command, declares, repeated, repeat_turn, repeats_read, label_read, labels_read, entry_read, entry_turn, entries_read, item_read, definition_turn, definitions_read, declaration_read, part_read, place_turn, places_read, block_read, body_of_block, body_read, do_read, valof_read, started_read, operand_read, assigned_read, simple_read, tested_read, test_read, step_read, for_read, switch_read, compound_read, repeatable_read, command_read, variables_read, vector_read, routine_read, shaped_read, defined_read, exp_of, command_of, definition_of, section_of}
use Rattle.bc_parse_defs.proofs.Yields.{Yields, then, guard, branch, choice, from_yields, looped}

height_add_exp : (es : Exps) (e : Exp) → exps_height (add_exp es e) ≡ max (exps_height es) (exp_height e)
height_add_exp none e = omega arith
height_add_exp (more d es) e = omega (arith, height_add_exp es e)

height_add_entry : (es : Entries) (n : List ℕ) (k : Exp) → entries_height (add_entry es n k) ≡ max (entries_height es) (exp_height k)
height_add_entry no_entries n k = omega arith
height_add_entry (entry m j es) n k = omega (arith, height_add_entry es n k)

height_add_definition : (ds : Definitions) (d : Definition) → definitions_height (add_definition ds d) ≡ max (definitions_height ds) (definition_height d)
height_add_definition no_definitions d = omega arith
height_add_definition (definition c ds) d = omega (arith, height_add_definition ds d)

height_add_declaration : (ds : Declarations) (d : Declaration) → declarations_height (add_declaration ds d) ≡ max (declarations_height ds) (declaration_height d)
height_add_declaration no_declarations d = omega arith
height_add_declaration (declaration c ds) d = omega (arith, height_add_declaration ds d)

height_add_label : (ls : Labels) (l : Label) → labels_height (add_label ls l) ≡ max (labels_height ls) (label_height l)
height_add_label no_labels l = omega arith
height_add_label (label k ls) l = omega (arith, height_add_label ls l)

height_add_item : (is : Items) (i : Item) → items_height (add_item is i) ≡ max (items_height is) (item_height i)
height_add_item no_items i = omega arith
height_add_item (item j is) i = omega (arith, height_add_item is i)

-- the height is that of the tree, and at most a bound
pub record High (height tree_height nest : ℕ) : Type 0 where
  pub is : height ≡ tree_height
  pub low : height ≤ nest

nothing_from : {X : Type 0} (r : Result X Fault) → Yields r (λ _. Unit {0})
nothing_from (Ok x) = tt
nothing_from (Err e) = tt

abbrev pub HighExp : ℕ → Piece Exp → Type 0
HighExp nest p = High p.height (exp_height p.tree) nest

abbrev pub HighOperand : ℕ → Piece (Exp × ℕ) → Type 0
HighOperand nest p = High p.height (exp_height p.tree.0) nest

abbrev pub HighExps : ℕ → Piece Exps → Type 0
HighExps nest p = High p.height (exps_height p.tree) nest

abbrev pub HighCommand : ℕ → Piece Command → Type 0
HighCommand nest p = High p.height (command_height p.tree) nest

abbrev pub HighBlock : ℕ → Piece Block → Type 0
HighBlock nest p = High p.height (block_height p.tree) nest

abbrev pub HighDefinition : ℕ → Piece Definition → Type 0
HighDefinition nest p = High p.height (definition_height p.tree) nest

module _ (E : Reader) (exp_high : (nest round level : ℕ) (ts : List Part) → Yields (E nest round level ts) (HighExp nest)) where
  bracket_high : (nest round place : ℕ) (ts : List Part) → Yields (bracket_read E nest round place ts) (HighExp nest)
  unfolding bracket_read
  bracket_high nest round place ts =
      guard (ltb 0 round) _ _ _ (λ room. then (E nest (round - 1) 1 ts) _ _ _ (exp_high nest (round - 1) 1 ts) (λ (e : Piece Exp) h.
      then (expect_of sign.CloseBracket e.rest) _ _ _ (nothing_from (expect_of sign.CloseBracket e.rest)) (λ (rest : List Part) u. h)))

  next_high : (nest limit : ℕ) (p : Piece Exps) → HighExps nest p → Yields (next_exp limit p) (λ t. cond t.1 (HighExps nest t.0) (HighExps nest t.0))
  next_high nest limit p h = branch (eqb (count p.tree) limit) _ _ _ (λ full. h) (λ more_room. choice (after_of sign.Comma p.rest) _ _ _ (λ no. h) (λ (after : List Part) c. h))

  exps_turn_high : (nest round level limit : ℕ) (s : Piece Exps) → HighExps nest s → Yields (exps_turn E nest round level limit s) (λ t. cond t.1 (HighExps nest t.0) (HighExps nest t.0))
  unfolding exps_turn
  exps_turn_high nest round level limit s i =
      then (E nest round level s.rest) _ _ _ (exp_high nest round level s.rest) (λ (e : Piece Exp) h.
      next_high nest limit (piece (add_exp s.tree e.tree) (max s.height e.height) e.rest) (record { is = omega (arith, height_add_exp s.tree e.tree); low = omega arith }))

  pub exps_high : (nest round level limit : ℕ) (ts : List Part) → Yields (exps_read E nest round level limit ts) (HighExps nest)
  unfolding exps_read
  exps_high nest round level limit ts = looped (exps_turn E nest round level limit) (HighExps nest) (HighExps nest) (exps_turn_high nest round level limit) (length ts + 1) (piece none 0 ts) (record { is = refl; low = omega arith })

  arguments_high : (nest round : ℕ) (ts : List Part) → Yields (arguments_read E nest round ts) (HighExps nest)
  unfolding arguments_read
  arguments_high nest round ts =
      choice (after_of sign.CloseBracket ts) _ _ _
      (λ no. then (exps_read E nest round 1 (length ts + 1) ts) _ _ _ (exps_high nest round 1 (length ts + 1) ts) (λ (es : Piece Exps) h.
      then (expect_of sign.CloseBracket es.rest) _ _ _ (nothing_from (expect_of sign.CloseBracket es.rest)) (λ (rest : List Part) u. h)))
      (λ (after : List Part) closed. record { is = refl; low = omega arith })

  table_high : (nest round : ℕ) (ts : List Part) → 0 < nest → Yields (table_read E nest round ts) (HighExp nest)
  unfolding table_read
  table_high nest round ts pos = then (exps_read E (nest - 1) round 2 (length ts + 1) ts) _ _ _ (exps_high (nest - 1) round 2 (length ts + 1) ts) (λ (ks : Piece Exps) h. record { is = omega arith; low = omega arith })

  unary_high : (nest round : ℕ) (m : code_unary.UnaryOp) (ts : List Part) → 0 < nest → Yields (unary_read E nest round m ts) (HighExp nest)
  unfolding unary_read
  unary_high nest round m ts pos = then (E (nest - 1) round (operand_level m) ts) _ _ _ (exp_high (nest - 1) round (operand_level m) ts) (λ (e : Piece Exp) h. record { is = omega arith; low = omega arith })

  operator_high : (nest round : ℕ) (o : code_binary.BinaryOp) (left : Exp) (height place : ℕ) (ts : List Part) → height ≡ exp_height left → Yields (with_operator E nest round o left height place ts) (HighExp nest)
  unfolding with_operator
  operator_high nest round o left height place ts is =
      guard (ltb height nest) _ _ _ (λ room. let below = ltb-true height nest room in
      then (E (nest - 1) round (level_of o + 1) ts) _ _ _ (exp_high (nest - 1) round (level_of o + 1) ts) (λ (r : Piece Exp) h. record { is = omega arith; low = omega arith }))

  and_left : (a b : Bool) → (a && b) ≡ true → a ≡ true
  and_left true b e = refl
  and_left false b e = absurd cc

  call_high : (nest round : ℕ) (left : Exp) (height place : ℕ) (ts : List Part) → height ≡ exp_height left → Yields (with_arguments E nest round left height place ts) (HighExp nest)
  unfolding with_arguments
  call_high nest round left height place ts is =
      guard (ltb height nest && ltb 0 round) _ _ _ (λ room. let below = ltb-true height nest (and_left _ _ room) in
      then (arguments_read E (nest - 1) (round - 1) ts) _ _ _ (arguments_high (nest - 1) (round - 1) ts) (λ (es : Piece Exps) h. record { is = omega arith; low = omega arith }))

  choice_high : (nest round : ℕ) (left : Exp) (height place : ℕ) (ts : List Part) → height ≡ exp_height left → Yields (with_choice E nest round left height place ts) (HighExp nest)
  unfolding with_choice
  choice_high nest round left height place ts is =
      guard (ltb height nest) _ _ _ (λ room. let below = ltb-true height nest room in
      then (E (nest - 1) round 1 ts) _ _ _ (exp_high (nest - 1) round 1 ts) (λ (x : Piece Exp) h.
      then (expect_of sign.Comma x.rest) _ _ _ (nothing_from (expect_of sign.Comma x.rest)) (λ (rest : List Part) u.
      then (E (nest - 1) round 1 rest) _ _ _ (exp_high (nest - 1) round 1 rest) (λ (y : Piece Exp) g. record { is = omega arith; low = omega arith }))))

  suffix_high : (nest round begin : ℕ) (s : Piece (Exp × ℕ)) (place : ℕ) (f : Following) → HighOperand nest s → Yields (suffix_read E nest round begin f s.tree.0 s.height place) (HighOperand nest)
  unfolding suffix_read
  suffix_high nest round begin s place Ends h = tt
  suffix_high nest round begin s place (Operator o after) h = then (with_operator E nest round o s.tree.0 s.height place after) _ _ _ (operator_high nest round o s.tree.0 s.height place after h.is) (λ (p : Piece Exp) g. g)
  suffix_high nest round begin s place (Arguments after) h = then (with_arguments E nest round s.tree.0 s.height place after) _ _ _ (call_high nest round s.tree.0 s.height place after h.is) (λ (p : Piece Exp) g. g)
  suffix_high nest round begin s place (Choice after) h = then (with_choice E nest round s.tree.0 s.height begin after) _ _ _ (choice_high nest round s.tree.0 s.height begin after h.is) (λ (p : Piece Exp) g. g)

  grow_turn_high : (nest round begin level : ℕ) (s : Piece (Exp × ℕ)) → HighOperand nest s → Yields (grow_turn E nest round begin level s) (λ t. cond t.1 (HighOperand nest t.0) (HighOperand nest t.0))
  unfolding grow_turn
  grow_turn_high nest round begin level s h =
      branch (ends (following level s.tree.1 s.rest)) _ _ _ (λ end. h) (λ goes_on.
      then (suffix_read E nest round begin (following level s.tree.1 s.rest) s.tree.0 s.height (length s.rest)) _ _ _ (suffix_high nest round begin s (length s.rest) (following level s.tree.1 s.rest) h) (λ (t : Piece (Exp × ℕ)) g. g))

  pub grow_high : (nest round begin level : ℕ) (s : Piece (Exp × ℕ)) → HighOperand nest s → Yields (grow_read E nest round begin level s) (HighExp nest)
  unfolding grow_read
  grow_high nest round begin level s h =
      then (turns (grow_turn E nest round begin level) (length s.rest + 1) s) _ _ _ (looped (grow_turn E nest round begin level) (HighOperand nest) (HighOperand nest) (grow_turn_high nest round begin level) (length s.rest + 1) s h) (λ (p : Piece (Exp × ℕ)) g. g)

  repeated_high : (nest round : ℕ) (w : RepeatWord) (s : Piece Command) (ts : List Part) → s.height ≡ command_height s.tree → s.height < nest → Yields (repeated E nest round w s ts) (λ t. cond t.1 (HighCommand nest t.0) (HighCommand nest t.0))
  unfolding repeated
  repeated_high nest round repeat_word.Repeat s ts is below = record { is = omega arith; low = omega arith }
  repeated_high nest round repeat_word.While s ts is below = then (E (nest - 1) round 1 ts) _ _ _ (exp_high (nest - 1) round 1 ts) (λ (e : Piece Exp) h. record { is = omega arith; low = omega arith })
  repeated_high nest round repeat_word.Until s ts is below = then (E (nest - 1) round 1 ts) _ _ _ (exp_high (nest - 1) round 1 ts) (λ (e : Piece Exp) h. record { is = omega arith; low = omega arith })

  repeat_turn_high : (nest round : ℕ) (s : Piece Command) → HighCommand nest s → Yields (repeat_turn E nest round s) (λ t. cond t.1 (HighCommand nest t.0) (HighCommand nest t.0))
  unfolding repeat_turn
  repeat_turn_high nest round s h =
      choice (word_in repeat_word_of s.rest) _ _ _ (λ no. h) (λ (w : RepeatWord × List Part) is.
      guard (ltb s.height nest) _ _ _ (λ room. repeated_high nest round w.0 s w.1 h.is (ltb-true s.height nest room)))

  pub repeats_high : (nest round : ℕ) (s : Piece Command) → HighCommand nest s → Yields (repeats_read E nest round s) (HighCommand nest)
  unfolding repeats_read
  repeats_high nest round s h = looped (repeat_turn E nest round) (HighCommand nest) (HighCommand nest) (repeat_turn_high nest round) (length s.rest + 1) s h

  abbrev HighLabels : ℕ → Piece Labels → Type 0
  HighLabels nest p = High p.height (labels_height p.tree) nest

  label_turn_high : (nest round : ℕ) (s : Piece Labels) (l : LabelStart) → HighLabels nest s → Yields (label_read E nest round s l) (λ t. cond t.1 (HighLabels nest t.0) (HighLabels nest t.0))
  unfolding label_read
  label_turn_high nest round s NoLabel h = h
  label_turn_high nest round s (CaseLabel after) h =
      then (E nest round 2 after) _ _ _ (exp_high nest round 2 after) (λ (k : Piece Exp) g.
      then (expect_of sign.Colon k.rest) _ _ _ (nothing_from (expect_of sign.Colon k.rest)) (λ (rest : List Part) u. record { is = omega (arith, height_add_label s.tree (tree.Case k.tree)); low = omega arith }))
  label_turn_high nest round s (DefaultLabel after) h =
      then (expect_of sign.Colon after) _ _ _ (nothing_from (expect_of sign.Colon after)) (λ (rest : List Part) u. record { is = omega (arith, height_add_label s.tree tree.Default); low = omega arith })
  label_turn_high nest round s (NameLabel n after) h = record { is = omega (arith, height_add_label s.tree (tree.Named n)); low = omega arith }

  pub labels_high : (nest round : ℕ) (ts : List Part) → Yields (labels_read E nest round ts) (HighLabels nest)
  unfolding labels_read
  labels_high nest round ts = looped (λ s. label_read E nest round s (label_start s.rest)) (HighLabels nest) (HighLabels nest) (λ s h. label_turn_high nest round s (label_start s.rest) h) (length ts + 1) (piece no_labels 0 ts) (record { is = refl; low = omega arith })

  abbrev HighEntries : ℕ → Piece Entries → Type 0
  HighEntries nest p = High p.height (entries_height p.tree) nest

  end_high : (mode : Places) (ts : List Part) {H : Type 0} → H → Yields (place_end mode ts) (λ e. cond e.1 H H)
  end_high mode ts h = choice (separator_of ts) _ _ _ (λ no. choice (end_of mode ts) _ _ _ (λ wrong. tt) (λ (after : List Part) c. h)) (λ (after : List Part) c. h)

  entry_high : (nest round : ℕ) (s : Piece Entries) → HighEntries nest s → Yields (entry_read E nest round s) (HighEntries nest)
  unfolding entry_read
  entry_high nest round s h =
      then (name_of s.rest) _ _ _ (nothing_from (name_of s.rest)) (λ (n : List ℕ × List Part) u.
      then (constant_sign_of n.1) _ _ _ (nothing_from (constant_sign_of n.1)) (λ (rest : List Part) v.
      then (E nest round 2 rest) _ _ _ (exp_high nest round 2 rest) (λ (k : Piece Exp) g. record { is = omega (arith, height_add_entry s.tree n.0 k.tree); low = omega arith })))

  entry_turn_high : (nest round : ℕ) (s : Piece Entries) → HighEntries nest s → Yields (entry_turn E nest round s) (λ t. cond t.1 (HighEntries nest t.0) (HighEntries nest t.0))
  unfolding entry_turn
  entry_turn_high nest round s h =
      choice (after_of sign.CloseSection s.rest) _ _ _
      (λ open_still. choice (separator_of s.rest) _ _ _
      (λ no. then (entry_read E nest round s) _ _ _ (entry_high nest round s h) (λ (p : Piece Entries) g.
      then (place_end places.Block p.rest) _ _ _ (end_high places.Block p.rest g) (λ (e : List Part × Bool) k. k)))
      (λ (after : List Part) c. h))
      (λ (after : List Part) c. h)

  pub entries_high : (nest round : ℕ) (ts : List Part) → Yields (entries_read E nest round ts) (HighEntries nest)
  unfolding entries_read
  entries_high nest round ts = looped (entry_turn E nest round) (HighEntries nest) (HighEntries nest) (entry_turn_high nest round) (length ts + 1) (piece no_entries 0 ts) (record { is = refl; low = omega arith })

-- a command as a body nests at most as deep as the command
as_body_high : (c : Command) (h nest : ℕ) → High h (command_height c) nest → High (as_body c h).1 (block_height (as_body c h).0) nest
as_body_high (tree.Compound b) h nest g = record { is = omega arith; low = omega arith }
as_body_high (tree.Assign xs es) h nest g = record { is = omega arith; low = g.low }
as_body_high (tree.Do f es) h nest g = record { is = omega arith; low = g.low }
as_body_high tree.Break h nest g = record { is = omega arith; low = g.low }
as_body_high tree.Loop h nest g = record { is = omega arith; low = g.low }
as_body_high tree.EndCase h nest g = record { is = omega arith; low = g.low }
as_body_high tree.Return h nest g = record { is = omega arith; low = g.low }
as_body_high tree.Finish h nest g = record { is = omega arith; low = g.low }
as_body_high (tree.ResultIs e) h nest g = record { is = omega arith; low = g.low }
as_body_high (tree.Goto n) h nest g = record { is = omega arith; low = g.low }
as_body_high (tree.Repeat c) h nest g = record { is = omega arith; low = g.low }
as_body_high (tree.RepeatWhile c e) h nest g = record { is = omega arith; low = g.low }
as_body_high (tree.RepeatUntil c e) h nest g = record { is = omega arith; low = g.low }
as_body_high (tree.If e b) h nest g = record { is = omega arith; low = g.low }
as_body_high (tree.Unless e b) h nest g = record { is = omega arith; low = g.low }
as_body_high (tree.While e b) h nest g = record { is = omega arith; low = g.low }
as_body_high (tree.Until e b) h nest g = record { is = omega arith; low = g.low }
as_body_high (tree.Test e b d) h nest g = record { is = omega arith; low = g.low }
as_body_high (tree.For n a z b) h nest g = record { is = omega arith; low = g.low }
as_body_high (tree.ForBy n a z k b) h nest g = record { is = omega arith; low = g.low }
as_body_high (tree.SwitchOn e is) h nest g = record { is = omega arith; low = g.low }

module _ (E : Reader) (C : CommandReader) (D : DefinitionReader)
    (exp_high : (nest round level : ℕ) (ts : List Part) → Yields (E nest round level ts) (HighExp nest))
    (command_high : (nest round : ℕ) (ts : List Part) → Yields (C nest round ts) (HighCommand nest))
    (definition_high : (nest round : ℕ) (ts : List Part) → Yields (D nest round ts) (HighDefinition nest)) where
  item_high : (nest round : ℕ) (ts : List Part) → Yields (item_read E C D nest round ts) (λ p. High p.height (item_height p.tree) nest)
  unfolding item_read
  item_high nest round ts =
      then (labels_read E nest round ts) _ _ _ (labels_high E exp_high nest round ts) (λ (ls : Piece Labels) h.
      branch (some_label ls.tree && is_place_end ls.rest) _ _ _ (λ alone. h)
      (λ more_after. then (C nest round ls.rest) _ _ _ (command_high nest round ls.rest) (λ (c : Piece Command) g. record { is = omega arith; low = omega arith })))

  abbrev HighDefinitions : ℕ → Piece Definitions → Type 0
  HighDefinitions nest p = High p.height (definitions_height p.tree) nest

  definition_turn_high : (nest round : ℕ) (s : Piece Definitions) → HighDefinitions nest s → Yields (definition_turn E C D nest round s) (λ t. cond t.1 (HighDefinitions nest t.0) (HighDefinitions nest t.0))
  unfolding definition_turn
  definition_turn_high nest round s h =
      then (D nest round s.rest) _ _ _ (definition_high nest round s.rest) (λ (d : Piece Definition) g.
      let both : High (max s.height d.height) (definitions_height (add_definition s.tree d.tree)) nest = record { is = omega (arith, height_add_definition s.tree d.tree); low = omega arith } in
      choice (after_of sign.And d.rest) _ _ _ (λ no. both) (λ (after : List Part) c. both))

  definitions_high : (nest round : ℕ) (ts : List Part) → Yields (definitions_read E C D nest round ts) (HighDefinitions nest)
  unfolding definitions_read
  definitions_high nest round ts = looped (definition_turn E C D nest round) (HighDefinitions nest) (HighDefinitions nest) (definition_turn_high nest round) (length ts + 1) (piece no_definitions 0 ts) (record { is = refl; low = omega arith })

  declaration_high : (nest round : ℕ) (w : DeclarationWord) (ts : List Part) → Yields (declaration_read E C D nest round w ts) (λ p. High p.height (declaration_height p.tree) nest)
  unfolding declaration_read
  declaration_high nest round declaration_word.Let ts = then (definitions_read E C D nest round ts) _ _ _ (definitions_high nest round ts) (λ (ds : Piece Definitions) h. h)
  declaration_high nest round (declaration_word.Constants s) ts =
      then (expect_of sign.OpenSection ts) _ _ _ (nothing_from (expect_of sign.OpenSection ts)) (λ (rest : List Part) u.
      then (entries_read E nest round rest) _ _ _ (entries_high E exp_high nest round rest) (λ (es : Piece Entries) h. h))

  abbrev HighPlaces : ℕ → Piece (Declarations × Items) → Type 0
  HighPlaces nest p = High p.height (max (declarations_height p.tree.0) (items_height p.tree.1)) nest

  part_high : (mode : Places) (nest round : ℕ) (s : Piece (Declarations × Items)) → HighPlaces nest s → Yields (part_read E C D mode nest round s) (HighPlaces nest)
  unfolding part_read
  part_high mode nest round s h =
      choice (declares mode (no_item_yet s.tree.1) s.rest) _ _ _
      (λ no. guard (may_command mode) _ _ _ (λ may.
      then (item_read E C D nest round s.rest) _ _ _ (item_high nest round s.rest) (λ (i : Piece Item) g. record { is = omega (arith, height_add_item s.tree.1 i.tree); low = omega arith })))
      (λ (w : DeclarationWord × List Part) is.
      then (declaration_read E C D nest round w.0 w.1) _ _ _ (declaration_high nest round w.0 w.1) (λ (d : Piece Declaration) g. record { is = omega (arith, height_add_declaration s.tree.0 d.tree); low = omega arith }))

  place_turn_high : (mode : Places) (nest round : ℕ) (s : Piece (Declarations × Items)) → HighPlaces nest s → Yields (place_turn E C D mode nest round s) (λ t. cond t.1 (HighPlaces nest t.0) (HighPlaces nest t.0))
  unfolding place_turn
  place_turn_high mode nest round s h =
      choice (end_of mode s.rest) _ _ _
      (λ goes_on. choice (separator_of s.rest) _ _ _
      (λ no. then (part_read E C D mode nest round s) _ _ _ (part_high mode nest round s h) (λ (p : Piece (Declarations × Items)) g.
      then (place_end mode p.rest) _ _ _ (end_high E exp_high mode p.rest g) (λ (e : List Part × Bool) k. k)))
      (λ (after : List Part) c. h))
      (λ (after : List Part) c. h)

  pub places_high : (mode : Places) (nest round : ℕ) (ts : List Part) → Yields (places_read E C D mode nest round ts) (HighPlaces nest)
  unfolding places_read
  places_high mode nest round ts = looped (place_turn E C D mode nest round) (HighPlaces nest) (HighPlaces nest) (place_turn_high mode nest round) (length ts + 1) (piece (no_declarations, no_items) 0 ts) (record { is = refl; low = omega arith })

  block_high : (nest round : ℕ) (ts : List Part) → Yields (block_read E C D nest round ts) (HighBlock nest)
  unfolding block_read
  block_high nest round ts = then (places_read E C D places.Block nest round ts) _ _ _ (places_high places.Block nest round ts) (λ (p : Piece (Declarations × Items)) h. h)

  body_of_block_high : (nest round : ℕ) (b : Piece Block) → HighBlock nest b → Yields (body_of_block E C D nest round b) (HighBlock nest)
  unfolding body_of_block
  body_of_block_high nest round b h =
      choice (word_in repeat_word_of b.rest) _ _ _ (λ no. h) (λ (w : RepeatWord × List Part) is.
      guard (ltb b.height nest) _ _ _ (λ room. let below = ltb-true b.height nest room in
      then (repeats_read E nest round (piece (tree.Compound b.tree) (b.height + 1) b.rest)) _ _ _ (repeats_high E exp_high nest round (piece (tree.Compound b.tree) (b.height + 1) b.rest) (record { is = omega arith; low = omega arith })) (λ (c : Piece Command) g.
      as_body_high c.tree c.height nest g)))

  pub body_high : (nest round : ℕ) (ts : List Part) → Yields (body_read E C D nest round ts) (HighBlock nest)
  unfolding body_read
  body_high nest round ts =
      choice (after_of sign.OpenSection ts) _ _ _
      (λ no. then (C nest round ts) _ _ _ (command_high nest round ts) (λ (c : Piece Command) g. as_body_high c.tree c.height nest g))
      (λ (inner : List Part) c. then (block_read E C D nest round inner) _ _ _ (block_high nest round inner) (λ (b : Piece Block) h. body_of_block_high nest round b h))

  do_high : (nest round : ℕ) (ts : List Part) → Yields (do_read E C D nest round ts) (HighBlock nest)
  unfolding do_read
  do_high nest round ts = body_high nest round (past_do ts)

  valof_high : (nest round : ℕ) (ts : List Part) → 0 < nest → Yields (valof_read E C D nest round ts) (HighExp nest)
  unfolding valof_read
  valof_high nest round ts pos = then (body_read E C D (nest - 1) round ts) _ _ _ (body_high (nest - 1) round ts) (λ (b : Piece Block) h. record { is = omega arith; low = omega arith })

  started_high : (nest round place : ℕ) (w : Start) (ts : List Part) → 0 < nest → Yields (started_read E C D nest round place w ts) (HighOperand nest)
  unfolding started_read
  started_high nest round place start.Bracket ts pos = then (bracket_read E nest round place ts) _ _ _ (bracket_high E exp_high nest round place ts) (λ (e : Piece Exp) h. h)
  started_high nest round place start.Table ts pos = then (table_read E nest round ts) _ _ _ (table_high E exp_high nest round ts pos) (λ (e : Piece Exp) h. h)
  started_high nest round place start.Valof ts pos = then (valof_read E C D nest round ts) _ _ _ (valof_high nest round ts pos) (λ (e : Piece Exp) h. h)
  started_high nest round place (start.Unary m) ts pos = then (unary_read E nest round m ts) _ _ _ (unary_high E exp_high nest round m ts pos) (λ (e : Piece Exp) h. h)

  leaf_high : (ts : List Part) (x : Exp × List Part) → leaf_of ts ≡ Some x → exp_height x.0 ≡ 1
  leaf_high ts x is = from_leaf (leaf_of ts) (all_one ts) x is
    where
      from_leaf : (o : Option (Exp × List Part)) → (elim o as (λ _. Type 0) [ None ↦ Unit {0} | Some y ↦ exp_height y.0 ≡ 1 ]) → (x : Exp × List Part) → o ≡ Some x → exp_height x.0 ≡ 1
      from_leaf None h x e = absurd cc
      from_leaf (Some y) h x e = let same : y ≡ x = cc in subst (λ (z : Exp × List Part). exp_height z.0 ≡ 1) same h

      all_one : (ts : List Part) → (elim (leaf_of ts) as (λ _. Type 0) [ None ↦ Unit {0} | Some y ↦ exp_height y.0 ≡ 1 ])
      all_one [] = tt
      all_one (Parts.Name n ∷ ts) = refl
      all_one (Parts.Number n ∷ ts) = refl
      all_one (Parts.Character n ∷ ts) = refl
      all_one (Parts.String n ∷ ts) = refl
      all_one (Parts.NewLine ∷ ts) = tt
      all_one (Parts.A sign.True ∷ ts) = refl
      all_one (Parts.A sign.False ∷ ts) = refl
      all_one (Parts.A _ ∷ ts) = tt

  pub operand_high : (nest round : ℕ) (ts : List Part) → 0 < nest → Yields (operand_read E C D nest round ts) (HighOperand nest)
  unfolding operand_read
  operand_high nest round ts pos =
      choice (leaf_of ts) _ _ _
      (λ no. choice (word_in start_of ts) _ _ _ (λ wrong. tt) (λ (w : Start × List Part) is. started_high nest round (length ts) w.0 w.1 pos))
      (λ (e : Exp × List Part) is. record { is = sym (leaf_high ts e is); low = omega arith })

  call_in_high : (es : Exps) (c : Exp × Exps) → call_in es ≡ Some c → exps_height es ≡ max (exp_height c.0) (exps_height c.1) + 1
  call_in_high (more (tree.Call f es) none) c e = let h : (f, es) ≡ c = cc in subst (λ (x : Exp × Exps). max (max (exp_height f) (exps_height es) + 1) 0 ≡ max (exp_height x.0) (exps_height x.1) + 1) h (omega arith)
  call_in_high (more (tree.Call f es) (more d ds)) c e = absurd cc
  call_in_high none c e = absurd cc
  call_in_high (more (tree.Name s) ds) c e = absurd cc
  call_in_high (more (tree.Num n) ds) c e = absurd cc
  call_in_high (more (tree.Character n) ds) c e = absurd cc
  call_in_high (more (tree.Text s) ds) c e = absurd cc
  call_in_high (more tree.True ds) c e = absurd cc
  call_in_high (more tree.False ds) c e = absurd cc
  call_in_high (more (tree.Table ks) ds) c e = absurd cc
  call_in_high (more (tree.Valof b) ds) c e = absurd cc
  call_in_high (more (tree.Unary m x) ds) c e = absurd cc
  call_in_high (more (tree.Bin o l r) ds) c e = absurd cc
  call_in_high (more (tree.Cond x y z) ds) c e = absurd cc

  assigned_high : (nest round : ℕ) (ts : List Part) → 0 < nest → Yields (assigned_read E C D nest round ts) (HighCommand nest)
  unfolding assigned_read
  assigned_high nest round ts pos =
      then (exps_read E (nest - 1) round 1 (length ts + 1) ts) _ _ _ (exps_high E exp_high (nest - 1) round 1 (length ts + 1) ts) (λ (xs : Piece Exps) h.
      choice (after_of sign.Assign xs.rest) _ _ _
      (λ no. choice (call_in xs.tree) _ _ _ (λ wrong. tt) (λ (c : Exp × Exps) is. record { is = omega (arith, call_in_high xs.tree c is); low = omega arith }))
      (λ (after : List Part) assign.
      then (exps_read E (nest - 1) round 1 (count xs.tree) after) _ _ _ (exps_high E exp_high (nest - 1) round 1 (count xs.tree) after) (λ (es : Piece Exps) g.
      guard (eqb (count es.tree) (count xs.tree)) _ _ _ (λ same. record { is = omega arith; low = omega arith }))))

  simple_high : (nest round : ℕ) (w : SimpleWord) (ts : List Part) → 0 < nest → Yields (simple_read E C D nest round w ts) (HighCommand nest)
  unfolding simple_read
  simple_high nest round simple_word.Block ts pos = then (block_read E C D (nest - 1) round ts) _ _ _ (block_high (nest - 1) round ts) (λ (b : Piece Block) h. record { is = omega arith; low = omega arith })
  simple_high nest round simple_word.Break ts pos = record { is = refl; low = omega arith }
  simple_high nest round simple_word.Loop ts pos = record { is = refl; low = omega arith }
  simple_high nest round simple_word.EndCase ts pos = record { is = refl; low = omega arith }
  simple_high nest round simple_word.Return ts pos = record { is = refl; low = omega arith }
  simple_high nest round simple_word.Finish ts pos = record { is = refl; low = omega arith }
  simple_high nest round simple_word.ResultIs ts pos = then (E (nest - 1) round 1 ts) _ _ _ (exp_high (nest - 1) round 1 ts) (λ (e : Piece Exp) h. record { is = omega arith; low = omega arith })
  simple_high nest round simple_word.Goto ts pos = then (name_of ts) _ _ _ (nothing_from (name_of ts)) (λ (n : List ℕ × List Part) u. record { is = refl; low = omega arith })

  tested_height : (t : Tested) (e : Exp) (b : Block) → command_height (tested_command t e b) ≡ max (exp_height e) (block_height b) + 1
  tested_height tested.If e b = refl
  tested_height tested.Unless e b = refl
  tested_height tested.While e b = refl
  tested_height tested.Until e b = refl

  tested_high : (t : Tested) (nest round : ℕ) (ts : List Part) → 0 < nest → Yields (tested_read E C D t nest round ts) (HighCommand nest)
  unfolding tested_read
  tested_high t nest round ts pos =
      then (E (nest - 1) round 1 ts) _ _ _ (exp_high (nest - 1) round 1 ts) (λ (e : Piece Exp) h.
      then (do_read E C D (nest - 1) round e.rest) _ _ _ (do_high (nest - 1) round e.rest) (λ (b : Piece Block) g. record { is = omega (arith, tested_height t e.tree b.tree); low = omega arith }))

  test_high : (nest round : ℕ) (ts : List Part) → 0 < nest → Yields (test_read E C D nest round ts) (HighCommand nest)
  unfolding test_read
  test_high nest round ts pos =
      then (E (nest - 1) round 1 ts) _ _ _ (exp_high (nest - 1) round 1 ts) (λ (e : Piece Exp) h.
      then (do_read E C D (nest - 1) round e.rest) _ _ _ (do_high (nest - 1) round e.rest) (λ (b : Piece Block) g.
      then (expect_of sign.Else b.rest) _ _ _ (nothing_from (expect_of sign.Else b.rest)) (λ (rest : List Part) u.
      then (body_read E C D (nest - 1) round rest) _ _ _ (body_high (nest - 1) round rest) (λ (d : Piece Block) k. record { is = omega arith; low = omega arith }))))

  step_height : Option Exp → ℕ
  step_height None = 0
  step_height (Some k) = exp_height k

  step_high : (nest round : ℕ) (ts : List Part) → Yields (step_read E C D nest round ts) (λ p. High p.height (step_height p.tree) nest)
  unfolding step_read step_height
  step_high nest round ts = choice (after_of sign.By ts) _ _ _ (λ no. record { is = refl; low = omega arith }) (λ (after : List Part) by. then (E nest round 2 after) _ _ _ (exp_high nest round 2 after) (λ (k : Piece Exp) h. h))

  for_height : (n : List ℕ) (a z : Exp) (k : Option Exp) (b : Block) → command_height (for_from n a z k b) ≡ max (max (max (exp_height a) (exp_height z)) (step_height k)) (block_height b) + 1
  unfolding step_height
  for_height n a z None b = omega arith
  for_height n a z (Some k) b = refl

  for_high : (nest round : ℕ) (ts : List Part) → 0 < nest → Yields (for_read E C D nest round ts) (HighCommand nest)
  unfolding for_read
  for_high nest round ts pos =
      then (name_of ts) _ _ _ (nothing_from (name_of ts)) (λ (n : List ℕ × List Part) u.
      then (expect_of sign.Equal n.1) _ _ _ (nothing_from (expect_of sign.Equal n.1)) (λ (first : List Part) v.
      then (E (nest - 1) round 1 first) _ _ _ (exp_high (nest - 1) round 1 first) (λ (a : Piece Exp) ha.
      then (expect_of sign.To a.rest) _ _ _ (nothing_from (expect_of sign.To a.rest)) (λ (last : List Part) w.
      then (E (nest - 1) round 1 last) _ _ _ (exp_high (nest - 1) round 1 last) (λ (z : Piece Exp) hz.
      then (step_read E C D (nest - 1) round z.rest) _ _ _ (step_high (nest - 1) round z.rest) (λ (k : Piece (Option Exp)) hk.
      then (do_read E C D (nest - 1) round k.rest) _ _ _ (do_high (nest - 1) round k.rest) (λ (b : Piece Block) hb.
      record { is = omega (arith, for_height n.0 a.tree z.tree k.tree b.tree); low = omega arith })))))))

  -- a list of cases declares nothing
  cases_turn : (nest round : ℕ) (s : Piece (Declarations × Items)) → s.tree.0 ≡ no_declarations → Yields (place_turn E C D places.Cases nest round s) (λ t. cond t.1 (t.0.tree.0 ≡ no_declarations) (t.0.tree.0 ≡ no_declarations))
  unfolding place_turn part_read
  cases_turn nest round s h =
      choice (after_of sign.CloseSection s.rest) _ _ _
      (λ goes_on. choice (separator_of s.rest) _ _ _
      (λ no. then (item_read E C D nest round s.rest >>= λ i. Ok (piece (s.tree.0, add_item s.tree.1 i.tree) (max s.height i.height) i.rest)) _ (λ p. p.tree.0 ≡ no_declarations) _
      (then (item_read E C D nest round s.rest) _ _ _ (nothing_from (item_read E C D nest round s.rest)) (λ (i : Piece Item) u. h))
      (λ (p : Piece (Declarations × Items)) g. then (place_end places.Cases p.rest) _ _ _ (end_high E exp_high places.Cases p.rest g) (λ (e : List Part × Bool) k. k)))
      (λ (after : List Part) c. h))
      (λ (after : List Part) c. h)

  cases_read : (nest round : ℕ) (ts : List Part) → Yields (places_read E C D places.Cases nest round ts) (λ p. p.tree.0 ≡ no_declarations)
  unfolding places_read
  cases_read nest round ts = looped (place_turn E C D places.Cases nest round) (λ p. p.tree.0 ≡ no_declarations) (λ p. p.tree.0 ≡ no_declarations) (cases_turn nest round) (length ts + 1) (piece (no_declarations, no_items) 0 ts) refl

  both : {X : Type 0} (r : Result X Fault) (P Q : X → Type 0) → Yields r P → Yields r Q → Yields r (λ x. P x × Q x)
  both (Ok x) P Q p q = (p, q)
  both (Err e) P Q p q = tt

  switch_high : (nest round : ℕ) (ts : List Part) → 0 < nest → Yields (switch_read E C D nest round ts) (HighCommand nest)
  unfolding switch_read
  switch_high nest round ts pos =
      then (E (nest - 1) round 1 ts) _ _ _ (exp_high (nest - 1) round 1 ts) (λ (e : Piece Exp) h.
      then (expect_of sign.Into e.rest) _ _ _ (nothing_from (expect_of sign.Into e.rest)) (λ (into : List Part) u.
      then (expect_of sign.OpenSection into) _ _ _ (nothing_from (expect_of sign.OpenSection into)) (λ (inner : List Part) v.
      then (places_read E C D places.Cases (nest - 1) round inner) _ _ _ (both (places_read E C D places.Cases (nest - 1) round inner) (HighPlaces (nest - 1)) (λ p. p.tree.0 ≡ no_declarations) (places_high places.Cases (nest - 1) round inner) (cases_read (nest - 1) round inner)) (λ (p : Piece (Declarations × Items)) g.
      record { is = omega (arith, g.0.is, ap declarations_height g.1); low = omega (arith, g.0.low) }))))

  compound_high : (nest round : ℕ) (w : CommandWord) (ts : List Part) → 0 < nest → Yields (compound_read E C D nest round w ts) (HighCommand nest)
  unfolding compound_read
  compound_high nest round (command_word.Tested t) ts pos = tested_high t nest round ts pos
  compound_high nest round command_word.Test ts pos = test_high nest round ts pos
  compound_high nest round command_word.For ts pos = for_high nest round ts pos
  compound_high nest round command_word.SwitchOn ts pos = switch_high nest round ts pos

  repeatable_high : (nest round : ℕ) (ts : List Part) → 0 < nest → Yields (repeatable_read E C D nest round ts) (HighCommand nest)
  unfolding repeatable_read
  repeatable_high nest round ts pos =
      then (on (word_in simple_word_of ts) (assigned_read E C D nest round ts) (λ w. simple_read E C D nest round w.0 w.1)) _ _ _
      (choice (word_in simple_word_of ts) _ _ _ (λ no. assigned_high nest round ts pos) (λ (w : SimpleWord × List Part) is. simple_high nest round w.0 w.1 pos))
      (λ (c : Piece Command) h. repeats_high E exp_high nest round c h)

  pub worded_high : (nest round : ℕ) (ts : List Part) → 0 < nest → Yields (command_read E C D nest round ts) (HighCommand nest)
  unfolding command_read
  worded_high nest round ts pos = choice (word_in command_word_of ts) _ _ _ (λ no. repeatable_high nest round ts pos) (λ (w : CommandWord × List Part) is. compound_high nest round w.0 w.1 pos)

  variables_high : (nest round : ℕ) (ts : List Part) → 0 < nest → Yields (variables_read E C D nest round ts) (HighDefinition nest)
  unfolding variables_read
  variables_high nest round ts pos =
      then (names_read ts) _ _ _ (nothing_from (names_read ts)) (λ (ns : Piece (List (List ℕ))) u.
      then (expect_of sign.Equal ns.rest) _ _ _ (nothing_from (expect_of sign.Equal ns.rest)) (λ (rest : List Part) v.
      then (exps_read E (nest - 1) round 1 (length ns.tree) rest) _ _ _ (exps_high E exp_high (nest - 1) round 1 (length ns.tree) rest) (λ (es : Piece Exps) h.
      guard (eqb (count es.tree) (length ns.tree)) _ _ _ (λ same. record { is = omega arith; low = omega arith }))))

  vector_high : (nest round : ℕ) (n : List ℕ) (ts : List Part) → 0 < nest → Yields (vector_read E C D nest round n ts) (HighDefinition nest)
  unfolding vector_read
  vector_high nest round n ts pos = then (E (nest - 1) round 2 ts) _ _ _ (exp_high (nest - 1) round 2 ts) (λ (k : Piece Exp) h. record { is = omega arith; low = omega arith })

  routine_high : (nest round : ℕ) (n : List ℕ) (place : ℕ) (ts : List Part) → 0 < nest → Yields (routine_read E C D nest round n place ts) (HighDefinition nest)
  unfolding routine_read
  routine_high nest round n place ts pos =
      guard (ltb 0 round) _ _ _ (λ room. then (parameters_read ts) _ _ _ (nothing_from (parameters_read ts)) (λ (ps : Piece (List (List ℕ))) u.
      choice (after_of sign.Equal ps.rest) _ _ _
      (λ no. then (expect_of sign.Be ps.rest) _ _ _ (nothing_from (expect_of sign.Be ps.rest)) (λ (rest : List Part) v.
      then (body_read E C D (nest - 1) round rest) _ _ _ (body_high (nest - 1) round rest) (λ (b : Piece Block) h. record { is = omega arith; low = omega arith })))
      (λ (after : List Part) c. then (E (nest - 1) round 1 after) _ _ _ (exp_high (nest - 1) round 1 after) (λ (e : Piece Exp) h. record { is = omega arith; low = omega arith }))))

  shaped_high : (nest round : ℕ) (n : List ℕ) (place : ℕ) (ts : List Part) (s : Shape) → 0 < nest → Yields (shaped_read E C D nest round n place ts s) (HighDefinition nest)
  unfolding shaped_read
  shaped_high nest round n place ts (Parameters after) pos = routine_high nest round n place after pos
  shaped_high nest round n place ts (Size after) pos = vector_high nest round n after pos
  shaped_high nest round n place ts Values pos = variables_high nest round ts pos

  pub defined_high : (nest round : ℕ) (ts : List Part) → 0 < nest → Yields (defined_read E C D nest round ts) (HighDefinition nest)
  unfolding defined_read
  defined_high nest round ts pos = then (name_of ts) _ _ _ (nothing_from (name_of ts)) (λ (n : List ℕ × List Part) u. shaped_high nest round n.0 (length n.1) ts (shape_of n.1) pos)

mutual
  unfolding exp_of command_of definition_of

  pub exp_of_high : (n nest round level : ℕ) (ts : List Part) → Yields (exp_of n nest round level ts) (HighExp nest)
  exp_of_high zero nest round level ts = tt
  exp_of_high (suc n) nest round level ts =
      guard (ltb 0 nest) _ _ _ (λ room.
      then (operand_read (exp_of n) (command_of n) (definition_of n) nest round ts) _ _ _ (operand_high (exp_of n) (command_of n) (definition_of n) (exp_of_high n) (command_of_high n) (definition_of_high n) nest round ts (ltb-true 0 nest room)) (λ (p : Piece (Exp × ℕ)) h.
      grow_high (exp_of n) (exp_of_high n) nest round (length ts) level p h))

  pub command_of_high : (n nest round : ℕ) (ts : List Part) → Yields (command_of n nest round ts) (HighCommand nest)
  command_of_high zero nest round ts = tt
  command_of_high (suc n) nest round ts = guard (ltb 0 nest) _ _ _ (λ room. worded_high (exp_of n) (command_of n) (definition_of n) (exp_of_high n) (command_of_high n) (definition_of_high n) nest round ts (ltb-true 0 nest room))

  pub definition_of_high : (n nest round : ℕ) (ts : List Part) → Yields (definition_of n nest round ts) (HighDefinition nest)
  definition_of_high zero nest round ts = tt
  definition_of_high (suc n) nest round ts = guard (ltb 0 nest) _ _ _ (λ room. defined_high (exp_of n) (command_of n) (definition_of n) (exp_of_high n) (command_of_high n) (definition_of_high n) nest round ts (ltb-true 0 nest room))

pub section_high : (ts : List Part) (ds : Declarations) → section_of ts ≡ Ok ds → declarations_height ds ≤ 200
unfolding section_of
section_high ts ds e =
    from_yields (section_of ts) ds (λ ds. declarations_height ds ≤ 200)
    (then (places_read (exp_of 600) (command_of 600) (definition_of 600) places.Section 200 400 ts) _ _ _ (places_high (exp_of 600) (command_of 600) (definition_of 600) (exp_of_high 600) (command_of_high 600) (definition_of_high 600) places.Section 200 400 ts) (λ (p : Piece (Declarations × Items)) h. omega (arith, h.is, h.low)))
    e
