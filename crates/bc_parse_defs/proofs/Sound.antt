-- What is read is spelled by the parts that were taken. One lemma per reader, along the reader's text.
use Rattle.std.proofs.Common.{◌≡◌, ◌≢◌, ℕ, zero, suc, ◌-◌, ◌+◌, ◌<◌, ◌≤◌, Bool, true, false, ◌&&◌, cond, ltb, eqb, List, [], ◌∷◌, ◌++◌, length, max, Option, Some, None, Result, Ok, Err, refl, sym, ap, subst, ◌∙◌, append_assoc, arith}
use Rattle.std.proofs.lemmas.List.{append-nil, length-append}
use Rattle.std.proofs.lemmas.Bool.{eqb-true}
use Rattle.bc_lex_tokens.specs.declared.symbol.Symbol.{Symbol}
use Rattle.bc_lex_tokens.specs.declared.symbol.Symbol.TheVariants as sign
use Rattle.bc_parse_tree.specs.declared.tree.BinaryOp as code_binary
use Rattle.bc_parse_tree.specs.declared.tree.UnaryOp as code_unary
use Rattle.bc_parse_tree.specs.Parts.{Part, A, Name, NewLine}
use Rattle.bc_parse_tree.specs.Tree.{Exp, Exps, none, more, Block, block, Declaration, Declarations, no_declarations, declaration, Entries, no_entries, entry, Definition, Definitions, no_definitions, definition, Item, Labelled, Labels_alone, Items, no_items, item, Label, Labels, no_labels, label, Command}
use Rattle.bc_parse_tree.specs.Tree as tree
use Rattle.bc_parse_tree.specs.View.{for_from}
use Rattle.bc_parse_tree.specs.Operators.{level_of, left_level, own_level, operand_level, binary_sign, unary_sign, storage_sign}
use Rattle.bc_parse_tree.specs.Spelling.{Spells, of_level, prefixed, IsOfLevel, SpellsExps, one, next, SpellsArguments, no_arguments, arguments, SpellsSection, section, SpellsBlock, block_brackets, SpellsPlaces, ended, last_declaration, last_item, SpellsEnded, nothing, gap, declared, placed, SpellsDeclaration, SpellsEntries, all_entries_ended, last_entry, EndedEntries, no_entry, entry_gap, entered, SpellsDefinitions, one_definition, next_definition, SpellsDefinition, SpellsItem, labelled, labels_alone, SpellsLabels, no_more, SpellsBody, body_command, SpellsDo, do_body, SpellsSimple, SpellsCommand, simple, IsSeparator, IsConstantSign, in_round, named, optional, body, count, add_exp, add_entry, add_definition, add_declaration, add_label, add_item}
use Rattle.bc_parse_tree.specs.Spelling as spell
use Rattle.bc_parse_defs.specs.declared.words.Start.{Start}
use Rattle.bc_parse_defs.specs.declared.words.Start.TheVariants as start
use Rattle.bc_parse_defs.specs.declared.words.Tested.{Tested}
use Rattle.bc_parse_defs.specs.declared.words.Tested.TheVariants as tested
use Rattle.bc_parse_defs.specs.declared.words.CommandWord.{CommandWord}
use Rattle.bc_parse_defs.specs.declared.words.CommandWord.TheVariants as command_word
use Rattle.bc_parse_defs.specs.declared.words.SimpleWord.{SimpleWord}
use Rattle.bc_parse_defs.specs.declared.words.SimpleWord.TheVariants as simple_word
use Rattle.bc_parse_defs.specs.declared.words.RepeatWord.{RepeatWord}
use Rattle.bc_parse_defs.specs.declared.words.RepeatWord.TheVariants as repeat_word
use Rattle.bc_parse_defs.specs.declared.words.DeclarationWord.{DeclarationWord}
use Rattle.bc_parse_defs.specs.declared.words.DeclarationWord.TheVariants as declaration_word
use Rattle.bc_parse_defs.specs.declared.words.Places.{Places}
use Rattle.bc_parse_defs.specs.declared.words.Places.TheVariants as places
use Rattle.bc_parse_defs.specs.Reading.{Fault, Piece, piece, moved, turns, on, expect_of, after_of, separator_of, name_of, word_in, leaf_of, start_of, command_word_of, simple_word_of, repeat_word_of, declaration_word_of, constant_sign_of, Following, Ends, Operator, Arguments, Choice, ends, following, LabelStart, NoLabel, CaseLabel, DefaultLabel, NameLabel, label_start, Shape, Parameters, Size, Values, shape_of, past_do, end_of, no_parts, place_end, name_turn, names_read, parameters_read, Reader, CommandReader, DefinitionReader, next_exp, call_in, exps_turn, exps_read, arguments_read, with_operator, with_arguments, with_choice, suffix_read, grow_turn, grow_read, bracket_read, table_read, unary_read, tested_command, as_body, some_label, is_place_end, no_item_yet, may_command, declares, repeated, repeat_turn, repeats_read, label_read, labels_read, entry_read, entry_turn, entries_read, item_read, definition_turn, definitions_read, declaration_read, part_read, place_turn, places_read, block_read, body_of_block, body_read, do_read, valof_read, started_read, operand_read, assigned_read, simple_read, tested_read, test_read, step_read, for_read, switch_read, compound_read, repeatable_read, command_read, variables_read, vector_read, routine_read, shaped_read, defined_read, exp_of, command_of, definition_of, section_of}
use Rattle.bc_parse_defs.proofs.Yields.{Yields, then, guard, branch, choice, from_yields, looped}
use Rattle.bc_parse_defs.proofs.Front.{after_is, expect_yields, separator_is, name_yields, Worded, word_is, repeat_sign, repeat_is, simple_sign, simple_is, command_sign, command_is, start_sign, start_is, declaration_sign, declaration_is, start_unary, declaration_constants, leaf_is, IsFollowing, follows, IsLabelStart, labels, IsShape, shapes, do_front, constant_sign_yields}

-- ---- the parts that were taken

pub record Taken (P : List Part → Type 0) (ts rest : List Part) : Type 0 where
  pub used : List Part
  pub split : ts ≡ used ++ rest
  pub spelled : P used

abbrev taken : {P : List Part → Type 0} {ts rest : List Part} (used : List Part) → ts ≡ used ++ rest → P used → Taken P ts rest
taken used split spelled = record { used = used; split = split; spelled = spelled }

-- a list of tokens is x, y and the rest
join : (ts x mid y rest : List Part) → ts ≡ x ++ mid → mid ≡ y ++ rest → ts ≡ (x ++ y) ++ rest
join ts x mid y rest p q = p ∙ ap (λ (r : List Part). x ++ r) q ∙ sym (append_assoc x y rest)

-- the same with a part between them
join_by : (ts x mid y after rest : List Part) (p : Part) → ts ≡ x ++ mid → mid ≡ p ∷ after → after ≡ y ++ rest → ts ≡ (x ++ p ∷ y) ++ rest
join_by ts x mid y after rest p a b c = join ts x mid (p ∷ y) rest a (b ∙ ap (λ (r : List Part). p ∷ r) c)

-- the same with a part at the end
join_end : (ts x mid rest : List Part) (p : Part) → ts ≡ x ++ mid → mid ≡ p ∷ rest → ts ≡ (x ++ p ∷ []) ++ rest
join_end ts x mid rest p a b = join ts x mid (p ∷ []) rest a b

-- a first part
front : (ts after y rest : List Part) (p : Part) → ts ≡ p ∷ after → after ≡ y ++ rest → ts ≡ (p ∷ y) ++ rest
front ts after y rest p a b = a ∙ ap (λ (r : List Part). p ∷ r) b

pub lower : {m : ℕ} {e : Exp} {ts : List Part} (k : ℕ) → k ≤ m → IsOfLevel m e ts → IsOfLevel k e ts
lower k le spell.name = spell.name
lower k le spell.number = spell.number
lower k le spell.character = spell.character
lower k le spell.text = spell.text
lower k le spell.true_word = spell.true_word
lower k le spell.false_word = spell.false_word
lower k le (spell.bracketed s) = spell.bracketed s
lower k le (spell.table s) = spell.table s
lower k le (spell.valof s) = spell.valof s
lower k le (spell.call f es) = spell.call f es
lower k le (spell.unary h s) = spell.unary (omega arith) s
lower k le (spell.binary h l r) = spell.binary (omega arith) l r
lower k le (spell.condition h c x y) = spell.condition (omega arith) c x y

-- ---- names

named_more : (ns : List (List ℕ)) (n : List ℕ) → 0 < length ns → named (ns ++ n ∷ []) ≡ named ns ++ A sign.Comma ∷ Name n ∷ []
named_more [] n h = absurd (omega arith)
named_more (m ∷ []) n h = refl
named_more (m ∷ k ∷ ns) n h = ap (λ (r : List Part). Name m ∷ A sign.Comma ∷ r) (named_more (k ∷ ns) n (omega arith))

-- the names up to here, and a comma after them
pub record NamesSoFar (ts : List Part) (s : Piece (List (List ℕ))) : Type 0 where
  pub used : List Part
  pub split : ts ≡ used ++ s.rest
  pub spelled : (n : List ℕ) → used ++ Name n ∷ [] ≡ named (s.tree ++ n ∷ [])

pub record NamesTaken (ts : List Part) (s : Piece (List (List ℕ))) : Type 0 where
  pub split : ts ≡ named s.tree ++ s.rest

name_turn_sound : (ts : List Part) (s : Piece (List (List ℕ))) → NamesSoFar ts s → Yields (name_turn s) (λ t. cond t.1 (NamesTaken ts t.0) (NamesSoFar ts t.0))
unfolding name_turn
name_turn_sound ts s i =
    then (name_of s.rest) _ _ _ (name_yields s.rest) (λ (n : List ℕ × List Part) is.
    let whole : ts ≡ named (s.tree ++ n.0 ∷ []) ++ n.1 = join_end ts i.used s.rest n.1 (Name n.0) i.split is ∙ ap (λ (r : List Part). r ++ n.1) (i.spelled n.0) in
    choice (after_of sign.Comma n.1) _ _ _
    (λ no. record { split = whole })
    (λ (after : List Part) comma.
    let split : ts ≡ (named (s.tree ++ n.0 ∷ []) ++ A sign.Comma ∷ []) ++ after = join_end ts (named (s.tree ++ n.0 ∷ [])) n.1 after (A sign.Comma) whole (after_is sign.Comma n.1 after comma) in
    record { used = named (s.tree ++ n.0 ∷ []) ++ A sign.Comma ∷ []; split = split; spelled = λ m. append_assoc (named (s.tree ++ n.0 ∷ [])) (A sign.Comma ∷ []) (Name m ∷ []) ∙ sym (named_more (s.tree ++ n.0 ∷ []) m (omega (arith, length-append s.tree (n.0 ∷ [])))) }))

pub names_sound : (ts : List Part) → Yields (names_read ts) (λ p. NamesTaken ts p)
unfolding names_read
names_sound ts = looped name_turn (NamesSoFar ts) (NamesTaken ts) (name_turn_sound ts) (length ts + 1) (piece [] 0 ts) (record { used = []; split = refl; spelled = λ n. refl })

pub parameters_sound : (ts : List Part) → Yields (parameters_read ts) (λ p. ts ≡ named p.tree ++ A sign.CloseBracket ∷ p.rest)
unfolding parameters_read
parameters_sound ts =
    choice (after_of sign.CloseBracket ts) _ _ _
    (λ no. then (names_read ts) _ _ _ (names_sound ts) (λ (ns : Piece (List (List ℕ))) taken.
    then (expect_of sign.CloseBracket ns.rest) _ _ _ (expect_yields sign.CloseBracket ns.rest) (λ (rest : List Part) closed.
    taken.split ∙ ap (λ (r : List Part). named ns.tree ++ r) closed)))
    (λ (after : List Part) closed. after_is sign.CloseBracket ts after closed)

-- ---- expressions

abbrev pub SoundExp : ℕ → List Part → Piece Exp → Type 0
SoundExp level ts p = Taken (Spells level p.tree) ts p.rest

-- an operand, with its level
abbrev pub SoundOperand : List Part → Piece (Exp × ℕ) → Type 0
SoundOperand ts p = Taken (λ used. IsOfLevel p.tree.1 p.tree.0 used × ((level : ℕ) → Spells level p.tree.0 used)) ts p.rest

-- an expression as far as it has been read
abbrev pub Grown : ℕ → List Part → Piece (Exp × ℕ) → Type 0
Grown level ts p = Taken (λ used. IsOfLevel p.tree.1 p.tree.0 used × Spells level p.tree.0 used) ts p.rest

module _ (E : Reader) (exp_sound : (nest round level : ℕ) (ts : List Part) → Yields (E nest round level ts) (SoundExp level ts)) where
  bracket_sound : (nest round place : ℕ) (ts : List Part) → Yields (bracket_read E nest round place ts) (λ p. Taken (λ used. (level : ℕ) → IsOfLevel level p.tree used) (A sign.OpenBracket ∷ ts) p.rest)
  unfolding bracket_read
  bracket_sound nest round place ts =
      guard (ltb 0 round) _ _ _ (λ room.
      then (E nest (round - 1) 1 ts) _ _ _ (exp_sound nest (round - 1) 1 ts) (λ (e : Piece Exp) inner.
      then (expect_of sign.CloseBracket e.rest) _ _ _ (expect_yields sign.CloseBracket e.rest) (λ (rest : List Part) closed.
      record {
        used = in_round inner.used;
        split = front (A sign.OpenBracket ∷ ts) ts (inner.used ++ A sign.CloseBracket ∷ []) rest (A sign.OpenBracket) refl (join_end ts inner.used e.rest rest (A sign.CloseBracket) inner.split closed);
        spelled = λ k. spell.bracketed inner.spelled;
      })))

  -- lists of expressions
  pub record ExpsSoFar (level : ℕ) (ts : List Part) (s : Piece Exps) : Type 0 where
    pub used : List Part
    pub split : ts ≡ used ++ s.rest
    pub spelled : (e : Exp) (us : List Part) → Spells level e us → SpellsExps level (add_exp s.tree e) (used ++ us)

  next_sound : (level limit : ℕ) (ts : List Part) (p : Piece Exps) → Taken (SpellsExps level p.tree) ts p.rest → Yields (next_exp limit p) (λ t. cond t.1 (Taken (SpellsExps level t.0.tree) ts t.0.rest) (ExpsSoFar level ts t.0))
  next_sound level limit ts p whole =
      branch (eqb (count p.tree) limit) _ _ _ (λ full. whole) (λ more_room.
      choice (after_of sign.Comma p.rest) _ _ _ (λ no. whole) (λ (after : List Part) comma.
      record {
        used = whole.used ++ A sign.Comma ∷ [];
        split = join_end ts whole.used p.rest after (A sign.Comma) whole.split (after_is sign.Comma p.rest after comma);
        spelled = λ e us s. subst (λ (r : List Part). SpellsExps level (add_exp p.tree e) r) (sym (append_assoc whole.used (A sign.Comma ∷ []) us)) (next whole.spelled s);
      }))

  exps_turn_sound : (nest round level limit : ℕ) (ts : List Part) (s : Piece Exps) → ExpsSoFar level ts s → Yields (exps_turn E nest round level limit s) (λ t. cond t.1 (Taken (SpellsExps level t.0.tree) ts t.0.rest) (ExpsSoFar level ts t.0))
  unfolding exps_turn
  exps_turn_sound nest round level limit ts s i =
      then (E nest round level s.rest) _ _ _ (exp_sound nest round level s.rest) (λ (e : Piece Exp) found.
      next_sound level limit ts (piece (add_exp s.tree e.tree) (max s.height e.height) e.rest)
      (record { used = i.used ++ found.used; split = join ts i.used s.rest found.used e.rest i.split found.split; spelled = i.spelled e.tree found.used found.spelled }))

  pub exps_sound : (nest round level limit : ℕ) (ts : List Part) → Yields (exps_read E nest round level limit ts) (λ p. Taken (SpellsExps level p.tree) ts p.rest)
  unfolding exps_read
  exps_sound nest round level limit ts =
      looped (exps_turn E nest round level limit) (ExpsSoFar level ts) (λ p. Taken (SpellsExps level p.tree) ts p.rest) (exps_turn_sound nest round level limit ts) (length ts + 1) (piece none 0 ts)
      (record { used = []; split = refl; spelled = λ e us s. one s })

  arguments_sound : (nest round : ℕ) (ts : List Part) → Yields (arguments_read E nest round ts) (λ p. Taken (λ used. (inner : List Part) × (used ≡ inner ++ A sign.CloseBracket ∷ []) × SpellsArguments p.tree inner) ts p.rest)
  unfolding arguments_read
  arguments_sound nest round ts =
      choice (after_of sign.CloseBracket ts) _ _ _
      (λ no. then (exps_read E nest round 1 (length ts + 1) ts) _ _ _ (exps_sound nest round 1 (length ts + 1) ts) (λ (es : Piece Exps) found.
      then (expect_of sign.CloseBracket es.rest) _ _ _ (expect_yields sign.CloseBracket es.rest) (λ (rest : List Part) closed.
      record { used = found.used ++ A sign.CloseBracket ∷ []; split = join_end ts found.used es.rest rest (A sign.CloseBracket) found.split closed; spelled = (found.used, refl, arguments found.spelled) })))
      (λ (after : List Part) closed. record { used = A sign.CloseBracket ∷ []; split = after_is sign.CloseBracket ts after closed; spelled = ([], refl, no_arguments) })

  table_sound : (nest round : ℕ) (ts : List Part) → Yields (table_read E nest round ts) (λ p. Taken (λ used. (level : ℕ) → IsOfLevel level p.tree used) (A sign.Table ∷ ts) p.rest)
  unfolding table_read
  table_sound nest round ts =
      then (exps_read E (nest - 1) round 2 (length ts + 1) ts) _ _ _ (exps_sound (nest - 1) round 2 (length ts + 1) ts) (λ (ks : Piece Exps) found.
      record { used = A sign.Table ∷ found.used; split = front (A sign.Table ∷ ts) ts found.used ks.rest (A sign.Table) refl found.split; spelled = λ k. spell.table found.spelled })

  unary_sound : (nest round : ℕ) (m : code_unary.UnaryOp) (ts : List Part) → Yields (unary_read E nest round m ts) (λ p. Taken (λ used. IsOfLevel (own_level m) p.tree used × ((level : ℕ) → Spells level p.tree used)) (A (unary_sign m) ∷ ts) p.rest)
  unfolding unary_read
  unary_sound nest round m ts =
      then (E (nest - 1) round (operand_level m) ts) _ _ _ (exp_sound (nest - 1) round (operand_level m) ts) (λ (e : Piece Exp) found.
      record { used = A (unary_sign m) ∷ found.used; split = front (A (unary_sign m) ∷ ts) ts found.used e.rest (A (unary_sign m)) refl found.split; spelled = (spell.unary (omega arith) found.spelled, λ k. prefixed found.spelled) })

  operator_sound : (nest round : ℕ) (o : code_binary.BinaryOp) (left : Exp) (height place : ℕ) (ts before : List Part) → IsOfLevel (left_level o) left before
      → Yields (with_operator E nest round o left height place ts) (λ p. Taken (λ used. (k : ℕ) → k ≤ level_of o → IsOfLevel k p.tree used) (before ++ A (binary_sign o) ∷ ts) p.rest)
  unfolding with_operator
  operator_sound nest round o left height place ts before spelled =
      guard (ltb height nest) _ _ _ (λ room.
      then (E (nest - 1) round (level_of o + 1) ts) _ _ _ (exp_sound (nest - 1) round (level_of o + 1) ts) (λ (right : Piece Exp) found.
      record { used = before ++ A (binary_sign o) ∷ found.used; split = join_by (before ++ A (binary_sign o) ∷ ts) before (A (binary_sign o) ∷ ts) found.used ts right.rest (A (binary_sign o)) refl refl found.split; spelled = λ k le. spell.binary le spelled found.spelled }))

  call_sound : (nest round : ℕ) (left : Exp) (height place : ℕ) (ts before : List Part) → IsOfLevel 12 left before
      → Yields (with_arguments E nest round left height place ts) (λ p. Taken (λ used. (k : ℕ) → IsOfLevel k p.tree used) (before ++ A sign.OpenBracket ∷ ts) p.rest)
  unfolding with_arguments
  call_sound nest round left height place ts before spelled =
      guard (ltb height nest && ltb 0 round) _ _ _ (λ room.
      then (arguments_read E (nest - 1) (round - 1) ts) _ _ _ (arguments_sound (nest - 1) (round - 1) ts) (λ (es : Piece Exps) found.
      let (inner, is, args) = found.spelled in
      record {
        used = before ++ in_round inner;
        split = join_by (before ++ A sign.OpenBracket ∷ ts) before (A sign.OpenBracket ∷ ts) (inner ++ A sign.CloseBracket ∷ []) ts es.rest (A sign.OpenBracket) refl refl (found.split ∙ ap (λ (r : List Part). r ++ es.rest) is);
        spelled = λ k. spell.call spelled args;
      }))

  choice_sound : (nest round : ℕ) (left : Exp) (height place : ℕ) (ts before : List Part) → IsOfLevel 2 left before
      → Yields (with_choice E nest round left height place ts) (λ p. Taken (λ used. (k : ℕ) → k ≤ 1 → IsOfLevel k p.tree used) (before ++ A sign.Arrow ∷ ts) p.rest)
  unfolding with_choice
  choice_sound nest round left height place ts before spelled =
      guard (ltb height nest) _ _ _ (λ room.
      then (E (nest - 1) round 1 ts) _ _ _ (exp_sound (nest - 1) round 1 ts) (λ (x : Piece Exp) first.
      then (expect_of sign.Comma x.rest) _ _ _ (expect_yields sign.Comma x.rest) (λ (rest : List Part) comma.
      then (E (nest - 1) round 1 rest) _ _ _ (exp_sound (nest - 1) round 1 rest) (λ (y : Piece Exp) second.
      record {
        used = before ++ A sign.Arrow ∷ (first.used ++ A sign.Comma ∷ second.used);
        split = join_by (before ++ A sign.Arrow ∷ ts) before (A sign.Arrow ∷ ts) (first.used ++ A sign.Comma ∷ second.used) ts y.rest (A sign.Arrow) refl refl (join_by ts first.used x.rest second.used rest y.rest (A sign.Comma) first.split comma second.split);
        spelled = λ k le. spell.condition le spelled first.spelled second.spelled;
      }))))

  suffix_sound : (nest round begin level : ℕ) (ts : List Part) (s : Piece (Exp × ℕ)) (place : ℕ) (f : Following) → IsFollowing level s.tree.1 s.rest f → Grown level ts s
      → Yields (suffix_read E nest round begin f s.tree.0 s.height place) (Grown level ts)
  unfolding suffix_read
  suffix_sound nest round begin level ts s place Ends is so_far = tt
  suffix_sound nest round begin level ts s place (Operator o after) is so_far =
      let whole : ts ≡ so_far.used ++ A (binary_sign o) ∷ after = so_far.split ∙ ap (λ (r : List Part). so_far.used ++ r) is.0 in
      then (with_operator E nest round o s.tree.0 s.height place after) _ _ _ (operator_sound nest round o s.tree.0 s.height place after so_far.used (lower (left_level o) is.2 so_far.spelled.0)) (λ (p : Piece Exp) found.
      record { used = found.used; split = whole ∙ found.split; spelled = (found.spelled (level_of o) (omega arith), of_level (found.spelled level is.1)) })
  suffix_sound nest round begin level ts s place (Arguments after) is so_far =
      let whole : ts ≡ so_far.used ++ A sign.OpenBracket ∷ after = so_far.split ∙ ap (λ (r : List Part). so_far.used ++ r) is.0 in
      then (with_arguments E nest round s.tree.0 s.height place after) _ _ _ (call_sound nest round s.tree.0 s.height place after so_far.used (lower 12 is.1 so_far.spelled.0)) (λ (p : Piece Exp) found.
      record { used = found.used; split = whole ∙ found.split; spelled = (found.spelled 12, of_level (found.spelled level)) })
  suffix_sound nest round begin level ts s place (Choice after) is so_far =
      let whole : ts ≡ so_far.used ++ A sign.Arrow ∷ after = so_far.split ∙ ap (λ (r : List Part). so_far.used ++ r) is.0 in
      then (with_choice E nest round s.tree.0 s.height begin after) _ _ _ (choice_sound nest round s.tree.0 s.height begin after so_far.used (lower 2 is.2 so_far.spelled.0)) (λ (p : Piece Exp) found.
      record { used = found.used; split = whole ∙ found.split; spelled = (found.spelled 1 (omega arith), of_level (found.spelled level is.1)) })

  grow_turn_sound : (nest round begin level : ℕ) (ts : List Part) (s : Piece (Exp × ℕ)) → Grown level ts s → Yields (grow_turn E nest round begin level s) (λ t. cond t.1 (Grown level ts t.0) (Grown level ts t.0))
  unfolding grow_turn
  grow_turn_sound nest round begin level ts s so_far =
      branch (ends (following level s.tree.1 s.rest)) _ _ _ (λ end. so_far) (λ goes_on.
      then (suffix_read E nest round begin (following level s.tree.1 s.rest) s.tree.0 s.height (length s.rest)) _ _ _ (suffix_sound nest round begin level ts s (length s.rest) (following level s.tree.1 s.rest) (follows level s.tree.1 s.rest) so_far) (λ (t : Piece (Exp × ℕ)) grown. grown))

  pub grow_sound : (nest round begin level : ℕ) (ts : List Part) (s : Piece (Exp × ℕ)) → Grown level ts s → Yields (grow_read E nest round begin level s) (SoundExp level ts)
  unfolding grow_read
  grow_sound nest round begin level ts s so_far =
      then (turns (grow_turn E nest round begin level) (length s.rest + 1) s) _ _ _
      (looped (grow_turn E nest round begin level) (Grown level ts) (Grown level ts) (grow_turn_sound nest round begin level ts) (length s.rest + 1) s so_far)
      (λ (p : Piece (Exp × ℕ)) grown. record { used = grown.used; split = grown.split; spelled = grown.spelled.1 })

  -- ---- REPEAT words, labels, constants

  repeated_sound : (nest round : ℕ) (w : RepeatWord) (s : Piece Command) (ts before : List Part) → SpellsSimple s.tree before
      → Yields (repeated E nest round w s ts) (λ t. Taken (SpellsSimple t.0.tree) (before ++ A (repeat_sign w) ∷ ts) t.0.rest × (t.1 ≡ false))
  unfolding repeated
  repeated_sound nest round repeat_word.Repeat s ts before spelled =
      (record { used = before ++ A sign.Repeat ∷ []; split = join_end (before ++ A sign.Repeat ∷ ts) before (A sign.Repeat ∷ ts) ts (A sign.Repeat) refl refl; spelled = spell.repeat spelled }, refl)
  repeated_sound nest round repeat_word.While s ts before spelled =
      then (E (nest - 1) round 1 ts) _ _ _ (exp_sound (nest - 1) round 1 ts) (λ (e : Piece Exp) found.
      (record { used = before ++ A sign.RepeatWhile ∷ found.used; split = join_by (before ++ A sign.RepeatWhile ∷ ts) before (A sign.RepeatWhile ∷ ts) found.used ts e.rest (A sign.RepeatWhile) refl refl found.split; spelled = spell.repeat_while spelled found.spelled }, refl))
  repeated_sound nest round repeat_word.Until s ts before spelled =
      then (E (nest - 1) round 1 ts) _ _ _ (exp_sound (nest - 1) round 1 ts) (λ (e : Piece Exp) found.
      (record { used = before ++ A sign.RepeatUntil ∷ found.used; split = join_by (before ++ A sign.RepeatUntil ∷ ts) before (A sign.RepeatUntil ∷ ts) found.used ts e.rest (A sign.RepeatUntil) refl refl found.split; spelled = spell.repeat_until spelled found.spelled }, refl))

  repeat_turn_sound : (nest round : ℕ) (ts : List Part) (s : Piece Command) → Taken (SpellsSimple s.tree) ts s.rest → Yields (repeat_turn E nest round s) (λ t. cond t.1 (Taken (SpellsSimple t.0.tree) ts t.0.rest) (Taken (SpellsSimple t.0.tree) ts t.0.rest))
  unfolding repeat_turn
  repeat_turn_sound nest round ts s so_far =
      choice (word_in repeat_word_of s.rest) _ _ _ (λ no. so_far) (λ (w : RepeatWord × List Part) worded.
      let word = word_is repeat_word_of s.rest w worded in
      let whole : ts ≡ so_far.used ++ A (repeat_sign w.0) ∷ w.1 = so_far.split ∙ ap (λ (r : List Part). so_far.used ++ r) (word.split ∙ ap (λ (x : Symbol). A x ∷ w.1) (repeat_is word.symbol w.0 word.is)) in
      guard (ltb s.height nest) _ _ _ (λ room.
      again (repeated E nest round w.0 s w.1) (repeated_sound nest round w.0 s w.1 so_far.used so_far.spelled) whole))
    where
      again : (r : Result (Piece Command × Bool) Fault) {us : List Part} → Yields r (λ t. Taken (SpellsSimple t.0.tree) us t.0.rest × (t.1 ≡ false)) → ts ≡ us → Yields r (λ t. cond t.1 (Taken (SpellsSimple t.0.tree) ts t.0.rest) (Taken (SpellsSimple t.0.tree) ts t.0.rest))
      again (Ok (t, true)) h e = record { used = h.0.used; split = e ∙ h.0.split; spelled = h.0.spelled }
      again (Ok (t, false)) h e = record { used = h.0.used; split = e ∙ h.0.split; spelled = h.0.spelled }
      again (Err f) h e = tt

  pub repeats_sound : (nest round : ℕ) (ts : List Part) (s : Piece Command) → Taken (SpellsSimple s.tree) ts s.rest → Yields (repeats_read E nest round s) (λ p. Taken (SpellsSimple p.tree) ts p.rest)
  unfolding repeats_read
  repeats_sound nest round ts s so_far = looped (repeat_turn E nest round) (λ p. Taken (SpellsSimple p.tree) ts p.rest) (λ p. Taken (SpellsSimple p.tree) ts p.rest) (repeat_turn_sound nest round ts) (length s.rest + 1) s so_far

  label_turn_sound : (nest round : ℕ) (ts : List Part) (s : Piece Labels) (l : LabelStart) → IsLabelStart s.rest l → Taken (SpellsLabels s.tree) ts s.rest → Yields (label_read E nest round s l) (λ t. cond t.1 (Taken (SpellsLabels t.0.tree) ts t.0.rest) (Taken (SpellsLabels t.0.tree) ts t.0.rest))
  unfolding label_read
  label_turn_sound nest round ts s NoLabel is so_far = so_far
  label_turn_sound nest round ts s (CaseLabel after) is so_far =
      then (E nest round 2 after) _ _ _ (exp_sound nest round 2 after) (λ (k : Piece Exp) found.
      then (expect_of sign.Colon k.rest) _ _ _ (expect_yields sign.Colon k.rest) (λ (rest : List Part) colon.
      record {
        used = so_far.used ++ A sign.Case ∷ (found.used ++ A sign.Colon ∷ []);
        split = join_by ts so_far.used s.rest (found.used ++ A sign.Colon ∷ []) after rest (A sign.Case) so_far.split is (join_end after found.used k.rest rest (A sign.Colon) found.split colon);
        spelled = spell.case so_far.spelled found.spelled;
      }))
  label_turn_sound nest round ts s (DefaultLabel after) is so_far =
      then (expect_of sign.Colon after) _ _ _ (expect_yields sign.Colon after) (λ (rest : List Part) colon.
      record {
        used = so_far.used ++ A sign.Default ∷ A sign.Colon ∷ [];
        split = join_by ts so_far.used s.rest (A sign.Colon ∷ []) after rest (A sign.Default) so_far.split is colon;
        spelled = spell.default so_far.spelled;
      })
  label_turn_sound nest round ts s (NameLabel n after) is so_far =
      record { used = so_far.used ++ Name n ∷ A sign.Colon ∷ []; split = join_by ts so_far.used s.rest (A sign.Colon ∷ []) (A sign.Colon ∷ after) after (Name n) so_far.split is refl; spelled = spell.named_label n so_far.spelled }

  pub labels_sound : (nest round : ℕ) (ts : List Part) → Yields (labels_read E nest round ts) (λ p. Taken (SpellsLabels p.tree) ts p.rest)
  unfolding labels_read
  labels_sound nest round ts =
      looped (λ s. label_read E nest round s (label_start s.rest)) (λ p. Taken (SpellsLabels p.tree) ts p.rest) (λ p. Taken (SpellsLabels p.tree) ts p.rest) (λ s so_far. label_turn_sound nest round ts s (label_start s.rest) (labels s.rest) so_far) (length ts + 1) (piece no_labels 0 ts)
      (record { used = []; split = refl; spelled = no_more })

  -- a list of declarations and items that has come to its end
  pub record Closed (P : List Part → Type 0) (ts rest : List Part) : Type 0 where
    pub used : List Part
    pub split : ts ≡ used ++ A sign.CloseSection ∷ rest
    pub spelled : P used

  entry_sound : (nest round : ℕ) (ts : List Part) (s : Piece Entries) → Taken (EndedEntries s.tree) ts s.rest
      → Yields (entry_read E nest round s) (λ p. Taken (λ used. SpellsEntries p.tree used × ((x : Part) → IsSeparator x → EndedEntries p.tree (used ++ x ∷ []))) ts p.rest)
  unfolding entry_read
  entry_sound nest round ts s so_far =
      then (name_of s.rest) _ _ _ (name_yields s.rest) (λ (n : List ℕ × List Part) named_so.
      then (constant_sign_of n.1) _ _ _ (constant_sign_yields n.1) (λ (rest : List Part) signed.
      then (E nest round 2 rest) _ _ _ (exp_sound nest round 2 rest) (λ (k : Piece Exp) found.
      record {
        used = so_far.used ++ (Name n.0 ∷ A signed.symbol ∷ found.used);
        split = join ts so_far.used s.rest (Name n.0 ∷ A signed.symbol ∷ found.used) k.rest so_far.split (front s.rest n.1 (A signed.symbol ∷ found.used) k.rest (Name n.0) named_so (front n.1 rest found.used k.rest (A signed.symbol) signed.split found.split));
        spelled = (
          last_entry n.0 so_far.spelled signed.is found.spelled,
          λ x sep. subst (λ (r : List Part). EndedEntries (add_entry s.tree n.0 k.tree) r) (sym (append_assoc so_far.used (Name n.0 ∷ A signed.symbol ∷ found.used) (x ∷ []))) (entered n.0 so_far.spelled signed.is found.spelled sep),
        );
      })))

  entry_turn_sound : (nest round : ℕ) (ts : List Part) (s : Piece Entries) → Taken (EndedEntries s.tree) ts s.rest → Yields (entry_turn E nest round s) (λ t. cond t.1 (Closed (SpellsEntries t.0.tree) ts t.0.rest) (Taken (EndedEntries t.0.tree) ts t.0.rest))
  unfolding entry_turn
  entry_turn_sound nest round ts s so_far =
      choice (after_of sign.CloseSection s.rest) _ _ _
      (λ open_still. choice (separator_of s.rest) _ _ _
      (λ no. then (entry_read E nest round s) _ _ _ (entry_sound nest round ts s so_far) (λ (p : Piece Entries) found.
      then (place_end places.Block p.rest) _ _ _ (end_sound p.tree p.rest found) (λ (e : List Part × Bool) h. h)))
      (λ (after : List Part) sep.
      let separated = separator_is s.rest after sep in
      record { used = so_far.used ++ separated.separator ∷ []; split = join_end ts so_far.used s.rest after separated.separator so_far.split separated.split; spelled = entry_gap so_far.spelled separated.is }))
      (λ (after : List Part) close. record { used = so_far.used; split = so_far.split ∙ ap (λ (r : List Part). so_far.used ++ r) (after_is sign.CloseSection s.rest after close); spelled = all_entries_ended so_far.spelled })
    where
      end_sound : (es : Entries) (rest : List Part) → Taken (λ used. SpellsEntries es used × ((x : Part) → IsSeparator x → EndedEntries es (used ++ x ∷ []))) ts rest
          → Yields (place_end places.Block rest) (λ e. cond e.1 (Closed (SpellsEntries es) ts e.0) (Taken (EndedEntries es) ts e.0))
      end_sound es rest found =
          choice (separator_of rest) _ _ _
          (λ no. choice (after_of sign.CloseSection rest) _ _ _ (λ wrong. tt) (λ (after : List Part) close.
          record { used = found.used; split = found.split ∙ ap (λ (r : List Part). found.used ++ r) (after_is sign.CloseSection rest after close); spelled = found.spelled.0 }))
          (λ (after : List Part) sep.
          let separated = separator_is rest after sep in
          record { used = found.used ++ separated.separator ∷ []; split = join_end ts found.used rest after separated.separator found.split separated.split; spelled = found.spelled.1 separated.separator separated.is })

  pub entries_sound : (nest round : ℕ) (ts : List Part) → Yields (entries_read E nest round ts) (λ p. Closed (SpellsEntries p.tree) ts p.rest)
  unfolding entries_read
  entries_sound nest round ts = looped (entry_turn E nest round) (λ p. Taken (EndedEntries p.tree) ts p.rest) (λ p. Closed (SpellsEntries p.tree) ts p.rest) (entry_turn_sound nest round ts) (length ts + 1) (piece no_entries 0 ts) (record { used = []; split = refl; spelled = no_entry })

count_add : (es : Exps) (d : Exp) → count (add_exp es d) ≡ count es + 1
count_add none d = refl
count_add (more e es) d = omega (arith, count_add es d)

some_exp : {level : ℕ} {es : Exps} {used : List Part} → SpellsExps level es used → 0 < count es
some_exp (one s) = omega arith
some_exp (next {e = e} {es = es} s t) = omega (arith, count_add es e)

-- a list of one expression is spelled like that expression
single : {level : ℕ} {es : Exps} {used : List Part} (f : Exp) → SpellsExps level es used → es ≡ more f none → Spells level f used
single {level = level} {used = used} f (one {e = d} s) e = let h : d ≡ f = cc in subst (λ (x : Exp). Spells level x used) h s
single f (next {e = d} {es = es} s t) e = absurd (omega (arith, count_add es d, some_exp s, ap count e))

-- ---- lists of declarations and items, of three kinds

abbrev pub SoundCommand : List Part → Piece Command → Type 0
SoundCommand ts p = Taken (SpellsCommand p.tree) ts p.rest

abbrev pub SoundDefinition : List Part → Piece Definition → Type 0
SoundDefinition ts p = Taken (SpellsDefinition p.tree) ts p.rest

abbrev pub SoundBody : List Part → Piece Block → Type 0
SoundBody ts p = Taken (SpellsBody p.tree) ts p.rest

some_label_is : (ls : Labels) → some_label ls ≡ true → ls ≢ no_labels
some_label_is no_labels e f = absurd cc
some_label_is (label l ls) e f = absurd cc

and_left : (a b : Bool) → (a && b) ≡ true → a ≡ true
and_left true b e = refl
and_left false b e = absurd cc

no_item_is : (is : Items) → no_item_yet is ≡ true → is ≡ no_items
no_item_is no_items e = refl
no_item_is (item i is) e = absurd cc

-- which lists a kind allows
abbrev pub Fits : Places → Declarations → Items → Type 0
Fits places.Section ds is = is ≡ no_items
Fits places.Block ds is = Unit {0}
Fits places.Cases ds is = ds ≡ no_declarations

-- after the last element
abbrev pub AtEnd : Places → List Part → List Part → Type 0
AtEnd places.Section ts rest = (ts ≡ []) × (rest ≡ [])
AtEnd places.Block ts rest = ts ≡ A sign.CloseSection ∷ rest
AtEnd places.Cases ts rest = ts ≡ A sign.CloseSection ∷ rest

no_parts_is : (ts us : List Part) → no_parts ts ≡ Some us → (ts ≡ []) × (us ≡ [])
no_parts_is [] us e = (refl, let h : [] ≡ us = cc in sym h)
no_parts_is (t ∷ ts) us e = absurd cc

end_is : (mode : Places) (ts us : List Part) → end_of mode ts ≡ Some us → AtEnd mode ts us
end_is places.Section ts us e = no_parts_is ts us e
end_is places.Block ts us e = after_is sign.CloseSection ts us e
end_is places.Cases ts us e = after_is sign.CloseSection ts us e

-- the elements up to here, and all of them
pub record PlacesSoFar (mode : Places) (ts : List Part) (s : Piece (Declarations × Items)) : Type 0 where
  pub used : List Part
  pub split : ts ≡ used ++ s.rest
  pub spelled : SpellsEnded s.tree.0 s.tree.1 used
  pub fits : Fits mode s.tree.0 s.tree.1

pub record AllPlaces (mode : Places) (ts : List Part) (s : Piece (Declarations × Items)) : Type 0 where
  pub used : List Part
  pub remaining : List Part
  pub split : ts ≡ used ++ remaining
  pub end : AtEnd mode remaining s.rest
  pub spelled : SpellsPlaces s.tree.0 s.tree.1 used
  pub fits : Fits mode s.tree.0 s.tree.1

-- one more element, which may be the last
pub record PlacesMore (mode : Places) (ts : List Part) (s : Piece (Declarations × Items)) : Type 0 where
  pub used : List Part
  pub split : ts ≡ used ++ s.rest
  pub last : SpellsPlaces s.tree.0 s.tree.1 used
  pub more_after : (x : Part) → IsSeparator x → SpellsEnded s.tree.0 s.tree.1 (used ++ x ∷ [])
  pub fits : Fits mode s.tree.0 s.tree.1

declares_is : (mode : Places) (is_first : Bool) (ts : List Part) (w : DeclarationWord × List Part) → declares mode is_first ts ≡ Some w → (is_first ≡ true) × Worded declaration_word_of ts w.0 w.1
declares_is places.Cases is_first ts w e = absurd cc
declares_is places.Section true ts w e = (refl, word_is declaration_word_of ts w e)
declares_is places.Section false ts w e = absurd cc
declares_is places.Block true ts w e = (refl, word_is declaration_word_of ts w e)
declares_is places.Block false ts w e = absurd cc

fits_declaration : (mode : Places) (ds : Declarations) (is : Items) (d : Declaration) (ts : List Part) (w : DeclarationWord × List Part) → declares mode (no_item_yet is) ts ≡ Some w → Fits mode ds is → Fits mode (add_declaration ds d) is
fits_declaration places.Section ds is d ts w e fits = fits
fits_declaration places.Block ds is d ts w e fits = tt
fits_declaration places.Cases ds is d ts w e fits = absurd cc

fits_item : (mode : Places) (ds : Declarations) (is : Items) (i : Item) → may_command mode ≡ true → Fits mode ds is → Fits mode ds (add_item is i)
fits_item places.Section ds is i e fits = absurd cc
fits_item places.Block ds is i e fits = tt
fits_item places.Cases ds is i e fits = fits

as_body_is : (c : Command) (h : ℕ) → (as_body c h).0 ≡ body c
as_body_is (tree.Compound b) h = refl
as_body_is _ h = refl

module _ (E : Reader) (C : CommandReader) (D : DefinitionReader)
    (exp_sound : (nest round level : ℕ) (ts : List Part) → Yields (E nest round level ts) (SoundExp level ts))
    (command_sound : (nest round : ℕ) (ts : List Part) → Yields (C nest round ts) (SoundCommand ts))
    (definition_sound : (nest round : ℕ) (ts : List Part) → Yields (D nest round ts) (SoundDefinition ts)) where
  item_sound : (nest round : ℕ) (ts : List Part) → Yields (item_read E C D nest round ts) (λ p. Taken (SpellsItem p.tree) ts p.rest)
  unfolding item_read
  item_sound nest round ts =
      then (labels_read E nest round ts) _ _ _ (labels_sound E exp_sound nest round ts) (λ (ls : Piece Labels) found.
      branch (some_label ls.tree && is_place_end ls.rest) _ _ _
      (λ alone. record { used = found.used; split = found.split; spelled = labels_alone (some_label_is ls.tree (and_left _ _ alone)) found.spelled })
      (λ more_after. then (C nest round ls.rest) _ _ _ (command_sound nest round ls.rest) (λ (c : Piece Command) command.
      record { used = found.used ++ command.used; split = join ts found.used ls.rest command.used c.rest found.split command.split; spelled = labelled found.spelled command.spelled })))

  pub record DefinitionsSoFar (ts : List Part) (s : Piece Definitions) : Type 0 where
    pub used : List Part
    pub split : ts ≡ used ++ s.rest
    pub spelled : (d : Definition) (us : List Part) → SpellsDefinition d us → SpellsDefinitions (add_definition s.tree d) (used ++ us)

  definition_turn_sound : (nest round : ℕ) (ts : List Part) (s : Piece Definitions) → DefinitionsSoFar ts s → Yields (definition_turn E C D nest round s) (λ t. cond t.1 (Taken (SpellsDefinitions t.0.tree) ts t.0.rest) (DefinitionsSoFar ts t.0))
  unfolding definition_turn
  definition_turn_sound nest round ts s i =
      then (D nest round s.rest) _ _ _ (definition_sound nest round s.rest) (λ (d : Piece Definition) found.
      let split : ts ≡ (i.used ++ found.used) ++ d.rest = join ts i.used s.rest found.used d.rest i.split found.split in
      let spelled = i.spelled d.tree found.used found.spelled in
      choice (after_of sign.And d.rest) _ _ _ (λ no. record { used = i.used ++ found.used; split = split; spelled = spelled }) (λ (after : List Part) and.
      record {
        used = (i.used ++ found.used) ++ A sign.And ∷ [];
        split = join_end ts (i.used ++ found.used) d.rest after (A sign.And) split (after_is sign.And d.rest after and);
        spelled = λ e us s2. subst (λ (r : List Part). SpellsDefinitions (add_definition (add_definition s.tree d.tree) e) r) (sym (append_assoc (i.used ++ found.used) (A sign.And ∷ []) us)) (next_definition spelled s2);
      }))

  definitions_sound : (nest round : ℕ) (ts : List Part) → Yields (definitions_read E C D nest round ts) (λ p. Taken (SpellsDefinitions p.tree) ts p.rest)
  unfolding definitions_read
  definitions_sound nest round ts = looped (definition_turn E C D nest round) (DefinitionsSoFar ts) (λ p. Taken (SpellsDefinitions p.tree) ts p.rest) (definition_turn_sound nest round ts) (length ts + 1) (piece no_definitions 0 ts) (record { used = []; split = refl; spelled = λ d us s. one_definition s })

  declaration_sound : (nest round : ℕ) (w : DeclarationWord) (ts : List Part) → Yields (declaration_read E C D nest round w ts) (λ p. Taken (SpellsDeclaration p.tree) (A (declaration_sign w) ∷ ts) p.rest)
  unfolding declaration_read
  declaration_sound nest round declaration_word.Let ts =
      then (definitions_read E C D nest round ts) _ _ _ (definitions_sound nest round ts) (λ (ds : Piece Definitions) found.
      record { used = A sign.Let ∷ found.used; split = front (A sign.Let ∷ ts) ts found.used ds.rest (A sign.Let) refl found.split; spelled = spell.definitions found.spelled })
  declaration_sound nest round (declaration_word.Constants s) ts =
      then (expect_of sign.OpenSection ts) _ _ _ (expect_yields sign.OpenSection ts) (λ (rest : List Part) open_section.
      then (entries_read E nest round rest) _ _ _ (entries_sound E exp_sound nest round rest) (λ (es : Piece Entries) found.
      let sign_is = declaration_constants s in
      record {
        used = A (storage_sign s) ∷ A sign.OpenSection ∷ (found.used ++ A sign.CloseSection ∷ []);
        split = ap (λ (x : Symbol). A x ∷ ts) sign_is ∙ ap (λ (r : List Part). A (storage_sign s) ∷ r) (front ts rest (found.used ++ A sign.CloseSection ∷ []) es.rest (A sign.OpenSection) open_section (found.split ∙ sym (append_assoc found.used (A sign.CloseSection ∷ []) es.rest)));
        spelled = spell.constants found.spelled;
      }))

  part_sound : (mode : Places) (nest round : ℕ) (ts : List Part) (s : Piece (Declarations × Items)) → PlacesSoFar mode ts s → Yields (part_read E C D mode nest round s) (PlacesMore mode ts)
  unfolding part_read
  part_sound mode nest round ts s i =
      choice (declares mode (no_item_yet s.tree.1) s.rest) _ _ _
      (λ no. guard (may_command mode) _ _ _ (λ may.
      then (item_read E C D nest round s.rest) _ _ _ (item_sound nest round s.rest) (λ (p : Piece Item) found.
      record {
        used = i.used ++ found.used;
        split = join ts i.used s.rest found.used p.rest i.split found.split;
        last = last_item i.spelled found.spelled;
        more_after = λ x sep. subst (λ (r : List Part). SpellsEnded s.tree.0 (add_item s.tree.1 p.tree) r) (sym (append_assoc i.used found.used (x ∷ []))) (placed i.spelled found.spelled sep);
        fits = fits_item mode s.tree.0 s.tree.1 p.tree may i.fits;
      })))
      (λ (w : DeclarationWord × List Part) is.
      let (first, word) = declares_is mode (no_item_yet s.tree.1) s.rest w is in
      let none_yet = no_item_is s.tree.1 first in
      let so_far : SpellsEnded s.tree.0 no_items i.used = subst (λ (t : Items). SpellsEnded s.tree.0 t i.used) none_yet i.spelled in
      let front_is : s.rest ≡ A (declaration_sign w.0) ∷ w.1 = word.split ∙ ap (λ (x : Symbol). A x ∷ w.1) (declaration_is word.symbol w.0 word.is) in
      then (declaration_read E C D nest round w.0 w.1) _ _ _ (declaration_sound nest round w.0 w.1) (λ (d : Piece Declaration) found.
      record {
        used = i.used ++ found.used;
        split = join ts i.used s.rest found.used d.rest i.split (front_is ∙ found.split);
        last = subst (λ (t : Items). SpellsPlaces (add_declaration s.tree.0 d.tree) t (i.used ++ found.used)) (sym none_yet) (last_declaration so_far found.spelled);
        more_after = λ x sep. subst (λ (r : List Part). SpellsEnded (add_declaration s.tree.0 d.tree) s.tree.1 r) (sym (append_assoc i.used found.used (x ∷ []))) (subst (λ (t : Items). SpellsEnded (add_declaration s.tree.0 d.tree) t (i.used ++ (found.used ++ x ∷ []))) (sym none_yet) (declared so_far found.spelled sep));
        fits = fits_declaration mode s.tree.0 s.tree.1 d.tree s.rest w is i.fits;
      }))

  place_end_sound : (mode : Places) (ts : List Part) (p : Piece (Declarations × Items)) → PlacesMore mode ts p
      → Yields (place_end mode p.rest) (λ e. cond e.1 (AllPlaces mode ts (moved p e.0)) (PlacesSoFar mode ts (moved p e.0)))
  place_end_sound mode ts p found =
      choice (separator_of p.rest) _ _ _
      (λ no. choice (end_of mode p.rest) _ _ _ (λ wrong. tt) (λ (after : List Part) close.
      record { used = found.used; remaining = p.rest; split = found.split; end = end_is mode p.rest after close; spelled = found.last; fits = found.fits }))
      (λ (after : List Part) sep.
      let separated = separator_is p.rest after sep in
      record { used = found.used ++ separated.separator ∷ []; split = join_end ts found.used p.rest after separated.separator found.split separated.split; spelled = found.more_after separated.separator separated.is; fits = found.fits })

  place_turn_sound : (mode : Places) (nest round : ℕ) (ts : List Part) (s : Piece (Declarations × Items)) → PlacesSoFar mode ts s → Yields (place_turn E C D mode nest round s) (λ t. cond t.1 (AllPlaces mode ts t.0) (PlacesSoFar mode ts t.0))
  unfolding place_turn
  place_turn_sound mode nest round ts s i =
      choice (end_of mode s.rest) _ _ _
      (λ goes_on. choice (separator_of s.rest) _ _ _
      (λ no. then (part_read E C D mode nest round s) _ _ _ (part_sound mode nest round ts s i) (λ (p : Piece (Declarations × Items)) found.
      then (place_end mode p.rest) _ _ _ (place_end_sound mode ts p found) (λ (e : List Part × Bool) h. h)))
      (λ (after : List Part) sep.
      let separated = separator_is s.rest after sep in
      record { used = i.used ++ separated.separator ∷ []; split = join_end ts i.used s.rest after separated.separator i.split separated.split; spelled = gap i.spelled separated.is; fits = i.fits }))
      (λ (after : List Part) close. record { used = i.used; remaining = s.rest; split = i.split; end = end_is mode s.rest after close; spelled = ended i.spelled; fits = i.fits })

  first_fits : (mode : Places) → Fits mode no_declarations no_items
  first_fits places.Section = refl
  first_fits places.Block = tt
  first_fits places.Cases = refl

  pub places_sound : (mode : Places) (nest round : ℕ) (ts : List Part) → Yields (places_read E C D mode nest round ts) (AllPlaces mode ts)
  unfolding places_read
  places_sound mode nest round ts = looped (place_turn E C D mode nest round) (PlacesSoFar mode ts) (AllPlaces mode ts) (place_turn_sound mode nest round ts) (length ts + 1) (piece (no_declarations, no_items) 0 ts) (record { used = []; split = refl; spelled = nothing; fits = first_fits mode })

  -- ---- blocks and bodies

  block_sound : (nest round : ℕ) (ts : List Part) → Yields (block_read E C D nest round ts) (λ p. Taken (SpellsBlock p.tree) (A sign.OpenSection ∷ ts) p.rest)
  unfolding block_read
  block_sound nest round ts =
      then (places_read E C D places.Block nest round ts) _ _ _ (places_sound places.Block nest round ts) (λ (p : Piece (Declarations × Items)) found.
      record {
        used = A sign.OpenSection ∷ (found.used ++ A sign.CloseSection ∷ []);
        split = front (A sign.OpenSection ∷ ts) ts (found.used ++ A sign.CloseSection ∷ []) p.rest (A sign.OpenSection) refl (join_end ts found.used found.remaining p.rest (A sign.CloseSection) found.split found.end);
        spelled = block_brackets found.spelled;
      })

  body_from_command : (c : Command) (h : ℕ) (used : List Part) → SpellsCommand c used → SpellsBody (as_body c h).0 used
  body_from_command c h used s = subst (λ (b : Block). SpellsBody b used) (sym (as_body_is c h)) (body_command s)

  body_of_block_sound : (nest round : ℕ) (ts : List Part) (b : Piece Block) → Taken (SpellsBlock b.tree) ts b.rest → Yields (body_of_block E C D nest round b) (SoundBody ts)
  unfolding body_of_block
  body_of_block_sound nest round ts b found =
      choice (word_in repeat_word_of b.rest) _ _ _
      (λ no. record { used = found.used; split = found.split; spelled = body_command {c = tree.Compound b.tree} (simple (spell.compound found.spelled)) })
      (λ (w : RepeatWord × List Part) is.
      guard (ltb b.height nest) _ _ _ (λ room.
      then (repeats_read E nest round (piece (tree.Compound b.tree) (b.height + 1) b.rest)) _ _ _
      (repeats_sound E exp_sound nest round ts (piece (tree.Compound b.tree) (b.height + 1) b.rest) (record { used = found.used; split = found.split; spelled = spell.compound found.spelled }))
      (λ (c : Piece Command) all. record { used = all.used; split = all.split; spelled = body_from_command c.tree c.height all.used (simple all.spelled) })))

  pub body_sound : (nest round : ℕ) (ts : List Part) → Yields (body_read E C D nest round ts) (SoundBody ts)
  unfolding body_read
  body_sound nest round ts =
      choice (after_of sign.OpenSection ts) _ _ _
      (λ no. then (C nest round ts) _ _ _ (command_sound nest round ts) (λ (c : Piece Command) found.
      record { used = found.used; split = found.split; spelled = body_from_command c.tree c.height found.used found.spelled }))
      (λ (inner : List Part) open_section.
      then (block_read E C D nest round inner) _ _ _ (block_sound nest round inner) (λ (b : Piece Block) found.
      body_of_block_sound nest round ts b (record { used = found.used; split = after_is sign.OpenSection ts inner open_section ∙ found.split; spelled = found.spelled })))

  do_sound : (nest round : ℕ) (ts : List Part) → Yields (do_read E C D nest round ts) (λ p. Taken (SpellsDo p.tree) ts p.rest)
  unfolding do_read
  do_sound nest round ts =
      let is = do_front ts in
      lifted (body_read E C D nest round (past_do ts)) (body_sound nest round (past_do ts)) (λ b found.
      record { used = optional is.line NewLine (optional is.word (A sign.Do) found.used); split = is.split ∙ ap (λ (r : List Part). optional is.line NewLine (optional is.word (A sign.Do) r)) found.split ∙ moves is.line is.word found.used b.rest; spelled = do_body is.line is.word found.spelled })
    where
      moves : (line word : Bool) (us rest : List Part) → optional line NewLine (optional word (A sign.Do) (us ++ rest)) ≡ optional line NewLine (optional word (A sign.Do) us) ++ rest
      moves true true us rest = refl
      moves true false us rest = refl
      moves false true us rest = refl
      moves false false us rest = refl

      lifted : {X : Type 0} (r : Result X Fault) {P Q : X → Type 0} → Yields r P → ((x : X) → P x → Q x) → Yields r Q
      lifted (Ok x) p f = f x p
      lifted (Err e) p f = tt

  valof_sound : (nest round : ℕ) (ts : List Part) → Yields (valof_read E C D nest round ts) (λ p. Taken (λ used. (level : ℕ) → IsOfLevel level p.tree used) (A sign.ValueOf ∷ ts) p.rest)
  unfolding valof_read
  valof_sound nest round ts =
      then (body_read E C D (nest - 1) round ts) _ _ _ (body_sound (nest - 1) round ts) (λ (b : Piece Block) found.
      record { used = A sign.ValueOf ∷ found.used; split = front (A sign.ValueOf ∷ ts) ts found.used b.rest (A sign.ValueOf) refl found.split; spelled = λ k. spell.valof found.spelled })

  started_sound : (nest round place : ℕ) (w : Start) (ts : List Part) → Yields (started_read E C D nest round place w ts) (SoundOperand (A (start_sign w) ∷ ts))
  unfolding started_read
  started_sound nest round place start.Bracket ts =
      then (bracket_read E nest round place ts) _ _ _ (bracket_sound E exp_sound nest round place ts) (λ (e : Piece Exp) found.
      record { used = found.used; split = found.split; spelled = (found.spelled 12, λ k. of_level (found.spelled k)) })
  started_sound nest round place start.Table ts =
      then (table_read E nest round ts) _ _ _ (table_sound E exp_sound nest round ts) (λ (e : Piece Exp) found.
      record { used = found.used; split = found.split; spelled = (found.spelled 12, λ k. of_level (found.spelled k)) })
  started_sound nest round place start.Valof ts =
      then (valof_read E C D nest round ts) _ _ _ (valof_sound nest round ts) (λ (e : Piece Exp) found.
      record { used = found.used; split = found.split; spelled = (found.spelled 12, λ k. of_level (found.spelled k)) })
  started_sound nest round place (start.Unary m) ts =
      then (unary_read E nest round m ts) _ _ _ (unary_sound E exp_sound nest round m ts) (λ (e : Piece Exp) found.
      record { used = found.used; split = ap (λ (x : Symbol). A x ∷ ts) (start_unary m) ∙ found.split; spelled = found.spelled })

  pub operand_sound : (nest round : ℕ) (ts : List Part) → Yields (operand_read E C D nest round ts) (SoundOperand ts)
  unfolding operand_read
  operand_sound nest round ts =
      choice (leaf_of ts) _ _ _
      (λ no. choice (word_in start_of ts) _ _ _ (λ wrong. tt) (λ (w : Start × List Part) is.
      let word = word_is start_of ts w is in
      let front_is : ts ≡ A (start_sign w.0) ∷ w.1 = word.split ∙ ap (λ (x : Symbol). A x ∷ w.1) (start_is word.symbol w.0 word.is) in
      subst (λ (r : List Part). Yields (started_read E C D nest round (length ts) w.0 w.1) (SoundOperand r)) (sym front_is) (started_sound nest round (length ts) w.0 w.1)))
      (λ (e : Exp × List Part) is.
      let leaf = leaf_is ts e is in
      record { used = leaf.front ∷ []; split = leaf.split; spelled = (leaf.spelled 12, λ k. of_level (leaf.spelled k)) })

  -- ---- commands

  call_in_is : (es : Exps) (c : Exp × Exps) → call_in es ≡ Some c → es ≡ more (tree.Call c.0 c.1) none
  call_in_is (more (tree.Call f es) none) c e = let h : (f, es) ≡ c = cc in ap (λ (x : Exp × Exps). more (tree.Call x.0 x.1) none) h
  call_in_is (more (tree.Call f es) (more d ds)) c e = absurd cc
  call_in_is none c e = absurd cc
  call_in_is (more (tree.Name s) ds) c e = absurd cc
  call_in_is (more (tree.Num n) ds) c e = absurd cc
  call_in_is (more (tree.Character n) ds) c e = absurd cc
  call_in_is (more (tree.Text s) ds) c e = absurd cc
  call_in_is (more tree.True ds) c e = absurd cc
  call_in_is (more tree.False ds) c e = absurd cc
  call_in_is (more (tree.Table ks) ds) c e = absurd cc
  call_in_is (more (tree.Valof b) ds) c e = absurd cc
  call_in_is (more (tree.Unary m x) ds) c e = absurd cc
  call_in_is (more (tree.Bin o l r) ds) c e = absurd cc
  call_in_is (more (tree.Cond x y z) ds) c e = absurd cc

  assigned_sound : (nest round : ℕ) (ts : List Part) → Yields (assigned_read E C D nest round ts) (λ p. Taken (SpellsSimple p.tree) ts p.rest)
  unfolding assigned_read
  assigned_sound nest round ts =
      then (exps_read E (nest - 1) round 1 (length ts + 1) ts) _ _ _ (exps_sound E exp_sound (nest - 1) round 1 (length ts + 1) ts) (λ (xs : Piece Exps) targets.
      choice (after_of sign.Assign xs.rest) _ _ _
      (λ no. choice (call_in xs.tree) _ _ _ (λ wrong. tt) (λ (c : Exp × Exps) is.
      record { used = targets.used; split = targets.split; spelled = spell.run (single (tree.Call c.0 c.1) targets.spelled (call_in_is xs.tree c is)) }))
      (λ (after : List Part) assign.
      then (exps_read E (nest - 1) round 1 (count xs.tree) after) _ _ _ (exps_sound E exp_sound (nest - 1) round 1 (count xs.tree) after) (λ (es : Piece Exps) values.
      guard (eqb (count es.tree) (count xs.tree)) _ _ _ (λ same.
      record {
        used = targets.used ++ A sign.Assign ∷ values.used;
        split = join_by ts targets.used xs.rest values.used after es.rest (A sign.Assign) targets.split (after_is sign.Assign xs.rest after assign) values.split;
        spelled = spell.assign (sym (eqb-true _ _ same)) targets.spelled values.spelled;
      }))))

  plain : (c : Command) (s : Symbol) (ts : List Part) → SpellsSimple c (A s ∷ []) → Taken (SpellsSimple c) (A s ∷ ts) ts
  plain c s ts spelled = record { used = A s ∷ []; split = refl; spelled = spelled }

  simple_sound : (nest round : ℕ) (w : SimpleWord) (ts : List Part) → Yields (simple_read E C D nest round w ts) (λ p. Taken (SpellsSimple p.tree) (A (simple_sign w) ∷ ts) p.rest)
  unfolding simple_read
  simple_sound nest round simple_word.Block ts =
      then (block_read E C D (nest - 1) round ts) _ _ _ (block_sound (nest - 1) round ts) (λ (b : Piece Block) found.
      record { used = found.used; split = found.split; spelled = spell.compound found.spelled })
  simple_sound nest round simple_word.Break ts = plain tree.Break sign.Break ts spell.break
  simple_sound nest round simple_word.Loop ts = plain tree.Loop sign.Loop ts spell.loop
  simple_sound nest round simple_word.EndCase ts = plain tree.EndCase sign.EndCase ts spell.end_case
  simple_sound nest round simple_word.Return ts = plain tree.Return sign.Return ts spell.return
  simple_sound nest round simple_word.Finish ts = plain tree.Finish sign.Finish ts spell.finish
  simple_sound nest round simple_word.ResultIs ts =
      then (E (nest - 1) round 1 ts) _ _ _ (exp_sound (nest - 1) round 1 ts) (λ (e : Piece Exp) found.
      record { used = A sign.ResultIs ∷ found.used; split = front (A sign.ResultIs ∷ ts) ts found.used e.rest (A sign.ResultIs) refl found.split; spelled = spell.result_is found.spelled })
  simple_sound nest round simple_word.Goto ts =
      then (name_of ts) _ _ _ (name_yields ts) (λ (n : List ℕ × List Part) is.
      record { used = A sign.Goto ∷ Name n.0 ∷ []; split = ap (λ (r : List Part). A sign.Goto ∷ r) is; spelled = spell.goto })

  tested_spelled : (t : Tested) (e : Exp) (b : Block) (ts us : List Part) → Spells 1 e ts → SpellsDo b us → SpellsCommand (tested_command t e b) (A (command_sign (command_word.Tested t)) ∷ (ts ++ us))
  tested_spelled tested.If e b ts us s d = spell.if_do s d
  tested_spelled tested.Unless e b ts us s d = spell.unless_do s d
  tested_spelled tested.While e b ts us s d = spell.while_do s d
  tested_spelled tested.Until e b ts us s d = spell.until_do s d

  tested_sound : (t : Tested) (nest round : ℕ) (ts : List Part) → Yields (tested_read E C D t nest round ts) (SoundCommand (A (command_sign (command_word.Tested t)) ∷ ts))
  unfolding tested_read
  tested_sound t nest round ts =
      then (E (nest - 1) round 1 ts) _ _ _ (exp_sound (nest - 1) round 1 ts) (λ (e : Piece Exp) test.
      then (do_read E C D (nest - 1) round e.rest) _ _ _ (do_sound (nest - 1) round e.rest) (λ (b : Piece Block) found.
      record {
        used = A (command_sign (command_word.Tested t)) ∷ (test.used ++ found.used);
        split = front (A (command_sign (command_word.Tested t)) ∷ ts) ts (test.used ++ found.used) b.rest (A (command_sign (command_word.Tested t))) refl (join ts test.used e.rest found.used b.rest test.split found.split);
        spelled = tested_spelled t e.tree b.tree test.used found.used test.spelled found.spelled;
      }))

  test_sound : (nest round : ℕ) (ts : List Part) → Yields (test_read E C D nest round ts) (SoundCommand (A sign.Test ∷ ts))
  unfolding test_read
  test_sound nest round ts =
      then (E (nest - 1) round 1 ts) _ _ _ (exp_sound (nest - 1) round 1 ts) (λ (e : Piece Exp) test.
      then (do_read E C D (nest - 1) round e.rest) _ _ _ (do_sound (nest - 1) round e.rest) (λ (b : Piece Block) first.
      then (expect_of sign.Else b.rest) _ _ _ (expect_yields sign.Else b.rest) (λ (rest : List Part) else_word.
      then (body_read E C D (nest - 1) round rest) _ _ _ (body_sound (nest - 1) round rest) (λ (d : Piece Block) second.
      record {
        used = A sign.Test ∷ (test.used ++ (first.used ++ A sign.Else ∷ second.used));
        split = front (A sign.Test ∷ ts) ts (test.used ++ (first.used ++ A sign.Else ∷ second.used)) d.rest (A sign.Test) refl
            (join ts test.used e.rest (first.used ++ A sign.Else ∷ second.used) d.rest test.split (join_by e.rest first.used b.rest second.used rest d.rest (A sign.Else) first.split else_word second.split));
        spelled = spell.test test.spelled first.spelled second.spelled;
      }))))

  -- a FOR's step and what precedes the body
  abbrev Stepped : List Part → Piece (Option Exp) → Type 0
  Stepped ts p = elim p.tree as (λ _. Type 0) [ None ↦ ts ≡ p.rest | Some k ↦ Taken (λ used. (ws : List Part) × (used ≡ A sign.By ∷ ws) × Spells 2 k ws) ts p.rest ]

  step_sound : (nest round : ℕ) (ts : List Part) → Yields (step_read E C D nest round ts) (Stepped ts)
  unfolding step_read
  step_sound nest round ts =
      choice (after_of sign.By ts) _ _ _ (λ no. refl) (λ (after : List Part) by.
      then (E nest round 2 after) _ _ _ (exp_sound nest round 2 after) (λ (k : Piece Exp) found.
      record { used = A sign.By ∷ found.used; split = front ts after found.used k.rest (A sign.By) (after_is sign.By ts after by) found.split; spelled = (found.used, refl, found.spelled) }))

  for_sound : (nest round : ℕ) (ts : List Part) → Yields (for_read E C D nest round ts) (SoundCommand (A sign.For ∷ ts))
  unfolding for_read
  for_sound nest round ts =
      then (name_of ts) _ _ _ (name_yields ts) (λ (n : List ℕ × List Part) is.
      then (expect_of sign.Equal n.1) _ _ _ (expect_yields sign.Equal n.1) (λ (first : List Part) equal.
      then (E (nest - 1) round 1 first) _ _ _ (exp_sound (nest - 1) round 1 first) (λ (a : Piece Exp) begin.
      then (expect_of sign.To a.rest) _ _ _ (expect_yields sign.To a.rest) (λ (last : List Part) to.
      then (E (nest - 1) round 1 last) _ _ _ (exp_sound (nest - 1) round 1 last) (λ (z : Piece Exp) limit.
      then (step_read E C D (nest - 1) round z.rest) _ _ _ (step_sound (nest - 1) round z.rest) (λ (k : Piece (Option Exp)) step.
      then (do_read E C D (nest - 1) round k.rest) _ _ _ (do_sound (nest - 1) round k.rest) (λ (b : Piece Block) found.
      go n first a last z k.tree k.rest b is equal begin to limit step found)))))))
    where
      go : (n : List ℕ × List Part) (first : List Part) (a : Piece Exp) (last : List Part) (z : Piece Exp) (k : Option Exp) (mid : List Part) (b : Piece Block) → ts ≡ Name n.0 ∷ n.1 → n.1 ≡ A sign.Equal ∷ first → SoundExp 1 first a → a.rest ≡ A sign.To ∷ last → SoundExp 1 last z
          → Stepped z.rest (piece k 0 mid) → Taken (SpellsDo b.tree) mid b.rest → Taken (SpellsCommand (for_from n.0 a.tree z.tree k b.tree)) (A sign.For ∷ ts) b.rest
      go n first a last z None mid b is equal begin to limit step found =
          record {
            used = A sign.For ∷ Name n.0 ∷ A sign.Equal ∷ (begin.used ++ A sign.To ∷ (limit.used ++ found.used));
            split = ap (λ (r : List Part). A sign.For ∷ r) (front ts n.1 (A sign.Equal ∷ (begin.used ++ A sign.To ∷ (limit.used ++ found.used))) b.rest (Name n.0) is (front n.1 first (begin.used ++ A sign.To ∷ (limit.used ++ found.used)) b.rest (A sign.Equal) equal
                (join_by first begin.used a.rest (limit.used ++ found.used) last b.rest (A sign.To) begin.split to (join last limit.used z.rest found.used b.rest limit.split (step ∙ found.split)))));
            spelled = spell.for begin.spelled limit.spelled found.spelled;
          }
      go n first a last z (Some k) mid b is equal begin to limit step found =
          let (ws, step_is, step_spelled) = step.spelled in
          let step_split : z.rest ≡ (A sign.By ∷ (ws ++ found.used)) ++ b.rest = step.split ∙ ap (λ (r : List Part). r ++ mid) step_is ∙ ap (λ (r : List Part). A sign.By ∷ r) (join (ws ++ mid) ws mid found.used b.rest refl found.split) in
          record {
            used = A sign.For ∷ Name n.0 ∷ A sign.Equal ∷ (begin.used ++ A sign.To ∷ (limit.used ++ A sign.By ∷ (ws ++ found.used)));
            split = ap (λ (r : List Part). A sign.For ∷ r) (front ts n.1 (A sign.Equal ∷ (begin.used ++ A sign.To ∷ (limit.used ++ A sign.By ∷ (ws ++ found.used)))) b.rest (Name n.0) is (front n.1 first (begin.used ++ A sign.To ∷ (limit.used ++ A sign.By ∷ (ws ++ found.used))) b.rest (A sign.Equal) equal
                (join_by first begin.used a.rest (limit.used ++ A sign.By ∷ (ws ++ found.used)) last b.rest (A sign.To) begin.split to (join last limit.used z.rest (A sign.By ∷ (ws ++ found.used)) b.rest limit.split step_split))));
            spelled = spell.for_by begin.spelled limit.spelled step_spelled found.spelled;
          }

  switch_sound : (nest round : ℕ) (ts : List Part) → Yields (switch_read E C D nest round ts) (SoundCommand (A sign.SwitchOn ∷ ts))
  unfolding switch_read
  switch_sound nest round ts =
      then (E (nest - 1) round 1 ts) _ _ _ (exp_sound (nest - 1) round 1 ts) (λ (e : Piece Exp) value.
      then (expect_of sign.Into e.rest) _ _ _ (expect_yields sign.Into e.rest) (λ (into : List Part) into_word.
      then (expect_of sign.OpenSection into) _ _ _ (expect_yields sign.OpenSection into) (λ (inner : List Part) open_section.
      then (places_read E C D places.Cases (nest - 1) round inner) _ _ _ (places_sound places.Cases (nest - 1) round inner) (λ (p : Piece (Declarations × Items)) found.
      record {
        used = A sign.SwitchOn ∷ (value.used ++ A sign.Into ∷ A sign.OpenSection ∷ (found.used ++ A sign.CloseSection ∷ []));
        split = front (A sign.SwitchOn ∷ ts) ts (value.used ++ A sign.Into ∷ A sign.OpenSection ∷ (found.used ++ A sign.CloseSection ∷ [])) p.rest (A sign.SwitchOn) refl
            (join_by ts value.used e.rest (A sign.OpenSection ∷ (found.used ++ A sign.CloseSection ∷ [])) into p.rest (A sign.Into) value.split into_word
            (front into inner (found.used ++ A sign.CloseSection ∷ []) p.rest (A sign.OpenSection) open_section (join_end inner found.used found.remaining p.rest (A sign.CloseSection) found.split found.end)));
        spelled = spell.switch_on value.spelled (subst (λ (ds : Declarations). SpellsPlaces ds p.tree.1 found.used) found.fits found.spelled);
      }))))

  compound_sound : (nest round : ℕ) (w : CommandWord) (ts : List Part) → Yields (compound_read E C D nest round w ts) (SoundCommand (A (command_sign w) ∷ ts))
  unfolding compound_read
  compound_sound nest round (command_word.Tested t) ts = tested_sound t nest round ts
  compound_sound nest round command_word.Test ts = test_sound nest round ts
  compound_sound nest round command_word.For ts = for_sound nest round ts
  compound_sound nest round command_word.SwitchOn ts = switch_sound nest round ts

  started_simple : (nest round : ℕ) (ts : List Part) → Yields (on (word_in simple_word_of ts) (assigned_read E C D nest round ts) (λ w. simple_read E C D nest round w.0 w.1)) (λ p. Taken (SpellsSimple p.tree) ts p.rest)
  started_simple nest round ts =
      choice (word_in simple_word_of ts) _ _ _ (λ no. assigned_sound nest round ts) (λ (w : SimpleWord × List Part) is.
      let word = word_is simple_word_of ts w is in
      let front_is : ts ≡ A (simple_sign w.0) ∷ w.1 = word.split ∙ ap (λ (x : Symbol). A x ∷ w.1) (simple_is word.symbol w.0 word.is) in
      subst (λ (r : List Part). Yields (simple_read E C D nest round w.0 w.1) (λ p. Taken (SpellsSimple p.tree) r p.rest)) (sym front_is) (simple_sound nest round w.0 w.1))

  repeatable_sound : (nest round : ℕ) (ts : List Part) → Yields (repeatable_read E C D nest round ts) (SoundCommand ts)
  unfolding repeatable_read
  repeatable_sound nest round ts =
      then (on (word_in simple_word_of ts) (assigned_read E C D nest round ts) (λ w. simple_read E C D nest round w.0 w.1)) _ _ _ (started_simple nest round ts) (λ (c : Piece Command) found.
      commanded (repeats_read E nest round c) (repeats_sound E exp_sound nest round ts c found))
    where
      commanded : (r : Result (Piece Command) Fault) → Yields r (λ p. Taken (SpellsSimple p.tree) ts p.rest) → Yields r (SoundCommand ts)
      commanded (Ok p) h = record { used = h.used; split = h.split; spelled = simple h.spelled }
      commanded (Err f) h = tt

  pub worded_sound : (nest round : ℕ) (ts : List Part) → Yields (command_read E C D nest round ts) (SoundCommand ts)
  unfolding command_read
  worded_sound nest round ts =
      choice (word_in command_word_of ts) _ _ _ (λ no. repeatable_sound nest round ts) (λ (w : CommandWord × List Part) is.
      let word = word_is command_word_of ts w is in
      let front_is : ts ≡ A (command_sign w.0) ∷ w.1 = word.split ∙ ap (λ (x : Symbol). A x ∷ w.1) (command_is word.symbol w.0 word.is) in
      subst (λ (r : List Part). Yields (compound_read E C D nest round w.0 w.1) (SoundCommand r)) (sym front_is) (compound_sound nest round w.0 w.1))

  -- ---- definitions

  variables_sound : (nest round : ℕ) (ts : List Part) → Yields (variables_read E C D nest round ts) (SoundDefinition ts)
  unfolding variables_read
  variables_sound nest round ts =
      then (names_read ts) _ _ _ (names_sound ts) (λ (ns : Piece (List (List ℕ))) found.
      then (expect_of sign.Equal ns.rest) _ _ _ (expect_yields sign.Equal ns.rest) (λ (rest : List Part) equal.
      then (exps_read E (nest - 1) round 1 (length ns.tree) rest) _ _ _ (exps_sound E exp_sound (nest - 1) round 1 (length ns.tree) rest) (λ (es : Piece Exps) values.
      guard (eqb (count es.tree) (length ns.tree)) _ _ _ (λ same.
      record {
        used = named ns.tree ++ A sign.Equal ∷ values.used;
        split = join_by ts (named ns.tree) ns.rest values.used rest es.rest (A sign.Equal) found.split equal values.split;
        spelled = spell.variables (sym (eqb-true _ _ same)) values.spelled;
      }))))

  vector_sound : (nest round : ℕ) (n : List ℕ) (ts : List Part) → Yields (vector_read E C D nest round n ts) (SoundDefinition (Name n ∷ A sign.Equal ∷ A sign.Vector ∷ ts))
  unfolding vector_read
  vector_sound nest round n ts =
      then (E (nest - 1) round 2 ts) _ _ _ (exp_sound (nest - 1) round 2 ts) (λ (k : Piece Exp) found.
      record { used = Name n ∷ A sign.Equal ∷ A sign.Vector ∷ found.used; split = ap (λ (r : List Part). Name n ∷ A sign.Equal ∷ A sign.Vector ∷ r) found.split; spelled = spell.vector found.spelled })

  routine_sound : (nest round : ℕ) (n : List ℕ) (place : ℕ) (ts : List Part) → Yields (routine_read E C D nest round n place ts) (SoundDefinition (Name n ∷ A sign.OpenBracket ∷ ts))
  unfolding routine_read
  routine_sound nest round n place ts =
      guard (ltb 0 round) _ _ _ (λ room.
      then (parameters_read ts) _ _ _ (parameters_sound ts) (λ (ps : Piece (List (List ℕ))) found.
      choice (after_of sign.Equal ps.rest) _ _ _
      (λ no. then (expect_of sign.Be ps.rest) _ _ _ (expect_yields sign.Be ps.rest) (λ (rest : List Part) be.
      then (body_read E C D (nest - 1) round rest) _ _ _ (body_sound (nest - 1) round rest) (λ (b : Piece Block) inner.
      record { used = Name n ∷ (in_round (named ps.tree) ++ A sign.Be ∷ inner.used); split = bracketed_names (named ps.tree) ps.rest rest inner.used b.rest (A sign.Be) found be inner.split; spelled = spell.routine inner.spelled })))
      (λ (after : List Part) equal.
      then (E (nest - 1) round 1 after) _ _ _ (exp_sound (nest - 1) round 1 after) (λ (e : Piece Exp) value.
      record { used = Name n ∷ (in_round (named ps.tree) ++ A sign.Equal ∷ value.used); split = bracketed_names (named ps.tree) ps.rest after value.used e.rest (A sign.Equal) found (after_is sign.Equal ps.rest after equal) value.split; spelled = spell.function value.spelled }))))
    where
      bracketed_names : (ns mid after us rest : List Part) (p : Part) → ts ≡ ns ++ A sign.CloseBracket ∷ mid → mid ≡ p ∷ after → after ≡ us ++ rest → Name n ∷ A sign.OpenBracket ∷ ts ≡ (Name n ∷ (in_round ns ++ p ∷ us)) ++ rest
      bracketed_names ns mid after us rest p a b c =
          ap (λ (r : List Part). Name n ∷ A sign.OpenBracket ∷ r) (a ∙ sym (append_assoc ns (A sign.CloseBracket ∷ []) mid) ∙ join_by ((ns ++ A sign.CloseBracket ∷ []) ++ mid) (ns ++ A sign.CloseBracket ∷ []) mid us after rest p refl b c)

  shaped_sound : (nest round : ℕ) (n : List ℕ × List Part) (place : ℕ) (ts : List Part) (s : Shape) → ts ≡ Name n.0 ∷ n.1 → IsShape n.1 s → Yields (shaped_read E C D nest round n.0 place ts s) (SoundDefinition ts)
  unfolding shaped_read
  shaped_sound nest round n place ts (Parameters after) is shape =
      subst (λ (r : List Part). Yields (routine_read E C D nest round n.0 place after) (SoundDefinition r)) (sym (is ∙ ap (λ (r : List Part). Name n.0 ∷ r) shape)) (routine_sound nest round n.0 place after)
  shaped_sound nest round n place ts (Size after) is shape =
      subst (λ (r : List Part). Yields (vector_read E C D nest round n.0 after) (SoundDefinition r)) (sym (is ∙ ap (λ (r : List Part). Name n.0 ∷ r) shape)) (vector_sound nest round n.0 after)
  shaped_sound nest round n place ts Values is shape = variables_sound nest round ts

  pub defined_sound : (nest round : ℕ) (ts : List Part) → Yields (defined_read E C D nest round ts) (SoundDefinition ts)
  unfolding defined_read
  defined_sound nest round ts =
      then (name_of ts) _ _ _ (name_yields ts) (λ (n : List ℕ × List Part) is. shaped_sound nest round n (length n.1) ts (shape_of n.1) is (shapes n.1))

mutual
  unfolding exp_of command_of definition_of

  pub exp_of_sound : (n nest round level : ℕ) (ts : List Part) → Yields (exp_of n nest round level ts) (SoundExp level ts)
  exp_of_sound zero nest round level ts = tt
  exp_of_sound (suc n) nest round level ts =
      guard (ltb 0 nest) _ _ _ (λ room.
      then (operand_read (exp_of n) (command_of n) (definition_of n) nest round ts) _ _ _ (operand_sound (exp_of n) (command_of n) (definition_of n) (exp_of_sound n) (command_of_sound n) (definition_of_sound n) nest round ts) (λ (p : Piece (Exp × ℕ)) found.
      grow_sound (exp_of n) (exp_of_sound n) nest round (length ts) level ts p (record { used = found.used; split = found.split; spelled = (found.spelled.0, found.spelled.1 level) })))

  pub command_of_sound : (n nest round : ℕ) (ts : List Part) → Yields (command_of n nest round ts) (SoundCommand ts)
  command_of_sound zero nest round ts = tt
  command_of_sound (suc n) nest round ts = guard (ltb 0 nest) _ _ _ (λ room. worded_sound (exp_of n) (command_of n) (definition_of n) (exp_of_sound n) (command_of_sound n) (definition_of_sound n) nest round ts)

  pub definition_of_sound : (n nest round : ℕ) (ts : List Part) → Yields (definition_of n nest round ts) (SoundDefinition ts)
  definition_of_sound zero nest round ts = tt
  definition_of_sound (suc n) nest round ts = guard (ltb 0 nest) _ _ _ (λ room. defined_sound (exp_of n) (command_of n) (definition_of n) (exp_of_sound n) (command_of_sound n) (definition_of_sound n) nest round ts)

pub section_sound : (ts : List Part) (ds : Declarations) → section_of ts ≡ Ok ds → SpellsSection ds ts
unfolding section_of
section_sound ts ds e =
    from_yields (section_of ts) ds (λ ds. SpellsSection ds ts)
    (then (places_read (exp_of 600) (command_of 600) (definition_of 600) places.Section 200 400 ts) _ _ _ (places_sound (exp_of 600) (command_of 600) (definition_of 600) (exp_of_sound 600) (command_of_sound 600) (definition_of_sound 600) places.Section 200 400 ts) (λ (p : Piece (Declarations × Items)) found.
    let all : ts ≡ found.used = found.split ∙ ap (λ (r : List Part). found.used ++ r) found.end.0 ∙ append-nil found.used in
    section (subst (λ (r : List Part). SpellsPlaces p.tree.0 no_items r) (sym all) (subst (λ (is : Items). SpellsPlaces p.tree.0 is found.used) found.fits found.spelled))))
    e
