-- If no REPEAT word follows a VALOF's body, no repeated command ends with one.
use Rattle.std.proofs.Common.{List, [], ◌∷◌, ◌++◌, refl, sym, ap, subst, ◌∙◌, append_assoc}
use Rattle.bc_lex_tokens.specs.declared.symbol.Symbol.{Symbol}
use Rattle.bc_lex_tokens.specs.declared.symbol.Symbol.TheVariants as sign
use Rattle.bc_parse_tree.specs.Parts.{Part, A}
use Rattle.bc_parse_tree.specs.Tree.{Exp, Exps, none, more, Block, block, Declaration, Declarations, no_declarations, declaration, Entries, no_entries, entry, Definition, Definitions, no_definitions, definition, Item, Labelled, Labels_alone, Items, no_items, item, Label, Labels, no_labels, label, Command}
use Rattle.bc_parse_tree.specs.Tree as tree
use Rattle.bc_parse_tree.specs.Spelling.{in_round, named}
use Rattle.bc_parse_tree.specs.Canonical.{part_of, routine_of, entry_sign, after_first, whole, after_commas, block_spelling, declarations_spelling, declaration_spelling, entries_spelling, definitions_spelling, definition_spelling, items_spelling, item_spelling, labels_spelling, label_spelling, command_spelling}
use Rattle.bc_parse_laws.specs.Repeated.{IsRepeatWord, repeat, repeat_while, repeat_until, RepeatsNoValof}
use Rattle.bc_parse_laws.proofs.Formed.{IsNoValof, EndsInNoValof, FormedExp, FormedExps, FormedBlock, FormedDeclaration, FormedDeclarations, FormedEntries, FormedDefinition, FormedDefinitions, FormedItem, FormedItems, FormedLabel, FormedLabels, FormedCommand}
use Rattle.bc_parse_laws.proofs.Grammar.{Any}

-- ---- parts of lists

-- the same as a record
pub record Free (ts : List Part) : Type 0 where
  pub holds : RepeatsNoValof ts

front : {xs : List Part} (ys : List Part) → Free (xs ++ ys) → Free xs
front {xs} ys f = record {
  holds = λ before after b s word is. f.holds before (after ++ ys) b s word
      (ap (λ (r : List Part). r ++ ys) is ∙ append_assoc before (A sign.ValueOf ∷ (block_spelling b ++ A s ∷ after)) ys
      ∙ ap (λ (r : List Part). before ++ A sign.ValueOf ∷ r) (append_assoc (block_spelling b) (A s ∷ after) ys));
}

back : (xs : List Part) {ys : List Part} → Free (xs ++ ys) → Free ys
back xs {ys} f = record {
  holds = λ before after b s word is. f.holds (xs ++ before) after b s word
      (ap (λ (r : List Part). xs ++ r) is ∙ sym (append_assoc xs before (A sign.ValueOf ∷ (block_spelling b ++ A s ∷ after))));
}

tail : {p : Part} {ys : List Part} → Free (p ∷ ys) → Free ys
tail {p} {ys} f = record { holds = λ before after b s word is. f.holds (p ∷ before) after b s word (ap (λ (r : List Part). p ∷ r) is) }

rest : (ts : List Part) → Free ts → Free (after_first ts)
rest [] f = f
rest (p ∷ ts) f = tail f

-- the two lists of a block
places : (xs ys : List Part) → Free (after_first (xs ++ ys)) → Free (after_first xs) × Free (after_first ys)
places [] ys f = (front {xs = []} (after_first ys) f, f)
places (p ∷ xs) ys f = (front _ f, rest ys (back xs f))

part : (e : Exp) → Free (part_of e (whole e)) → Free (whole e)
part (tree.Name s) f = f
part (tree.Num n) f = f
part (tree.Character n) f = f
part (tree.Text s) f = f
part tree.True f = f
part tree.False f = f
part (tree.Table ks) f = front _ (tail f)
part (tree.Valof b) f = front _ (tail f)
part (tree.Unary m e) f = front _ (tail f)
part (tree.Bin o l r) f = front _ (tail f)
part (tree.Cond c x y) f = front _ (tail f)
part (tree.Call g es) f = front _ (tail f)

routine : (e : Exp) → Free (routine_of e (whole e)) → Free (whole e)
routine (tree.Name s) f = f
routine (tree.Num n) f = front _ (tail f)
routine (tree.Character n) f = front _ (tail f)
routine (tree.Text s) f = front _ (tail f)
routine tree.True f = front _ (tail f)
routine tree.False f = front _ (tail f)
routine (tree.Table ks) f = front _ (tail f)
routine (tree.Valof b) f = front _ (tail f)
routine (tree.Unary m e) f = front _ (tail f)
routine (tree.Bin o l r) f = front _ (tail f)
routine (tree.Cond c x y) f = front _ (tail f)
routine (tree.Call g es) f = front _ (tail f)

-- ---- VALOF before a REPEAT word

no_valof : (e : Exp) (s : Symbol) (ts : List Part) → IsRepeatWord s → Free (whole e ++ A s ∷ ts) → IsNoValof e
no_valof (tree.Valof b) s ts word f = f.holds [] ts b s word refl
no_valof (tree.Name n) s ts word f = tt
no_valof (tree.Num n) s ts word f = tt
no_valof (tree.Character n) s ts word f = tt
no_valof (tree.Text n) s ts word f = tt
no_valof tree.True s ts word f = tt
no_valof tree.False s ts word f = tt
no_valof (tree.Table ks) s ts word f = tt
no_valof (tree.Unary m e) s ts word f = tt
no_valof (tree.Bin o l r) s ts word f = tt
no_valof (tree.Cond c x y) s ts word f = tt
no_valof (tree.Call g es) s ts word f = tt

no_valof_end : (c : Command) (s : Symbol) (ts : List Part) → IsRepeatWord s → Free (command_spelling c ++ A s ∷ ts) → EndsInNoValof c
no_valof_end (tree.ResultIs e) s ts word f = no_valof e s ts word (tail f)
no_valof_end (tree.RepeatWhile c e) s ts word f = no_valof e s ts word (tail (back (command_spelling c) (subst Free (append_assoc (command_spelling c) (A sign.RepeatWhile ∷ whole e) (A s ∷ ts)) f)))
no_valof_end (tree.RepeatUntil c e) s ts word f = no_valof e s ts word (tail (back (command_spelling c) (subst Free (append_assoc (command_spelling c) (A sign.RepeatUntil ∷ whole e) (A s ∷ ts)) f)))
no_valof_end _ s ts word f = tt

-- ---- trees

mutual
  exp_free : (e : Exp) → FormedExp Any e → Free (whole e) → FormedExp EndsInNoValof e
  exp_free (tree.Name s) formed f = tt
  exp_free (tree.Num n) formed f = tt
  exp_free (tree.Character n) formed f = tt
  exp_free (tree.Text s) formed f = tt
  exp_free tree.True formed f = tt
  exp_free tree.False formed f = tt
  exp_free (tree.Table ks) formed f = (formed.0, exps_free ks formed.1 (tail f))
  exp_free (tree.Valof b) formed f = block_free b formed (tail f)
  exp_free (tree.Unary m e) formed f = exp_free e formed (part e (tail f))
  exp_free (tree.Bin o l r) formed f = (exp_free l formed.0 (part l (front _ f)), exp_free r formed.1 (part r (tail (back (part_of l (whole l)) f))))
  exp_free (tree.Cond c x y) formed f =
      let g = tail (back (part_of c (whole c)) f) in
      (exp_free c formed.0 (part c (front _ f)), exp_free x formed.1 (part x (front _ g)), exp_free y formed.2 (part y (tail (back (part_of x (whole x)) g))))
  exp_free (tree.Call g es) formed f = (exp_free g formed.0 (routine g (front _ f)), exps_free es formed.1 (front _ (tail (back (routine_of g (whole g)) f))))

  exps_free : (es : Exps) → FormedExps Any es → Free (after_first (after_commas es)) → FormedExps EndsInNoValof es
  exps_free none formed f = tt
  exps_free (more e es) formed f = (exp_free e formed.0 (part e (front _ f)), exps_free es formed.1 (rest (after_commas es) (back (part_of e (whole e)) f)))

  block_free : (b : Block) → FormedBlock Any b → Free (block_spelling b) → FormedBlock EndsInNoValof b
  block_free (block ds is) formed f =
      let both = places (declarations_spelling ds) (items_spelling is) (front _ (tail f)) in
      (declarations_free ds formed.0 both.0, items_free is formed.1 both.1)

  pub declarations_free : (ds : Declarations) → FormedDeclarations Any ds → Free (after_first (declarations_spelling ds)) → FormedDeclarations EndsInNoValof ds
  declarations_free no_declarations formed f = tt
  declarations_free (declaration d ds) formed f = (declaration_free d formed.0 (front _ f), declarations_free ds formed.1 (rest (declarations_spelling ds) (back (declaration_spelling d) f)))

  declaration_free : (d : Declaration) → FormedDeclaration Any d → Free (declaration_spelling d) → FormedDeclaration EndsInNoValof d
  declaration_free (tree.Constants s es) formed f = entries_free (entry_sign s) es formed (front _ (tail (tail f)))
  declaration_free (tree.Let ds) formed f = (formed.0, definitions_free ds formed.1 (tail f))

  entries_free : (s : Symbol) (es : Entries) → FormedEntries Any es → Free (after_first (entries_spelling s es)) → FormedEntries EndsInNoValof es
  entries_free s no_entries formed f = tt
  entries_free s (entry n k es) formed f = let g = tail (tail f) in (exp_free k formed.0 (part k (front _ g)), entries_free s es formed.1 (rest (entries_spelling s es) (back (part_of k (whole k)) g)))

  definitions_free : (ds : Definitions) → FormedDefinitions Any ds → Free (after_first (definitions_spelling ds)) → FormedDefinitions EndsInNoValof ds
  definitions_free no_definitions formed f = tt
  definitions_free (definition d ds) formed f = (definition_free d formed.0 (front _ f), definitions_free ds formed.1 (rest (definitions_spelling ds) (back (definition_spelling d) f)))

  definition_free : (d : Definition) → FormedDefinition Any d → Free (definition_spelling d) → FormedDefinition EndsInNoValof d
  definition_free (tree.Variables ns es) formed f = (formed.0, formed.1, exps_free es formed.2 (tail (back (named ns) f)))
  definition_free (tree.Vector n k) formed f = exp_free k formed (part k (tail (tail (tail f))))
  definition_free (tree.Function n ps e) formed f = exp_free e formed (tail (back (in_round (named ps)) (tail f)))
  definition_free (tree.Routine n ps b) formed f = block_free b formed (tail (back (in_round (named ps)) (tail f)))

  items_free : (is : Items) → FormedItems Any is → Free (after_first (items_spelling is)) → FormedItems EndsInNoValof is
  items_free no_items formed f = tt
  items_free (item i is) formed f = (item_free i formed.0 (front _ f), items_free is formed.1 (rest (items_spelling is) (back (item_spelling i) f)))

  item_free : (i : Item) → FormedItem Any i → Free (item_spelling i) → FormedItem EndsInNoValof i
  item_free (Labelled ls c) formed f = (labels_free ls formed.0 (front _ f), command_free c formed.1 (back (labels_spelling ls) f))
  item_free (Labels_alone ls) formed f = (formed.0, labels_free ls formed.1 f)

  labels_free : (ls : Labels) → FormedLabels Any ls → Free (labels_spelling ls) → FormedLabels EndsInNoValof ls
  labels_free no_labels formed f = tt
  labels_free (label l ls) formed f = (label_free l formed.0 (front _ f), labels_free ls formed.1 (back (label_spelling l) f))

  label_free : (l : Label) → FormedLabel Any l → Free (label_spelling l) → FormedLabel EndsInNoValof l
  label_free (tree.Case k) formed f = exp_free k formed (part k (front _ (tail f)))
  label_free tree.Default formed f = tt
  label_free (tree.Named n) formed f = tt

  command_free : (c : Command) → FormedCommand Any c → Free (command_spelling c) → FormedCommand EndsInNoValof c
  command_free (tree.Assign xs es) formed f = (formed.0, formed.1, exps_free xs formed.2 (front _ f), exps_free es formed.3 (tail (back (after_first (after_commas xs)) f)))
  command_free (tree.Do g es) formed f = (exp_free g formed.0 (routine g (front _ f)), exps_free es formed.1 (front _ (tail (back (routine_of g (whole g)) f))))
  command_free (tree.Compound b) formed f = block_free b formed f
  command_free tree.Break formed f = tt
  command_free tree.Loop formed f = tt
  command_free tree.EndCase formed f = tt
  command_free tree.Return formed f = tt
  command_free tree.Finish formed f = tt
  command_free (tree.ResultIs e) formed f = exp_free e formed (tail f)
  command_free (tree.Goto n) formed f = tt
  command_free (tree.Repeat c) formed f = (formed.0, no_valof_end c sign.Repeat [] repeat f, command_free c formed.2 (front _ f))
  command_free (tree.RepeatWhile c e) formed f = (formed.0, no_valof_end c sign.RepeatWhile (whole e) repeat_while f, command_free c formed.2 (front _ f), exp_free e formed.3 (tail (back (command_spelling c) f)))
  command_free (tree.RepeatUntil c e) formed f = (formed.0, no_valof_end c sign.RepeatUntil (whole e) repeat_until f, command_free c formed.2 (front _ f), exp_free e formed.3 (tail (back (command_spelling c) f)))
  command_free (tree.If e b) formed f = let g = tail f in (exp_free e formed.0 (front _ g), block_free b formed.1 (tail (back (whole e) g)))
  command_free (tree.Unless e b) formed f = let g = tail f in (exp_free e formed.0 (front _ g), block_free b formed.1 (tail (back (whole e) g)))
  command_free (tree.While e b) formed f = let g = tail f in (exp_free e formed.0 (front _ g), block_free b formed.1 (tail (back (whole e) g)))
  command_free (tree.Until e b) formed f = let g = tail f in (exp_free e formed.0 (front _ g), block_free b formed.1 (tail (back (whole e) g)))
  command_free (tree.Test e b d) formed f =
      let g = tail (back (whole e) (tail f)) in
      (exp_free e formed.0 (front _ (tail f)), block_free b formed.1 (front _ g), block_free d formed.2 (tail (back (block_spelling b) g)))
  command_free (tree.For n a z b) formed f =
      let g = tail (tail (tail f)) in
      let h = tail (back (whole a) g) in
      (exp_free a formed.0 (front _ g), exp_free z formed.1 (front _ h), block_free b formed.2 (tail (back (whole z) h)))
  command_free (tree.ForBy n a z k b) formed f =
      let g = tail (tail (tail f)) in
      let h = tail (back (whole a) g) in
      let i = tail (back (whole z) h) in
      (exp_free a formed.0 (front _ g), exp_free z formed.1 (front _ h), exp_free k formed.2 (part k (front _ i)), block_free b formed.3 (tail (back (part_of k (whole k)) i)))
  command_free (tree.SwitchOn e is) formed f = let g = tail f in (exp_free e formed.0 (front _ g), items_free is formed.1 (front _ (tail (tail (back (whole e) g)))))
