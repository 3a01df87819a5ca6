-- The canonical spelling of a tree opens as many parentheses at once as `Rounds` says, and closes all brackets.
use Rattle.std.proofs.Common.{◌≡◌, ℕ, zero, suc, ◌-◌, ◌+◌, ◌≤◌, Bool, true, false, Option, Some, None, ◌∙◌, List, [], ◌∷◌, ◌++◌, max, refl, sym, ap, append_assoc, arith}
use Rattle.std.proofs.lemmas.List.{append-nil}
use Rattle.bc_lex_tokens.specs.declared.symbol.Symbol.TheVariants as sign
use Rattle.bc_parse_tree.specs.declared.tree.BinaryOp as code_binary
use Rattle.bc_parse_tree.specs.declared.tree.BinaryOp.TheVariants as binary
use Rattle.bc_parse_tree.specs.declared.tree.UnaryOp as code_unary
use Rattle.bc_parse_tree.specs.declared.tree.UnaryOp.TheVariants as unary
use Rattle.bc_parse_tree.specs.declared.tree.Storage.{Storage}
use Rattle.bc_parse_tree.specs.declared.tree.Storage.TheVariants as storage
use Rattle.bc_parse_tree.specs.Parts.{Part, A, Name, Number, Character, String, NewLine}
use Rattle.bc_parse_tree.specs.Tree.{Exp, Exps, none, more, Block, block, Declaration, Declarations, no_declarations, declaration, Entries, no_entries, entry, Definition, Definitions, no_definitions, definition, Item, Labelled, Labels_alone, Items, no_items, item, Label, Labels, no_labels, label, Command}
use Rattle.bc_parse_tree.specs.Tree as tree
use Rattle.bc_parse_tree.specs.Operators.{binary_sign, unary_sign, storage_sign}
use Rattle.bc_parse_tree.specs.Spelling.{in_round, named}
use Rattle.bc_parse_tree.specs.Canonical.{part_of, routine_of, entry_sign, after_first, whole, after_commas, block_spelling, declarations_spelling, declaration_spelling, entries_spelling, definitions_spelling, definition_spelling, items_spelling, item_spelling, labels_spelling, label_spelling, command_spelling, section_spelling}
use Rattle.bc_parse_laws.specs.Open.{most_open}
use Rattle.bc_parse_laws.proofs.Rounds.{part_rounds, routine_rounds, exp_rounds, exps_rounds, block_rounds, declaration_rounds, declarations_rounds, entries_rounds, definition_rounds, definitions_rounds, item_rounds, items_rounds, label_rounds, labels_rounds, command_rounds}

-- ---- lists of parts

at_least : (k : ℕ) (ts : List Part) → k ≤ most_open k ts
at_least k [] = omega arith
at_least k (Name n ∷ ts) = at_least k ts
at_least k (Number n ∷ ts) = at_least k ts
at_least k (Character n ∷ ts) = at_least k ts
at_least k (String n ∷ ts) = at_least k ts
at_least k (NewLine ∷ ts) = at_least k ts
at_least k (A sign.OpenBracket ∷ ts) = omega (arith, at_least (k + 1) ts)
at_least k (A sign.CloseBracket ∷ ts) = omega arith
at_least k (A _ ∷ ts) = at_least k ts

-- how many sections are open after these parts, if `k` are open before them
abbrev pub left_open : List Part → ℕ → Option ℕ
left_open [] k = Some k
left_open (A sign.OpenSection ∷ ts) k = left_open ts (suc k)
left_open (A sign.CloseSection ∷ ts) zero = None
left_open (A sign.CloseSection ∷ ts) (suc k) = left_open ts k
left_open (p ∷ ts) k = left_open ts k

-- these parts open at least `r` parentheses at once, and close all brackets that they open
pub record Opens (xs : List Part) (r : ℕ) : Type 0 where
  pub reach : (k : ℕ) (ts : List Part) → k + r ≤ most_open k (xs ++ ts)
  pub remaining : (k : ℕ) (ts : List Part) → most_open k ts ≤ most_open k (xs ++ ts)
  pub sections : (k : ℕ) (ts : List Part) → left_open (xs ++ ts) k ≡ left_open ts k

-- a part that is no bracket
abbrev pub is_plain : Part → Bool
is_plain (A sign.OpenBracket) = false
is_plain (A sign.CloseBracket) = false
is_plain (A sign.OpenSection) = false
is_plain (A sign.CloseSection) = false
is_plain _ = true

abbrev pub Plain : Part → Type 0
Plain p = is_plain p ≡ true

opens_none : (p : Part) → Plain p → (k : ℕ) (ts : List Part) → most_open k (p ∷ ts) ≡ most_open k ts
opens_none (A sign.OpenBracket) plain k ts = absurd cc
opens_none (A sign.CloseBracket) plain k ts = absurd cc
opens_none (A _) plain k ts = refl
opens_none (Name n) plain k ts = refl
opens_none (Number n) plain k ts = refl
opens_none (Character n) plain k ts = refl
opens_none (String n) plain k ts = refl
opens_none NewLine plain k ts = refl

opens_no_section : (p : Part) → Plain p → (k : ℕ) (ts : List Part) → left_open (p ∷ ts) k ≡ left_open ts k
opens_no_section (A sign.OpenSection) plain k ts = absurd cc
opens_no_section (A sign.CloseSection) plain k ts = absurd cc
opens_no_section (A _) plain k ts = refl
opens_no_section (Name n) plain k ts = refl
opens_no_section (Number n) plain k ts = refl
opens_no_section (Character n) plain k ts = refl
opens_no_section (String n) plain k ts = refl
opens_no_section NewLine plain k ts = refl

nothing : Opens [] 0
nothing = record { reach = λ k ts. omega (arith, at_least k ts); remaining = λ k ts. omega arith; sections = λ k ts. refl }

join : {xs ys : List Part} {r q : ℕ} → Opens xs r → Opens ys q → Opens (xs ++ ys) (max r q)
join {xs} {ys} {r} {q} f g = record {
  reach = λ k ts. rw (append_assoc xs ys ts) (omega (arith, f.reach k (ys ++ ts), f.remaining k (ys ++ ts), g.reach k ts));
  remaining = λ k ts. rw (append_assoc xs ys ts) (omega (arith, f.remaining k (ys ++ ts), g.remaining k ts));
  sections = λ k ts. rw (append_assoc xs ys ts) (f.sections k (ys ++ ts) ∙ g.sections k ts);
}

less : {xs : List Part} {r : ℕ} (q : ℕ) → q ≤ r → Opens xs r → Opens xs q
less q le f = record { reach = λ k ts. omega (arith, f.reach k ts); remaining = f.remaining; sections = f.sections }

before : {p : Part} {xs : List Part} {r : ℕ} → Plain p → Opens xs r → Opens (p ∷ xs) r
before {p} {xs} {r} plain f = record {
  reach = λ k ts. omega (arith, opens_none p plain k (xs ++ ts), f.reach k ts);
  remaining = λ k ts. omega (arith, opens_none p plain k (xs ++ ts), f.remaining k ts);
  sections = λ k ts. opens_no_section p plain k (xs ++ ts) ∙ f.sections k ts;
}

without : {p : Part} {xs : List Part} {r : ℕ} → Plain p → Opens (p ∷ xs) r → Opens xs r
without {p} {xs} {r} plain f = record {
  reach = λ k ts. omega (arith, opens_none p plain k (xs ++ ts), f.reach k ts);
  remaining = λ k ts. omega (arith, opens_none p plain k (xs ++ ts), f.remaining k ts);
  sections = λ k ts. sym (opens_no_section p plain k (xs ++ ts)) ∙ f.sections k ts;
}

round : {xs : List Part} {r : ℕ} → Opens xs r → Opens (in_round xs) (r + 1)
round {xs} {r} f = record {
  reach = λ k ts. rw (append_assoc xs (A sign.CloseBracket ∷ []) ts) (omega (arith, f.reach (k + 1) (A sign.CloseBracket ∷ ts)));
  remaining = λ k ts.
      let same : k + 1 - 1 ≡ k = omega arith in
      let back : most_open (k + 1 - 1) ts ≡ most_open k ts = ap (λ (j : ℕ). most_open j ts) same in
      rw (append_assoc xs (A sign.CloseBracket ∷ []) ts) (omega (arith, back, f.remaining (k + 1) (A sign.CloseBracket ∷ ts)));
  sections = λ k ts. rw (append_assoc xs (A sign.CloseBracket ∷ []) ts) (f.sections k (A sign.CloseBracket ∷ ts));
}

section_list : {xs : List Part} {r : ℕ} → Opens xs r → Opens (A sign.OpenSection ∷ (xs ++ A sign.CloseSection ∷ [])) r
section_list {xs} {r} f = record {
  reach = λ k ts. rw (append_assoc xs (A sign.CloseSection ∷ []) ts) (f.reach k (A sign.CloseSection ∷ ts));
  remaining = λ k ts. rw (append_assoc xs (A sign.CloseSection ∷ []) ts) (f.remaining k (A sign.CloseSection ∷ ts));
  sections = λ k ts. rw (append_assoc xs (A sign.CloseSection ∷ []) ts) (f.sections (suc k) (A sign.CloseSection ∷ ts));
}

-- ---- signs and names

pub plain_binary : (o : code_binary.BinaryOp) → Plain (A (binary_sign o))
plain_binary binary.Equivalent = refl
plain_binary binary.NotEquivalent = refl
plain_binary binary.Or = refl
plain_binary binary.And = refl
plain_binary binary.ShiftLeft = refl
plain_binary binary.ShiftRight = refl
plain_binary binary.Equal = refl
plain_binary binary.NotEqual = refl
plain_binary binary.Less = refl
plain_binary binary.GreaterEqual = refl
plain_binary binary.Greater = refl
plain_binary binary.LessEqual = refl
plain_binary binary.Add = refl
plain_binary binary.Subtract = refl
plain_binary binary.Multiply = refl
plain_binary binary.Divide = refl
plain_binary binary.Remainder = refl
plain_binary binary.Index = refl

pub plain_unary : (m : code_unary.UnaryOp) → Plain (A (unary_sign m))
plain_unary unary.Not = refl
plain_unary unary.Neg = refl
plain_unary unary.Load = refl
plain_unary unary.Address = refl

pub plain_storage : (s : Storage) → Plain (A (storage_sign s))
plain_storage storage.Manifest = refl
plain_storage storage.Static = refl
plain_storage storage.Global = refl

pub plain_entry : (s : Storage) → Plain (A (entry_sign s))
plain_entry storage.Manifest = refl
plain_entry storage.Static = refl
plain_entry storage.Global = refl

one_part : {p : Part} → Plain p → Opens (p ∷ []) 0
one_part plain = before plain nothing

names : (ns : List (List ℕ)) → Opens (named ns) 0
names [] = nothing
names (n ∷ []) = one_part refl
names (n ∷ m ∷ ns) = before refl (before refl (names (m ∷ ns)))

-- ---- trees

part_opens : (e : Exp) → Opens (whole e) (exp_rounds e) → Opens (part_of e (whole e)) (part_rounds e (exp_rounds e))
part_opens (tree.Name s) f = f
part_opens (tree.Num n) f = f
part_opens (tree.Character n) f = f
part_opens (tree.Text s) f = f
part_opens tree.True f = f
part_opens tree.False f = f
part_opens (tree.Table ks) f = round f
part_opens (tree.Valof b) f = round f
part_opens (tree.Unary m e) f = round f
part_opens (tree.Bin o l r) f = round f
part_opens (tree.Cond c x y) f = round f
part_opens (tree.Call g es) f = round f

routine_opens : (e : Exp) → Opens (whole e) (exp_rounds e) → Opens (routine_of e (whole e)) (routine_rounds e (exp_rounds e))
routine_opens (tree.Name s) f = f
routine_opens (tree.Num n) f = round f
routine_opens (tree.Character n) f = round f
routine_opens (tree.Text s) f = round f
routine_opens tree.True f = round f
routine_opens tree.False f = round f
routine_opens (tree.Table ks) f = round f
routine_opens (tree.Valof b) f = round f
routine_opens (tree.Unary m e) f = round f
routine_opens (tree.Bin o l r) f = round f
routine_opens (tree.Cond c x y) f = round f
routine_opens (tree.Call g es) f = round f

list_opens : (es : Exps) → Opens (after_commas es) (exps_rounds es) → Opens (after_first (after_commas es)) (exps_rounds es)
list_opens none f = f
list_opens (more e es) f = without refl f

-- a list of a block's parts
places_opens : (ds : Declarations) (is : Items) → Opens (declarations_spelling ds) (declarations_rounds ds) → Opens (items_spelling is) (items_rounds is) → Opens (after_first (declarations_spelling ds ++ items_spelling is)) (max (declarations_rounds ds) (items_rounds is))
places_opens no_declarations no_items f g = less 0 (omega arith) nothing
places_opens no_declarations (item i is) f g = less (max 0 (items_rounds (item i is))) (omega arith) (without refl g)
places_opens (declaration d ds) is f g = without refl (join f g)

mutual
  whole_opens : (e : Exp) → Opens (whole e) (exp_rounds e)
  whole_opens (tree.Name s) = one_part refl
  whole_opens (tree.Num n) = one_part refl
  whole_opens (tree.Character n) = one_part refl
  whole_opens (tree.Text s) = one_part refl
  whole_opens tree.True = one_part refl
  whole_opens tree.False = one_part refl
  whole_opens (tree.Table ks) = before refl (list_opens ks (commas_open ks))
  whole_opens (tree.Valof b) = before refl (block_opens b)
  whole_opens (tree.Unary m e) = before (plain_unary m) (part_opens e (whole_opens e))
  whole_opens (tree.Bin o l r) = join (part_opens l (whole_opens l)) (before (plain_binary o) (part_opens r (whole_opens r)))
  whole_opens (tree.Cond c x y) =
      less (exp_rounds (tree.Cond c x y)) (omega arith) (join (part_opens c (whole_opens c)) (before refl (join (part_opens x (whole_opens x)) (before refl (part_opens y (whole_opens y))))))
  whole_opens (tree.Call f es) = join (routine_opens f (whole_opens f)) (round (list_opens es (commas_open es)))

  commas_open : (es : Exps) → Opens (after_commas es) (exps_rounds es)
  commas_open none = nothing
  commas_open (more e es) = before refl (join (part_opens e (whole_opens e)) (commas_open es))

  block_opens : (b : Block) → Opens (block_spelling b) (block_rounds b)
  block_opens (block ds is) = section_list (places_opens ds is (declarations_open ds) (items_open is))

  pub declarations_open : (ds : Declarations) → Opens (declarations_spelling ds) (declarations_rounds ds)
  declarations_open no_declarations = nothing
  declarations_open (declaration d ds) = before refl (join (declaration_opens d) (declarations_open ds))

  declaration_opens : (d : Declaration) → Opens (declaration_spelling d) (declaration_rounds d)
  declaration_opens (tree.Constants s no_entries) = before (plain_storage s) (section_list nothing)
  declaration_opens (tree.Constants s (entry n k es)) = before (plain_storage s) (section_list (without refl (entries_open s (entry n k es))))
  declaration_opens (tree.Let no_definitions) = one_part refl
  declaration_opens (tree.Let (definition d ds)) = before refl (without refl (definitions_open (definition d ds)))

  entries_open : (s : Storage) (es : Entries) → Opens (entries_spelling (entry_sign s) es) (entries_rounds es)
  entries_open s no_entries = nothing
  entries_open s (entry n k es) = before refl (before refl (before (plain_entry s) (join (part_opens k (whole_opens k)) (entries_open s es))))

  definitions_open : (ds : Definitions) → Opens (definitions_spelling ds) (definitions_rounds ds)
  definitions_open no_definitions = nothing
  definitions_open (definition d ds) = before refl (join (definition_opens d) (definitions_open ds))

  definition_opens : (d : Definition) → Opens (definition_spelling d) (definition_rounds d)
  definition_opens (tree.Variables ns es) = less (exps_rounds es) (omega arith) (join (names ns) (before refl (list_opens es (commas_open es))))
  definition_opens (tree.Vector n k) = before refl (before refl (before refl (part_opens k (whole_opens k))))
  definition_opens (tree.Function n ps e) = less (max 1 (exp_rounds e)) (omega arith) (before refl (join (round (names ps)) (before refl (whole_opens e))))
  definition_opens (tree.Routine n ps b) = less (max 1 (block_rounds b)) (omega arith) (before refl (join (round (names ps)) (before refl (block_opens b))))

  items_open : (is : Items) → Opens (items_spelling is) (items_rounds is)
  items_open no_items = nothing
  items_open (item i is) = before refl (join (item_opens i) (items_open is))

  item_opens : (i : Item) → Opens (item_spelling i) (item_rounds i)
  item_opens (Labelled ls c) = join (labels_open ls) (command_opens c)
  item_opens (Labels_alone ls) = labels_open ls

  labels_open : (ls : Labels) → Opens (labels_spelling ls) (labels_rounds ls)
  labels_open no_labels = nothing
  labels_open (label l ls) = join (label_opens l) (labels_open ls)

  label_opens : (l : Label) → Opens (label_spelling l) (label_rounds l)
  label_opens (tree.Case k) = less (part_rounds k (exp_rounds k)) (omega arith) (before refl (join (part_opens k (whole_opens k)) (one_part refl)))
  label_opens tree.Default = before refl (one_part refl)
  label_opens (tree.Named n) = before refl (one_part refl)

  command_opens : (c : Command) → Opens (command_spelling c) (command_rounds c)
  command_opens (tree.Assign xs es) = join (list_opens xs (commas_open xs)) (before refl (list_opens es (commas_open es)))
  command_opens (tree.Do f es) = join (routine_opens f (whole_opens f)) (round (list_opens es (commas_open es)))
  command_opens (tree.Compound b) = block_opens b
  command_opens tree.Break = one_part refl
  command_opens tree.Loop = one_part refl
  command_opens tree.EndCase = one_part refl
  command_opens tree.Return = one_part refl
  command_opens tree.Finish = one_part refl
  command_opens (tree.ResultIs e) = before refl (whole_opens e)
  command_opens (tree.Goto n) = before refl (one_part refl)
  command_opens (tree.Repeat c) = less (command_rounds c) (omega arith) (join (command_opens c) (one_part refl))
  command_opens (tree.RepeatWhile c e) = join (command_opens c) (before refl (whole_opens e))
  command_opens (tree.RepeatUntil c e) = join (command_opens c) (before refl (whole_opens e))
  command_opens (tree.If e b) = before refl (join (whole_opens e) (before refl (block_opens b)))
  command_opens (tree.Unless e b) = before refl (join (whole_opens e) (before refl (block_opens b)))
  command_opens (tree.While e b) = before refl (join (whole_opens e) (before refl (block_opens b)))
  command_opens (tree.Until e b) = before refl (join (whole_opens e) (before refl (block_opens b)))
  command_opens (tree.Test e b d) = less (command_rounds (tree.Test e b d)) (omega arith) (before refl (join (whole_opens e) (before refl (join (block_opens b) (before refl (block_opens d))))))
  command_opens (tree.For n a z b) =
      less (command_rounds (tree.For n a z b)) (omega arith) (before refl (before refl (before refl (join (whole_opens a) (before refl (join (whole_opens z) (before refl (block_opens b))))))))
  command_opens (tree.ForBy n a z k b) =
      less (command_rounds (tree.ForBy n a z k b)) (omega arith) (before refl (before refl (before refl (join (whole_opens a) (before refl (join (whole_opens z) (before refl (join (part_opens k (whole_opens k)) (before refl (block_opens b))))))))))
  command_opens (tree.SwitchOn e is) = before refl (join (whole_opens e) (before refl (section_list (cases_open is (items_open is)))))

  cases_open : (is : Items) → Opens (items_spelling is) (items_rounds is) → Opens (after_first (items_spelling is)) (items_rounds is)
  cases_open no_items f = f
  cases_open (item i is) f = without refl f

section_opens : (ds : Declarations) → Opens (section_spelling ds) (declarations_rounds ds)
section_opens no_declarations = nothing
section_opens (declaration d ds) = without refl (declarations_open (declaration d ds))

pub rounds_are_open : (ds : Declarations) → declarations_rounds ds ≤ most_open 0 (section_spelling ds)
rounds_are_open ds = rw (← append-nil (section_spelling ds)) (omega (arith, (section_opens ds).reach 0 []))

pub sections_are_closed : (ds : Declarations) → left_open (section_spelling ds) 0 ≡ Some 0
sections_are_closed ds = ap (λ (ts : List Part). left_open ts 0) (sym (append-nil (section_spelling ds))) ∙ (section_opens ds).sections 0 []
