-- A canonical spelling has at most one operator in each pair of parentheses, and in each expression that needs none.
use Rattle.std.proofs.Common.{◌≡◌, ℕ, ◌+◌, ◌≤◌, List, [], ◌∷◌, ◌++◌, max, refl, ap, append_assoc, arith}
use Rattle.std.proofs.lemmas.List.{append-nil}
use Rattle.bc_lex_tokens.specs.declared.symbol.Symbol.{Symbol}
use Rattle.bc_lex_tokens.specs.declared.symbol.Symbol.TheVariants as sign
use Rattle.bc_parse_tree.specs.Parts.{Part, A, Name, Number, Character, String, NewLine}
use Rattle.bc_parse_tree.specs.Tree.{Exp, Exps, none, more, Block, block, Declaration, Declarations, no_declarations, declaration, Entries, no_entries, entry, Definition, Definitions, no_definitions, definition, Item, Labelled, Labels_alone, Items, no_items, item, Label, Labels, no_labels, label, Command}
use Rattle.bc_parse_tree.specs.Tree as tree
use Rattle.bc_parse_tree.specs.Operators.{binary_sign, unary_sign}
use Rattle.bc_parse_tree.specs.Spelling.{in_round, named}
use Rattle.bc_parse_tree.specs.Canonical.{part_of, routine_of, entry_sign, after_first, whole, after_commas, block_spelling, declarations_spelling, declaration_spelling, entries_spelling, definitions_spelling, definition_spelling, items_spelling, item_spelling, labels_spelling, label_spelling, command_spelling, section_spelling}
use Rattle.bc_parse_laws.specs.Held.{operators, add_to, most_held}
use Rattle.bc_parse_laws.proofs.Balance.{Plain, plain_binary, plain_unary, plain_storage, plain_entry}

-- ---- lists of parts

add_none : (held : List ℕ) → add_to 0 held ≡ held
add_none [] = refl
add_none (k ∷ held) = let same : k + 0 ≡ k = omega arith in ap (λ (j : ℕ). j ∷ held) same

add_both : (n m : ℕ) (held : List ℕ) → add_to m (add_to n held) ≡ add_to (n + m) held
add_both n m [] = refl
add_both n m (k ∷ held) = let same : k + n + m ≡ k + (n + m) = omega arith in ap (λ (j : ℕ). j ∷ held) same

few : (p : Part) → operators p ≤ 1
few (A sign.Arrow) = omega arith
few (A sign.Equivalent) = omega arith
few (A sign.NotEquivalent) = omega arith
few (A sign.LogicalOr) = omega arith
few (A sign.LogicalAnd) = omega arith
few (A sign.Not) = omega arith
few (A sign.ShiftLeft) = omega arith
few (A sign.ShiftRight) = omega arith
few (A sign.Equal) = omega arith
few (A sign.NotEqual) = omega arith
few (A sign.Less) = omega arith
few (A sign.GreaterEqual) = omega arith
few (A sign.Greater) = omega arith
few (A sign.LessEqual) = omega arith
few (A sign.Plus) = omega arith
few (A sign.Minus) = omega arith
few (A sign.Multiply) = omega arith
few (A sign.Divide) = omega arith
few (A sign.Remainder) = omega arith
few (A sign.Indirection) = omega arith
few (A sign.AddressOf) = omega arith
few (A _) = omega arith
few (Name n) = omega arith
few (Number n) = omega arith
few (Character n) = omega arith
few (String n) = omega arith
few NewLine = omega arith

counts_one : (p : Part) → Plain p → (held : List ℕ) (ts : List Part) → most_held held (p ∷ ts) ≡ most_held (add_to (operators p) held) ts
counts_one (A sign.OpenBracket) plain held ts = absurd cc
counts_one (A sign.CloseBracket) plain held ts = absurd cc
counts_one (A sign.OpenSection) plain held ts = absurd cc
counts_one (A sign.CloseSection) plain held ts = absurd cc
counts_one (A _) plain held ts = refl
counts_one (Name n) plain held ts = refl
counts_one (Number n) plain held ts = refl
counts_one (Character n) plain held ts = refl
counts_one (String n) plain held ts = refl
counts_one NewLine plain held ts = refl

-- each pair of parentheses in these parts holds at most one operator, and `n` operators are outside parentheses
pub record Holds (xs : List Part) (n : ℕ) : Type 0 where
  pub at_most : (held : List ℕ) (ts : List Part) → most_held held (xs ++ ts) ≤ max 1 (most_held (add_to n held) ts)

nothing : Holds [] 0
nothing = record { at_most = λ held ts. let same = ap (λ (h : List ℕ). most_held h ts) (add_none held) in omega arith }

before : {p : Part} {xs : List Part} {n : ℕ} → Plain p → Holds xs n → Holds (p ∷ xs) (operators p + n)
before {p} {xs} {n} plain f = record {
  at_most = λ held ts.
      let both = ap (λ (h : List ℕ). most_held h ts) (add_both (operators p) n held) in
      omega (arith, counts_one p plain held (xs ++ ts), f.at_most (add_to (operators p) held) ts);
}

join : {xs ys : List Part} {n m : ℕ} → Holds xs n → Holds ys m → Holds (xs ++ ys) (n + m)
join {xs} {ys} {n} {m} f g = record {
  at_most = λ held ts.
      let both = ap (λ (h : List ℕ). most_held h ts) (add_both n m held) in
      rw (append_assoc xs ys ts) (omega (arith, f.at_most held (ys ++ ts), g.at_most (add_to n held) ts));
}

round : {xs : List Part} {n : ℕ} → n ≤ 1 → Holds xs n → Holds (in_round xs) 0
round {xs} {n} one f = record {
  at_most = λ held ts.
      let same = ap (λ (h : List ℕ). most_held h ts) (add_none held) in
      rw (append_assoc xs (A sign.CloseBracket ∷ []) ts) (omega (arith, f.at_most (0 ∷ held) (A sign.CloseBracket ∷ ts)));
}

section_list : {xs : List Part} {n : ℕ} → Holds xs n → Holds (A sign.OpenSection ∷ (xs ++ A sign.CloseSection ∷ [])) 0
section_list {xs} {n} f = record {
  at_most = λ held ts.
      let same = ap (λ (h : List ℕ). most_held h ts) (add_none held) in
      rw (append_assoc xs (A sign.CloseSection ∷ []) ts) (omega (arith, f.at_most (0 ∷ held) (A sign.CloseSection ∷ ts)));
}

names : (ns : List (List ℕ)) → Holds (named ns) 0
names [] = nothing
names (n ∷ []) = before refl nothing
names (n ∷ m ∷ ns) = before refl (before refl (names (m ∷ ns)))

-- the same, with at most one operator outside
pub record HoldsFew (xs : List Part) : Type 0 where
  pub count : ℕ
  pub is_few : count ≤ 1
  pub holds : Holds xs count

no_operator : {xs : List Part} → Holds xs 0 → HoldsFew xs
no_operator f = record { count = 0; is_few = omega arith; holds = f }

bracketed : {xs : List Part} → HoldsFew xs → Holds (in_round xs) 0
bracketed f = round f.is_few f.holds

-- the same, with any number outside
pub record HoldsAny (xs : List Part) : Type 0 where
  pub count : ℕ
  pub holds : Holds xs count

any : {xs : List Part} {n : ℕ} → Holds xs n → HoldsAny xs
any {xs} {n} f = record { count = n; holds = f }

remaining : {p : Part} {xs : List Part} → Plain p → HoldsAny xs → HoldsAny (p ∷ xs)
remaining plain f = any (before plain f.holds)

both : {xs ys : List Part} → HoldsAny xs → HoldsAny ys → HoldsAny (xs ++ ys)
both f g = any (join f.holds g.holds)

in_section : {xs : List Part} → HoldsAny xs → Holds (A sign.OpenSection ∷ (xs ++ A sign.CloseSection ∷ [])) 0
in_section f = section_list f.holds

-- ---- expressions

part_holds : (e : Exp) → HoldsFew (whole e) → Holds (part_of e (whole e)) 0
part_holds (tree.Name s) f = before refl nothing
part_holds (tree.Num n) f = before refl nothing
part_holds (tree.Character n) f = before refl nothing
part_holds (tree.Text s) f = before refl nothing
part_holds tree.True f = before refl nothing
part_holds tree.False f = before refl nothing
part_holds (tree.Table ks) f = bracketed f
part_holds (tree.Valof b) f = bracketed f
part_holds (tree.Unary m e) f = bracketed f
part_holds (tree.Bin o l r) f = bracketed f
part_holds (tree.Cond c x y) f = bracketed f
part_holds (tree.Call g es) f = bracketed f

routine_holds : (e : Exp) → HoldsFew (whole e) → Holds (routine_of e (whole e)) 0
routine_holds (tree.Name s) f = before refl nothing
routine_holds (tree.Num n) f = bracketed f
routine_holds (tree.Character n) f = bracketed f
routine_holds (tree.Text s) f = bracketed f
routine_holds tree.True f = bracketed f
routine_holds tree.False f = bracketed f
routine_holds (tree.Table ks) f = bracketed f
routine_holds (tree.Valof b) f = bracketed f
routine_holds (tree.Unary m e) f = bracketed f
routine_holds (tree.Bin o l r) f = bracketed f
routine_holds (tree.Cond c x y) f = bracketed f
routine_holds (tree.Call g es) f = bracketed f

-- expressions, each preceded by a comma, and the same without the first comma
record ListHolds (es : Exps) : Type 0 where
  with_first : Holds (after_commas es) 0
  without_first : Holds (after_first (after_commas es)) 0

one_more : (e : Exp) (es : Exps) → Holds (part_of e (whole e)) 0 → ListHolds es → ListHolds (more e es)
one_more e es f fs = record { with_first = before refl (join f fs.with_first); without_first = join f fs.with_first }

-- ---- trees: lists of a section or a block, each with its separator and without the first one

record RowHolds (xs : List Part) : Type 0 where
  with_first : HoldsAny xs
  without_first : HoldsAny (after_first xs)

no_row : RowHolds []
no_row = record { with_first = any nothing; without_first = any nothing }

row : {p : Part} {xs ys : List Part} → Plain p → HoldsAny xs → RowHolds ys → RowHolds (p ∷ (xs ++ ys))
row plain f fs = record { with_first = remaining plain (both f fs.with_first); without_first = both f fs.with_first }

block_row : (xs ys : List Part) → RowHolds xs → RowHolds ys → HoldsAny (after_first (xs ++ ys))
block_row [] ys f g = g.without_first
block_row (p ∷ xs) ys f g = both f.without_first g.with_first

mutual
  whole_holds : (e : Exp) → HoldsFew (whole e)
  whole_holds (tree.Name s) = no_operator (before refl nothing)
  whole_holds (tree.Num n) = no_operator (before refl nothing)
  whole_holds (tree.Character n) = no_operator (before refl nothing)
  whole_holds (tree.Text s) = no_operator (before refl nothing)
  whole_holds tree.True = no_operator (before refl nothing)
  whole_holds tree.False = no_operator (before refl nothing)
  whole_holds (tree.Table ks) = no_operator (before refl (list_holds ks).without_first)
  whole_holds (tree.Valof b) = no_operator (before refl (block_holds b))
  whole_holds (tree.Unary m e) = record { count = operators (A (unary_sign m)) + 0; is_few = omega (arith, few (A (unary_sign m))); holds = before (plain_unary m) (part_holds e (whole_holds e)) }
  whole_holds (tree.Bin o l r) = record {
    count = 0 + (operators (A (binary_sign o)) + 0);
    is_few = omega (arith, few (A (binary_sign o)));
    holds = join (part_holds l (whole_holds l)) (before (plain_binary o) (part_holds r (whole_holds r)));
  }
  whole_holds (tree.Cond c x y) = record {
    count = 1;
    is_few = omega arith;
    holds = join (part_holds c (whole_holds c)) (before refl (join (part_holds x (whole_holds x)) (before refl (part_holds y (whole_holds y)))));
  }
  whole_holds (tree.Call f es) = no_operator (join (routine_holds f (whole_holds f)) (round (omega arith) (list_holds es).without_first))

  list_holds : (es : Exps) → ListHolds es
  list_holds none = record { with_first = nothing; without_first = nothing }
  list_holds (more e es) = one_more e es (part_holds e (whole_holds e)) (list_holds es)

  block_holds : (b : Block) → Holds (block_spelling b) 0
  block_holds (block ds is) = in_section (block_row (declarations_spelling ds) (items_spelling is) (declarations_hold ds) (items_hold is))

  declarations_hold : (ds : Declarations) → RowHolds (declarations_spelling ds)
  declarations_hold no_declarations = no_row
  declarations_hold (declaration d ds) = row refl (declaration_holds d) (declarations_hold ds)

  declaration_holds : (d : Declaration) → HoldsAny (declaration_spelling d)
  declaration_holds (tree.Constants s es) = remaining (plain_storage s) (any (in_section (entries_hold (entry_sign s) (plain_entry s) es).without_first))
  declaration_holds (tree.Let ds) = remaining refl (definitions_hold ds).without_first

  entries_hold : (s : Symbol) → Plain (A s) → (es : Entries) → RowHolds (entries_spelling s es)
  entries_hold s plain no_entries = no_row
  entries_hold s plain (entry n k es) =
      row {xs = Name n ∷ A s ∷ part_of k (whole k)} refl (remaining refl (remaining plain (any (part_holds k (whole_holds k))))) (entries_hold s plain es)

  definitions_hold : (ds : Definitions) → RowHolds (definitions_spelling ds)
  definitions_hold no_definitions = no_row
  definitions_hold (definition d ds) = row refl (definition_holds d) (definitions_hold ds)

  definition_holds : (d : Definition) → HoldsAny (definition_spelling d)
  definition_holds (tree.Variables ns es) = both (any (names ns)) (remaining refl (any (list_holds es).without_first))
  definition_holds (tree.Vector n k) = remaining refl (remaining refl (remaining refl (any (part_holds k (whole_holds k)))))
  definition_holds (tree.Function n ps e) = remaining refl (both (any (round (omega arith) (names ps))) (remaining refl (any (whole_holds e).holds)))
  definition_holds (tree.Routine n ps b) = remaining refl (both (any (round (omega arith) (names ps))) (remaining refl (any (block_holds b))))

  items_hold : (is : Items) → RowHolds (items_spelling is)
  items_hold no_items = no_row
  items_hold (item i is) = row refl (item_holds i) (items_hold is)

  item_holds : (i : Item) → HoldsAny (item_spelling i)
  item_holds (Labelled ls c) = both (labels_hold ls) (command_holds c)
  item_holds (Labels_alone ls) = labels_hold ls

  labels_hold : (ls : Labels) → HoldsAny (labels_spelling ls)
  labels_hold no_labels = any nothing
  labels_hold (label l ls) = both (label_holds l) (labels_hold ls)

  label_holds : (l : Label) → HoldsAny (label_spelling l)
  label_holds (tree.Case k) = remaining refl (both (any (part_holds k (whole_holds k))) (any (before refl nothing)))
  label_holds tree.Default = remaining refl (any (before refl nothing))
  label_holds (tree.Named n) = remaining refl (any (before refl nothing))

  command_holds : (c : Command) → HoldsAny (command_spelling c)
  command_holds (tree.Assign xs es) = both (any (list_holds xs).without_first) (remaining refl (any (list_holds es).without_first))
  command_holds (tree.Do f es) = both (any (routine_holds f (whole_holds f))) (any (round (omega arith) (list_holds es).without_first))
  command_holds (tree.Compound b) = any (block_holds b)
  command_holds tree.Break = any (before refl nothing)
  command_holds tree.Loop = any (before refl nothing)
  command_holds tree.EndCase = any (before refl nothing)
  command_holds tree.Return = any (before refl nothing)
  command_holds tree.Finish = any (before refl nothing)
  command_holds (tree.ResultIs e) = remaining refl (any (whole_holds e).holds)
  command_holds (tree.Goto n) = remaining refl (any (before refl nothing))
  command_holds (tree.Repeat c) = both (command_holds c) (any (before refl nothing))
  command_holds (tree.RepeatWhile c e) = both (command_holds c) (remaining refl (any (whole_holds e).holds))
  command_holds (tree.RepeatUntil c e) = both (command_holds c) (remaining refl (any (whole_holds e).holds))
  command_holds (tree.If e b) = remaining refl (both (any (whole_holds e).holds) (remaining refl (any (block_holds b))))
  command_holds (tree.Unless e b) = remaining refl (both (any (whole_holds e).holds) (remaining refl (any (block_holds b))))
  command_holds (tree.While e b) = remaining refl (both (any (whole_holds e).holds) (remaining refl (any (block_holds b))))
  command_holds (tree.Until e b) = remaining refl (both (any (whole_holds e).holds) (remaining refl (any (block_holds b))))
  command_holds (tree.Test e b d) = remaining refl (both (any (whole_holds e).holds) (remaining refl (both (any (block_holds b)) (remaining refl (any (block_holds d))))))
  command_holds (tree.For n a z b) = remaining refl (remaining refl (remaining refl (both (any (whole_holds a).holds) (remaining refl (both (any (whole_holds z).holds) (remaining refl (any (block_holds b))))))))
  command_holds (tree.ForBy n a z k b) =
      remaining refl (remaining refl (remaining refl (both (any (whole_holds a).holds) (remaining refl (both (any (whole_holds z).holds) (remaining refl (both (any (part_holds k (whole_holds k))) (remaining refl (any (block_holds b))))))))))
  command_holds (tree.SwitchOn e is) = remaining refl (both (any (whole_holds e).holds) (remaining refl (any (in_section (items_hold is).without_first))))

-- ---- the whole

-- an expression that needs no parentheses holds at most one operator, as if it were in parentheses
pub whole_few : (e : Exp) → most_held [] (in_round (whole e)) ≤ 1
whole_few e = rw (← append-nil (in_round (whole e))) (omega (arith, (bracketed (whole_holds e)).at_most [] []))

pub section_few : (ds : Declarations) → most_held [] (section_spelling ds) ≤ 1
section_few ds = rw (← append-nil (section_spelling ds)) (omega (arith, (declarations_hold ds).without_first.holds.at_most [] []))
