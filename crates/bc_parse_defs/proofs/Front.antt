-- What the first parts of a list are, by each function that inspects them.
use Rattle.std.proofs.Common.{◌≡◌, ℕ, ◌≤◌, Bool, true, false, ◌||◌, cond, ltb, eqb, List, [], ◌∷◌, get_or, Option, Some, None, Ok, refl, sym, ap, subst, ◌∙◌}
use Rattle.std.proofs.lemmas.Bool.{eqb-true, ltb-false}
use Rattle.bc_lex_tokens.specs.declared.symbol.Symbol.{Symbol}
use Rattle.bc_lex_tokens.specs.declared.symbol.Symbol.TheVariants as sign
use Rattle.bc_lex_tokens.specs.Numbers.{number_of}
use Rattle.bc_parse_tree.specs.declared.tree.BinaryOp as code_binary
use Rattle.bc_parse_tree.specs.declared.tree.BinaryOp.TheVariants as binary
use Rattle.bc_parse_tree.specs.declared.tree.UnaryOp as code_unary
use Rattle.bc_parse_tree.specs.declared.tree.UnaryOp.TheVariants as unary
use Rattle.bc_parse_tree.specs.declared.tree.Storage.{Storage}
use Rattle.bc_parse_tree.specs.declared.tree.Storage.TheVariants as storage
use Rattle.bc_parse_tree.specs.Parts.{Part, A, Name, Number, Character, String, NewLine}
use Rattle.bc_parse_tree.specs.Tree.{Exp}
use Rattle.bc_parse_tree.specs.Tree as tree
use Rattle.bc_parse_tree.specs.Operators.{level_of, left_level, binary_sign, unary_sign, storage_sign}
use Rattle.bc_parse_tree.specs.Spelling.{IsOfLevel, IsSeparator, semicolon, new_line, IsConstantSign, optional}
use Rattle.bc_parse_tree.specs.Spelling as spell
use Rattle.bc_parse_defs.specs.declared.words.Start.{Start}
use Rattle.bc_parse_defs.specs.declared.words.Start.TheVariants as start
use Rattle.bc_parse_defs.specs.declared.words.Tested.TheVariants as tested
use Rattle.bc_parse_defs.specs.declared.words.CommandWord.{CommandWord}
use Rattle.bc_parse_defs.specs.declared.words.CommandWord.TheVariants as command_word
use Rattle.bc_parse_defs.specs.declared.words.SimpleWord.{SimpleWord}
use Rattle.bc_parse_defs.specs.declared.words.SimpleWord.TheVariants as simple_word
use Rattle.bc_parse_defs.specs.declared.words.RepeatWord.{RepeatWord}
use Rattle.bc_parse_defs.specs.declared.words.RepeatWord.TheVariants as repeat_word
use Rattle.bc_parse_defs.specs.declared.words.DeclarationWord.{DeclarationWord}
use Rattle.bc_parse_defs.specs.declared.words.DeclarationWord.TheVariants as declaration_word
use Rattle.bc_parse_defs.specs.Reading.{after_of, separator_of, wanted, expect_of, name_in, name_of, word_in, with_rest, leaf_of, start_of, command_word_of, simple_word_of, repeat_word_of, declaration_word_of, Following, Ends, Operator, Arguments, Choice, following, operator_of, LabelStart, NoLabel, CaseLabel, DefaultLabel, NameLabel, label_start, named_start, Shape, Parameters, Size, Values, shape_of, vector_shape, past_do, or_else, constant_sign_of, on}
use Rattle.bc_parse_defs.proofs.Yields.{Yields}

-- ---- two symbols are the same if their numbers are

abbrev all_symbols : List Symbol
all_symbols = sign.And ∷ sign.Be ∷ sign.Break ∷ sign.By ∷ sign.Case ∷ sign.Default ∷ sign.Do ∷ sign.Else ∷ sign.EndCase ∷ sign.Equivalent ∷ sign.False ∷ sign.Finish ∷ sign.For ∷ sign.Get ∷ sign.Global ∷ sign.Goto ∷ sign.If ∷ sign.Into ∷ sign.Let ∷ sign.Loop ∷ sign.Manifest ∷ sign.NotEquivalent ∷ sign.Not ∷ sign.Remainder ∷ sign.Repeat ∷ sign.RepeatUntil ∷ sign.RepeatWhile ∷ sign.ResultIs ∷ sign.Return ∷ sign.Static ∷ sign.SwitchOn ∷ sign.Table ∷ sign.Test ∷ sign.To ∷ sign.True ∷ sign.Unless ∷ sign.Until ∷ sign.ValueOf ∷ sign.Vector ∷ sign.While ∷ sign.Assign ∷ sign.NotEqual ∷ sign.LessEqual ∷ sign.GreaterEqual ∷ sign.ShiftLeft ∷ sign.ShiftRight ∷ sign.Arrow ∷ sign.OpenSection ∷ sign.CloseSection ∷ sign.OpenBracket ∷ sign.CloseBracket ∷ sign.Comma ∷ sign.Semicolon ∷ sign.Colon ∷ sign.Indirection ∷ sign.AddressOf ∷ sign.Plus ∷ sign.Minus ∷ sign.Multiply ∷ sign.Divide ∷ sign.Equal ∷ sign.Less ∷ sign.Greater ∷ sign.LogicalAnd ∷ sign.LogicalOr ∷ []

back : (s : Symbol) → get_or all_symbols (number_of s) sign.And ≡ s
back sign.And = refl
back sign.Be = refl
back sign.Break = refl
back sign.By = refl
back sign.Case = refl
back sign.Default = refl
back sign.Do = refl
back sign.Else = refl
back sign.EndCase = refl
back sign.Equivalent = refl
back sign.False = refl
back sign.Finish = refl
back sign.For = refl
back sign.Get = refl
back sign.Global = refl
back sign.Goto = refl
back sign.If = refl
back sign.Into = refl
back sign.Let = refl
back sign.Loop = refl
back sign.Manifest = refl
back sign.NotEquivalent = refl
back sign.Not = refl
back sign.Remainder = refl
back sign.Repeat = refl
back sign.RepeatUntil = refl
back sign.RepeatWhile = refl
back sign.ResultIs = refl
back sign.Return = refl
back sign.Static = refl
back sign.SwitchOn = refl
back sign.Table = refl
back sign.Test = refl
back sign.To = refl
back sign.True = refl
back sign.Unless = refl
back sign.Until = refl
back sign.ValueOf = refl
back sign.Vector = refl
back sign.While = refl
back sign.Assign = refl
back sign.NotEqual = refl
back sign.LessEqual = refl
back sign.GreaterEqual = refl
back sign.ShiftLeft = refl
back sign.ShiftRight = refl
back sign.Arrow = refl
back sign.OpenSection = refl
back sign.CloseSection = refl
back sign.OpenBracket = refl
back sign.CloseBracket = refl
back sign.Comma = refl
back sign.Semicolon = refl
back sign.Colon = refl
back sign.Indirection = refl
back sign.AddressOf = refl
back sign.Plus = refl
back sign.Minus = refl
back sign.Multiply = refl
back sign.Divide = refl
back sign.Equal = refl
back sign.Less = refl
back sign.Greater = refl
back sign.LogicalAnd = refl
back sign.LogicalOr = refl

same_number : (s t : Symbol) → number_of s ≡ number_of t → s ≡ t
same_number s t e = sym (back s) ∙ ap (λ (n : ℕ). get_or all_symbols n sign.And) e ∙ back t

pub after_is : (s : Symbol) (ts us : List Part) → after_of s ts ≡ Some us → ts ≡ A s ∷ us
after_is s [] us e = absurd cc
after_is s (A t ∷ ts) us e = go (eqb (number_of t) (number_of s)) refl e
  where
    go : (b : Bool) → eqb (number_of t) (number_of s) ≡ b → cond b (Some ts) None ≡ Some us → A t ∷ ts ≡ A s ∷ us
    go true same f = let h : t ≡ s = same_number t s (eqb-true _ _ same) in cc
    go false same f = absurd cc
after_is s (Name n ∷ ts) us e = absurd cc
after_is s (Number n ∷ ts) us e = absurd cc
after_is s (Character n ∷ ts) us e = absurd cc
after_is s (String n ∷ ts) us e = absurd cc
after_is s (NewLine ∷ ts) us e = absurd cc

wanted_yields : {X : Type 0} (ts : List Part) (o : Option X) (P : X → Type 0) → ((x : X) → o ≡ Some x → P x) → Yields (wanted ts o) P
wanted_yields ts None P h = tt
wanted_yields ts (Some x) P h = h x refl

pub expect_yields : (s : Symbol) (ts : List Part) → Yields (expect_of s ts) (λ rest. ts ≡ A s ∷ rest)
expect_yields s ts = wanted_yields ts (after_of s ts) (λ rest. ts ≡ A s ∷ rest) (after_is s ts)

pub record Separated (ts rest : List Part) : Type 0 where
  pub separator : Part
  pub split : ts ≡ separator ∷ rest
  pub is : IsSeparator separator

separated_symbol : (ts us : List Part) → after_of sign.Semicolon ts ≡ Some us → Separated ts us
separated_symbol ts us e = record { separator = A sign.Semicolon; split = after_is sign.Semicolon ts us e; is = semicolon }

pub separator_is : (ts us : List Part) → separator_of ts ≡ Some us → Separated ts us
separator_is [] us e = separated_symbol [] us e
separator_is (A s ∷ ts) us e = separated_symbol (A s ∷ ts) us e
separator_is (Name n ∷ ts) us e = separated_symbol (Name n ∷ ts) us e
separator_is (Number n ∷ ts) us e = separated_symbol (Number n ∷ ts) us e
separator_is (Character n ∷ ts) us e = separated_symbol (Character n ∷ ts) us e
separator_is (String n ∷ ts) us e = separated_symbol (String n ∷ ts) us e
separator_is (NewLine ∷ ts) us e = record { separator = NewLine; split = let h : ts ≡ us = cc in cc; is = new_line }

name_is : (ts : List Part) (x : List ℕ × List Part) → name_in ts ≡ Some x → ts ≡ Name x.0 ∷ x.1
name_is [] x e = absurd cc
name_is (A s ∷ ts) x e = absurd cc
name_is (Name n ∷ ts) x e = let h : (n, ts) ≡ x = cc in ap (λ (y : List ℕ × List Part). Name y.0 ∷ y.1) h
name_is (Number n ∷ ts) x e = absurd cc
name_is (Character n ∷ ts) x e = absurd cc
name_is (String n ∷ ts) x e = absurd cc
name_is (NewLine ∷ ts) x e = absurd cc

pub name_yields : (ts : List Part) → Yields (name_of ts) (λ n. ts ≡ Name n.0 ∷ n.1)
name_yields ts = wanted_yields ts (name_in ts) (λ n. ts ≡ Name n.0 ∷ n.1) (name_is ts)

-- a reserved word or sign that comes first
pub record Worded {W : Type 0} (f : Symbol → Option W) (ts : List Part) (w : W) (rest : List Part) : Type 0 where
  pub symbol : Symbol
  pub split : ts ≡ A symbol ∷ rest
  pub is : f symbol ≡ Some w

pub word_is : {W : Type 0} (f : Symbol → Option W) (ts : List Part) (x : W × List Part) → word_in f ts ≡ Some x → Worded f ts x.0 x.1
word_is f [] x e = absurd cc
word_is {W = W} f (A s ∷ ts) x e = go (f s) refl e
  where
    go : (o : Option W) → f s ≡ o → with_rest ts o ≡ Some x → Worded f (A s ∷ ts) x.0 x.1
    go None h e = absurd cc
    go (Some w) h e = let k : (w, ts) ≡ x = cc in subst (λ (y : W × List Part). Worded f (A s ∷ ts) y.0 y.1) k (record { symbol = s; split = refl; is = h })
word_is f (Name n ∷ ts) x e = absurd cc
word_is f (Number n ∷ ts) x e = absurd cc
word_is f (Character n ∷ ts) x e = absurd cc
word_is f (String n ∷ ts) x e = absurd cc
word_is f (NewLine ∷ ts) x e = absurd cc

abbrev pub repeat_sign : RepeatWord → Symbol
repeat_sign repeat_word.Repeat = sign.Repeat
repeat_sign repeat_word.While = sign.RepeatWhile
repeat_sign repeat_word.Until = sign.RepeatUntil

pub repeat_is : (s : Symbol) (w : RepeatWord) → repeat_word_of s ≡ Some w → s ≡ repeat_sign w
repeat_is sign.Repeat w e = let h : repeat_word.Repeat ≡ w = cc in ap repeat_sign h
repeat_is sign.RepeatWhile w e = let h : repeat_word.While ≡ w = cc in ap repeat_sign h
repeat_is sign.RepeatUntil w e = let h : repeat_word.Until ≡ w = cc in ap repeat_sign h
repeat_is _ w e = absurd cc

abbrev pub simple_sign : SimpleWord → Symbol
simple_sign simple_word.Block = sign.OpenSection
simple_sign simple_word.Break = sign.Break
simple_sign simple_word.Loop = sign.Loop
simple_sign simple_word.EndCase = sign.EndCase
simple_sign simple_word.Return = sign.Return
simple_sign simple_word.Finish = sign.Finish
simple_sign simple_word.ResultIs = sign.ResultIs
simple_sign simple_word.Goto = sign.Goto

pub simple_is : (s : Symbol) (w : SimpleWord) → simple_word_of s ≡ Some w → s ≡ simple_sign w
simple_is sign.OpenSection w e = let h : simple_word.Block ≡ w = cc in ap simple_sign h
simple_is sign.Break w e = let h : simple_word.Break ≡ w = cc in ap simple_sign h
simple_is sign.Loop w e = let h : simple_word.Loop ≡ w = cc in ap simple_sign h
simple_is sign.EndCase w e = let h : simple_word.EndCase ≡ w = cc in ap simple_sign h
simple_is sign.Return w e = let h : simple_word.Return ≡ w = cc in ap simple_sign h
simple_is sign.Finish w e = let h : simple_word.Finish ≡ w = cc in ap simple_sign h
simple_is sign.ResultIs w e = let h : simple_word.ResultIs ≡ w = cc in ap simple_sign h
simple_is sign.Goto w e = let h : simple_word.Goto ≡ w = cc in ap simple_sign h
simple_is _ w e = absurd cc

abbrev pub command_sign : CommandWord → Symbol
command_sign (command_word.Tested tested.If) = sign.If
command_sign (command_word.Tested tested.Unless) = sign.Unless
command_sign (command_word.Tested tested.While) = sign.While
command_sign (command_word.Tested tested.Until) = sign.Until
command_sign command_word.Test = sign.Test
command_sign command_word.For = sign.For
command_sign command_word.SwitchOn = sign.SwitchOn

pub command_is : (s : Symbol) (w : CommandWord) → command_word_of s ≡ Some w → s ≡ command_sign w
command_is sign.If w e = let h : command_word.Tested tested.If ≡ w = cc in ap command_sign h
command_is sign.Unless w e = let h : command_word.Tested tested.Unless ≡ w = cc in ap command_sign h
command_is sign.While w e = let h : command_word.Tested tested.While ≡ w = cc in ap command_sign h
command_is sign.Until w e = let h : command_word.Tested tested.Until ≡ w = cc in ap command_sign h
command_is sign.Test w e = let h : command_word.Test ≡ w = cc in ap command_sign h
command_is sign.For w e = let h : command_word.For ≡ w = cc in ap command_sign h
command_is sign.SwitchOn w e = let h : command_word.SwitchOn ≡ w = cc in ap command_sign h
command_is _ w e = absurd cc

abbrev pub start_sign : Start → Symbol
start_sign start.Bracket = sign.OpenBracket
start_sign start.Table = sign.Table
start_sign start.Valof = sign.ValueOf
start_sign (start.Unary unary.Not) = sign.Not
start_sign (start.Unary unary.Neg) = sign.Minus
start_sign (start.Unary unary.Load) = sign.Indirection
start_sign (start.Unary unary.Address) = sign.AddressOf

pub start_is : (s : Symbol) (w : Start) → start_of s ≡ Some w → s ≡ start_sign w
start_is sign.OpenBracket w e = let h : start.Bracket ≡ w = cc in ap start_sign h
start_is sign.Table w e = let h : start.Table ≡ w = cc in ap start_sign h
start_is sign.ValueOf w e = let h : start.Valof ≡ w = cc in ap start_sign h
start_is sign.Not w e = let h : start.Unary unary.Not ≡ w = cc in ap start_sign h
start_is sign.Minus w e = let h : start.Unary unary.Neg ≡ w = cc in ap start_sign h
start_is sign.Indirection w e = let h : start.Unary unary.Load ≡ w = cc in ap start_sign h
start_is sign.AddressOf w e = let h : start.Unary unary.Address ≡ w = cc in ap start_sign h
start_is _ w e = absurd cc

abbrev pub declaration_sign : DeclarationWord → Symbol
declaration_sign declaration_word.Let = sign.Let
declaration_sign (declaration_word.Constants storage.Manifest) = sign.Manifest
declaration_sign (declaration_word.Constants storage.Static) = sign.Static
declaration_sign (declaration_word.Constants storage.Global) = sign.Global

pub declaration_is : (s : Symbol) (w : DeclarationWord) → declaration_word_of s ≡ Some w → s ≡ declaration_sign w
declaration_is sign.Let w e = let h : declaration_word.Let ≡ w = cc in ap declaration_sign h
declaration_is sign.Manifest w e = let h : declaration_word.Constants storage.Manifest ≡ w = cc in ap declaration_sign h
declaration_is sign.Static w e = let h : declaration_word.Constants storage.Static ≡ w = cc in ap declaration_sign h
declaration_is sign.Global w e = let h : declaration_word.Constants storage.Global ≡ w = cc in ap declaration_sign h
declaration_is _ w e = absurd cc

pub start_unary : (m : code_unary.UnaryOp) → start_sign (start.Unary m) ≡ unary_sign m
start_unary unary.Not = refl
start_unary unary.Neg = refl
start_unary unary.Load = refl
start_unary unary.Address = refl

pub declaration_constants : (s : Storage) → declaration_sign (declaration_word.Constants s) ≡ storage_sign s
declaration_constants storage.Manifest = refl
declaration_constants storage.Static = refl
declaration_constants storage.Global = refl

-- an expression of one part
pub record Leaf (ts : List Part) (e : Exp) (rest : List Part) : Type 0 where
  pub front : Part
  pub split : ts ≡ front ∷ rest
  pub spelled : (level : ℕ) → IsOfLevel level e (front ∷ [])

pub leaf_is : (ts : List Part) (x : Exp × List Part) → leaf_of ts ≡ Some x → Leaf ts x.0 x.1
leaf_is [] x e = absurd cc
leaf_is (Name n ∷ ts) x e = let h : (tree.Name n, ts) ≡ x = cc in subst (λ (y : Exp × List Part). Leaf (Name n ∷ ts) y.0 y.1) h (record { front = Name n; split = refl; spelled = λ k. spell.name })
leaf_is (Number n ∷ ts) x e = let h : (tree.Num n, ts) ≡ x = cc in subst (λ (y : Exp × List Part). Leaf (Number n ∷ ts) y.0 y.1) h (record { front = Number n; split = refl; spelled = λ k. spell.number })
leaf_is (Character n ∷ ts) x e = let h : (tree.Character n, ts) ≡ x = cc in subst (λ (y : Exp × List Part). Leaf (Character n ∷ ts) y.0 y.1) h (record { front = Character n; split = refl; spelled = λ k. spell.character })
leaf_is (String n ∷ ts) x e = let h : (tree.Text n, ts) ≡ x = cc in subst (λ (y : Exp × List Part). Leaf (String n ∷ ts) y.0 y.1) h (record { front = String n; split = refl; spelled = λ k. spell.text })
leaf_is (NewLine ∷ ts) x e = absurd cc
leaf_is (A sign.True ∷ ts) x e = let h : (tree.True, ts) ≡ x = cc in subst (λ (y : Exp × List Part). Leaf (A sign.True ∷ ts) y.0 y.1) h (record { front = A sign.True; split = refl; spelled = λ k. spell.true_word })
leaf_is (A sign.False ∷ ts) x e = let h : (tree.False, ts) ≡ x = cc in subst (λ (y : Exp × List Part). Leaf (A sign.False ∷ ts) y.0 y.1) h (record { front = A sign.False; split = refl; spelled = λ k. spell.false_word })
leaf_is (A _ ∷ ts) x e = absurd cc

-- what follows an operand, and its levels
abbrev pub IsFollowing : ℕ → ℕ → List Part → Following → Type 0
IsFollowing level top ts Ends = Unit {0}
IsFollowing level top ts (Operator o us) = (ts ≡ A (binary_sign o) ∷ us) × (level ≤ level_of o) × (left_level o ≤ top)
IsFollowing level top ts (Arguments us) = (ts ≡ A sign.OpenBracket ∷ us) × (12 ≤ top)
IsFollowing level top ts (Choice us) = (ts ≡ A sign.Arrow ∷ us) × (level ≤ 1) × (2 ≤ top)

op_follows : (level top : ℕ) (ts : List Part) (s : Symbol) (o : code_binary.BinaryOp) → s ≡ binary_sign o → IsFollowing level top (A s ∷ ts) (operator_of level top ts (Some o))
op_follows level top ts s o e = go (ltb (level_of o) level) (ltb top (left_level o)) refl refl
  where
    go : (a b : Bool) → ltb (level_of o) level ≡ a → ltb top (left_level o) ≡ b → IsFollowing level top (A s ∷ ts) (cond (a || b) Ends (Operator o ts))
    go true b p q = tt
    go false true p q = tt
    go false false p q = (ap (λ (x : Symbol). A x ∷ ts) e, ltb-false _ _ p, ltb-false _ _ q)

arguments_follow : (level top : ℕ) (ts : List Part) → IsFollowing level top (A sign.OpenBracket ∷ ts) (following level top (A sign.OpenBracket ∷ ts))
arguments_follow level top ts = go (ltb top 12) refl
  where
    go : (b : Bool) → ltb top 12 ≡ b → IsFollowing level top (A sign.OpenBracket ∷ ts) (cond b Ends (Arguments ts))
    go true p = tt
    go false p = (refl, ltb-false _ _ p)

choice_follows : (level top : ℕ) (ts : List Part) → IsFollowing level top (A sign.Arrow ∷ ts) (following level top (A sign.Arrow ∷ ts))
choice_follows level top ts = go (ltb 1 level) (ltb top 2) refl refl
  where
    go : (a b : Bool) → ltb 1 level ≡ a → ltb top 2 ≡ b → IsFollowing level top (A sign.Arrow ∷ ts) (cond (a || b) Ends (Choice ts))
    go true b p q = tt
    go false true p q = tt
    go false false p q = (refl, ltb-false _ _ p, ltb-false _ _ q)

pub follows : (level top : ℕ) (ts : List Part) → IsFollowing level top ts (following level top ts)
follows level top [] = tt
follows level top (Name n ∷ ts) = tt
follows level top (Number n ∷ ts) = tt
follows level top (Character n ∷ ts) = tt
follows level top (String n ∷ ts) = tt
follows level top (NewLine ∷ ts) = tt
follows level top (A sign.OpenBracket ∷ ts) = arguments_follow level top ts
follows level top (A sign.Arrow ∷ ts) = choice_follows level top ts
follows level top (A sign.Equivalent ∷ ts) = op_follows level top ts sign.Equivalent binary.Equivalent refl
follows level top (A sign.NotEquivalent ∷ ts) = op_follows level top ts sign.NotEquivalent binary.NotEquivalent refl
follows level top (A sign.LogicalOr ∷ ts) = op_follows level top ts sign.LogicalOr binary.Or refl
follows level top (A sign.LogicalAnd ∷ ts) = op_follows level top ts sign.LogicalAnd binary.And refl
follows level top (A sign.ShiftLeft ∷ ts) = op_follows level top ts sign.ShiftLeft binary.ShiftLeft refl
follows level top (A sign.ShiftRight ∷ ts) = op_follows level top ts sign.ShiftRight binary.ShiftRight refl
follows level top (A sign.Equal ∷ ts) = op_follows level top ts sign.Equal binary.Equal refl
follows level top (A sign.NotEqual ∷ ts) = op_follows level top ts sign.NotEqual binary.NotEqual refl
follows level top (A sign.Less ∷ ts) = op_follows level top ts sign.Less binary.Less refl
follows level top (A sign.GreaterEqual ∷ ts) = op_follows level top ts sign.GreaterEqual binary.GreaterEqual refl
follows level top (A sign.Greater ∷ ts) = op_follows level top ts sign.Greater binary.Greater refl
follows level top (A sign.LessEqual ∷ ts) = op_follows level top ts sign.LessEqual binary.LessEqual refl
follows level top (A sign.Plus ∷ ts) = op_follows level top ts sign.Plus binary.Add refl
follows level top (A sign.Minus ∷ ts) = op_follows level top ts sign.Minus binary.Subtract refl
follows level top (A sign.Multiply ∷ ts) = op_follows level top ts sign.Multiply binary.Multiply refl
follows level top (A sign.Divide ∷ ts) = op_follows level top ts sign.Divide binary.Divide refl
follows level top (A sign.Remainder ∷ ts) = op_follows level top ts sign.Remainder binary.Remainder refl
follows level top (A sign.Indirection ∷ ts) = op_follows level top ts sign.Indirection binary.Index refl
follows level top (A _ ∷ ts) = tt

-- what begins a label
abbrev pub IsLabelStart : List Part → LabelStart → Type 0
IsLabelStart ts NoLabel = Unit {0}
IsLabelStart ts (CaseLabel us) = ts ≡ A sign.Case ∷ us
IsLabelStart ts (DefaultLabel us) = ts ≡ A sign.Default ∷ us
IsLabelStart ts (NameLabel n us) = ts ≡ Name n ∷ A sign.Colon ∷ us

name_labels : (n : List ℕ) (ts : List Part) → IsLabelStart (Name n ∷ ts) (named_start n (after_of sign.Colon ts))
name_labels n ts = go (after_of sign.Colon ts) refl
  where
    go : (o : Option (List Part)) → after_of sign.Colon ts ≡ o → IsLabelStart (Name n ∷ ts) (named_start n o)
    go None e = tt
    go (Some us) e = ap (λ (r : List Part). Name n ∷ r) (after_is sign.Colon ts us e)

pub labels : (ts : List Part) → IsLabelStart ts (label_start ts)
labels [] = tt
labels (Name n ∷ ts) = name_labels n ts
labels (Number n ∷ ts) = tt
labels (Character n ∷ ts) = tt
labels (String n ∷ ts) = tt
labels (NewLine ∷ ts) = tt
labels (A sign.Case ∷ ts) = refl
labels (A sign.Default ∷ ts) = refl
labels (A _ ∷ ts) = tt

-- what follows the name of a definition
abbrev pub IsShape : List Part → Shape → Type 0
IsShape ts (Parameters us) = ts ≡ A sign.OpenBracket ∷ us
IsShape ts (Size us) = ts ≡ A sign.Equal ∷ A sign.Vector ∷ us
IsShape ts Values = Unit {0}

vector_shapes : (ts : List Part) → IsShape ts (vector_shape (after_of sign.Equal ts))
vector_shapes ts = go (after_of sign.Equal ts) refl
  where
    remaining : (us : List Part) → ts ≡ A sign.Equal ∷ us → (o : Option (List Part)) → after_of sign.Vector us ≡ o → IsShape ts (elim o [ None ↦ Values | Some vs ↦ Size vs ])
    remaining us e None f = tt
    remaining us e (Some vs) f = e ∙ ap (λ (r : List Part). A sign.Equal ∷ r) (after_is sign.Vector us vs f)

    go : (o : Option (List Part)) → after_of sign.Equal ts ≡ o → IsShape ts (vector_shape o)
    go None e = tt
    go (Some us) e = remaining us (after_is sign.Equal ts us e) (after_of sign.Vector us) refl

pub shapes : (ts : List Part) → IsShape ts (shape_of ts)
shapes [] = tt
shapes (Name n ∷ ts) = tt
shapes (Number n ∷ ts) = tt
shapes (Character n ∷ ts) = tt
shapes (String n ∷ ts) = tt
shapes (NewLine ∷ ts) = tt
shapes (A sign.OpenBracket ∷ ts) = refl
shapes (A s ∷ ts) = vector_shapes (A s ∷ ts)

-- a line break and DO, each of which may be missing
pub record DoFront (ts rest : List Part) : Type 0 where
  pub line : Bool
  pub word : Bool
  pub split : ts ≡ optional line NewLine (optional word (A sign.Do) rest)

do_word : (line : Bool) (ts us : List Part) → ts ≡ optional line NewLine us → DoFront ts (or_else (after_of sign.Do us) us)
do_word line ts us e = go (after_of sign.Do us) refl
  where
    go : (o : Option (List Part)) → after_of sign.Do us ≡ o → DoFront ts (or_else o us)
    go None f = record { line = line; word = false; split = e }
    go (Some vs) f = record { line = line; word = true; split = e ∙ ap (λ (r : List Part). optional line NewLine r) (after_is sign.Do us vs f) }

pub do_front : (ts : List Part) → DoFront ts (past_do ts)
do_front [] = do_word false [] [] refl
do_front (A s ∷ ts) = do_word false (A s ∷ ts) (A s ∷ ts) refl
do_front (Name n ∷ ts) = do_word false (Name n ∷ ts) (Name n ∷ ts) refl
do_front (Number n ∷ ts) = do_word false (Number n ∷ ts) (Number n ∷ ts) refl
do_front (Character n ∷ ts) = do_word false (Character n ∷ ts) (Character n ∷ ts) refl
do_front (String n ∷ ts) = do_word false (String n ∷ ts) (String n ∷ ts) refl
do_front (NewLine ∷ ts) = do_word true (NewLine ∷ ts) ts refl

-- `=` or `:` after a constant's name
pub record Signed (ts rest : List Part) : Type 0 where
  pub symbol : Symbol
  pub split : ts ≡ A symbol ∷ rest
  pub is : IsConstantSign symbol

pub constant_sign_yields : (ts : List Part) → Yields (constant_sign_of ts) (λ rest. Signed ts rest)
constant_sign_yields ts = go (after_of sign.Equal ts) refl (after_of sign.Colon ts) refl
  where
    go : (o : Option (List Part)) → after_of sign.Equal ts ≡ o → (p : Option (List Part)) → after_of sign.Colon ts ≡ p → Yields (on o (wanted ts p) (λ after. Ok after)) (λ rest. Signed ts rest)
    go None e None f = tt
    go None e (Some us) f = record { symbol = sign.Colon; split = after_is sign.Colon ts us f; is = spell.colon }
    go (Some us) e p f = record { symbol = sign.Equal; split = after_is sign.Equal ts us e; is = spell.equal }
