-- Symbols with the same number are the same.
use Rattle.std.proofs.Common.{◌≡◌, ◌↔◌, refl, ap, Some, List, [], ◌∷◌, slice_get, IsTrue, eq-eqb}
use Rattle.std.proofs.lemmas.Bool.{eqb-true}
use Rattle.bc_lex_tokens.specs.declared.symbol.Symbol.{Symbol}
use Rattle.bc_lex_tokens.specs.declared.symbol.Symbol.TheVariants as symbol
use Rattle.bc_lex_tokens.specs.Numbers.{number_of, same}
use Rattle.bc_lex_tokens.specs.Spelling.{spelling_of, symbol_of}

-- all symbols in their order
abbrev every_symbol : List Symbol
every_symbol =
    symbol.And ∷
    symbol.Be ∷
    symbol.Break ∷
    symbol.By ∷
    symbol.Case ∷
    symbol.Default ∷
    symbol.Do ∷
    symbol.Else ∷
    symbol.EndCase ∷
    symbol.Equivalent ∷
    symbol.False ∷
    symbol.Finish ∷
    symbol.For ∷
    symbol.Get ∷
    symbol.Global ∷
    symbol.Goto ∷
    symbol.If ∷
    symbol.Into ∷
    symbol.Let ∷
    symbol.Loop ∷
    symbol.Manifest ∷
    symbol.NotEquivalent ∷
    symbol.Not ∷
    symbol.Remainder ∷
    symbol.Repeat ∷
    symbol.RepeatUntil ∷
    symbol.RepeatWhile ∷
    symbol.ResultIs ∷
    symbol.Return ∷
    symbol.Static ∷
    symbol.SwitchOn ∷
    symbol.Table ∷
    symbol.Test ∷
    symbol.To ∷
    symbol.True ∷
    symbol.Unless ∷
    symbol.Until ∷
    symbol.ValueOf ∷
    symbol.Vector ∷
    symbol.While ∷
    symbol.Assign ∷
    symbol.NotEqual ∷
    symbol.LessEqual ∷
    symbol.GreaterEqual ∷
    symbol.ShiftLeft ∷
    symbol.ShiftRight ∷
    symbol.Arrow ∷
    symbol.OpenSection ∷
    symbol.CloseSection ∷
    symbol.OpenBracket ∷
    symbol.CloseBracket ∷
    symbol.Comma ∷
    symbol.Semicolon ∷
    symbol.Colon ∷
    symbol.Indirection ∷
    symbol.AddressOf ∷
    symbol.Plus ∷
    symbol.Minus ∷
    symbol.Multiply ∷
    symbol.Divide ∷
    symbol.Equal ∷
    symbol.Less ∷
    symbol.Greater ∷
    symbol.LogicalAnd ∷
    symbol.LogicalOr ∷
    []

symbol_at-number_of : (s : Symbol) → slice_get every_symbol (number_of s) ≡ Some s
symbol_at-number_of symbol.And = refl
symbol_at-number_of symbol.Be = refl
symbol_at-number_of symbol.Break = refl
symbol_at-number_of symbol.By = refl
symbol_at-number_of symbol.Case = refl
symbol_at-number_of symbol.Default = refl
symbol_at-number_of symbol.Do = refl
symbol_at-number_of symbol.Else = refl
symbol_at-number_of symbol.EndCase = refl
symbol_at-number_of symbol.Equivalent = refl
symbol_at-number_of symbol.False = refl
symbol_at-number_of symbol.Finish = refl
symbol_at-number_of symbol.For = refl
symbol_at-number_of symbol.Get = refl
symbol_at-number_of symbol.Global = refl
symbol_at-number_of symbol.Goto = refl
symbol_at-number_of symbol.If = refl
symbol_at-number_of symbol.Into = refl
symbol_at-number_of symbol.Let = refl
symbol_at-number_of symbol.Loop = refl
symbol_at-number_of symbol.Manifest = refl
symbol_at-number_of symbol.NotEquivalent = refl
symbol_at-number_of symbol.Not = refl
symbol_at-number_of symbol.Remainder = refl
symbol_at-number_of symbol.Repeat = refl
symbol_at-number_of symbol.RepeatUntil = refl
symbol_at-number_of symbol.RepeatWhile = refl
symbol_at-number_of symbol.ResultIs = refl
symbol_at-number_of symbol.Return = refl
symbol_at-number_of symbol.Static = refl
symbol_at-number_of symbol.SwitchOn = refl
symbol_at-number_of symbol.Table = refl
symbol_at-number_of symbol.Test = refl
symbol_at-number_of symbol.To = refl
symbol_at-number_of symbol.True = refl
symbol_at-number_of symbol.Unless = refl
symbol_at-number_of symbol.Until = refl
symbol_at-number_of symbol.ValueOf = refl
symbol_at-number_of symbol.Vector = refl
symbol_at-number_of symbol.While = refl
symbol_at-number_of symbol.Assign = refl
symbol_at-number_of symbol.NotEqual = refl
symbol_at-number_of symbol.LessEqual = refl
symbol_at-number_of symbol.GreaterEqual = refl
symbol_at-number_of symbol.ShiftLeft = refl
symbol_at-number_of symbol.ShiftRight = refl
symbol_at-number_of symbol.Arrow = refl
symbol_at-number_of symbol.OpenSection = refl
symbol_at-number_of symbol.CloseSection = refl
symbol_at-number_of symbol.OpenBracket = refl
symbol_at-number_of symbol.CloseBracket = refl
symbol_at-number_of symbol.Comma = refl
symbol_at-number_of symbol.Semicolon = refl
symbol_at-number_of symbol.Colon = refl
symbol_at-number_of symbol.Indirection = refl
symbol_at-number_of symbol.AddressOf = refl
symbol_at-number_of symbol.Plus = refl
symbol_at-number_of symbol.Minus = refl
symbol_at-number_of symbol.Multiply = refl
symbol_at-number_of symbol.Divide = refl
symbol_at-number_of symbol.Equal = refl
symbol_at-number_of symbol.Less = refl
symbol_at-number_of symbol.Greater = refl
symbol_at-number_of symbol.LogicalAnd = refl
symbol_at-number_of symbol.LogicalOr = refl

pub number_of-injective : (a b : Symbol) → number_of a ≡ number_of b → a ≡ b
number_of-injective a b e =
    let p = symbol_at-number_of a in
    let q = symbol_at-number_of b in
    let r : slice_get every_symbol (number_of a) ≡ slice_get every_symbol (number_of b) = ap (λ n. slice_get every_symbol n) e in
    cc

pub same-≡ : (a b : Symbol) → IsTrue (same a b) ↔ (a ≡ b)
same-≡ a b = (
  (λ h. number_of-injective a b (eqb-true (number_of a) (number_of b) h)),
  (λ e. eq-eqb (number_of a) (number_of b) (ap number_of e)),
)

-- the main spelling of a symbol spells it
pub symbol_of-spelling_of : (s : Symbol) → symbol_of (spelling_of s) ≡ Some s
unfolding symbol_of
symbol_of-spelling_of symbol.And = refl
symbol_of-spelling_of symbol.Be = refl
symbol_of-spelling_of symbol.Break = refl
symbol_of-spelling_of symbol.By = refl
symbol_of-spelling_of symbol.Case = refl
symbol_of-spelling_of symbol.Default = refl
symbol_of-spelling_of symbol.Do = refl
symbol_of-spelling_of symbol.Else = refl
symbol_of-spelling_of symbol.EndCase = refl
symbol_of-spelling_of symbol.Equivalent = refl
symbol_of-spelling_of symbol.False = refl
symbol_of-spelling_of symbol.Finish = refl
symbol_of-spelling_of symbol.For = refl
symbol_of-spelling_of symbol.Get = refl
symbol_of-spelling_of symbol.Global = refl
symbol_of-spelling_of symbol.Goto = refl
symbol_of-spelling_of symbol.If = refl
symbol_of-spelling_of symbol.Into = refl
symbol_of-spelling_of symbol.Let = refl
symbol_of-spelling_of symbol.Loop = refl
symbol_of-spelling_of symbol.Manifest = refl
symbol_of-spelling_of symbol.NotEquivalent = refl
symbol_of-spelling_of symbol.Not = refl
symbol_of-spelling_of symbol.Remainder = refl
symbol_of-spelling_of symbol.Repeat = refl
symbol_of-spelling_of symbol.RepeatUntil = refl
symbol_of-spelling_of symbol.RepeatWhile = refl
symbol_of-spelling_of symbol.ResultIs = refl
symbol_of-spelling_of symbol.Return = refl
symbol_of-spelling_of symbol.Static = refl
symbol_of-spelling_of symbol.SwitchOn = refl
symbol_of-spelling_of symbol.Table = refl
symbol_of-spelling_of symbol.Test = refl
symbol_of-spelling_of symbol.To = refl
symbol_of-spelling_of symbol.True = refl
symbol_of-spelling_of symbol.Unless = refl
symbol_of-spelling_of symbol.Until = refl
symbol_of-spelling_of symbol.ValueOf = refl
symbol_of-spelling_of symbol.Vector = refl
symbol_of-spelling_of symbol.While = refl
symbol_of-spelling_of symbol.Assign = refl
symbol_of-spelling_of symbol.NotEqual = refl
symbol_of-spelling_of symbol.LessEqual = refl
symbol_of-spelling_of symbol.GreaterEqual = refl
symbol_of-spelling_of symbol.ShiftLeft = refl
symbol_of-spelling_of symbol.ShiftRight = refl
symbol_of-spelling_of symbol.Arrow = refl
symbol_of-spelling_of symbol.OpenSection = refl
symbol_of-spelling_of symbol.CloseSection = refl
symbol_of-spelling_of symbol.OpenBracket = refl
symbol_of-spelling_of symbol.CloseBracket = refl
symbol_of-spelling_of symbol.Comma = refl
symbol_of-spelling_of symbol.Semicolon = refl
symbol_of-spelling_of symbol.Colon = refl
symbol_of-spelling_of symbol.Indirection = refl
symbol_of-spelling_of symbol.AddressOf = refl
symbol_of-spelling_of symbol.Plus = refl
symbol_of-spelling_of symbol.Minus = refl
symbol_of-spelling_of symbol.Multiply = refl
symbol_of-spelling_of symbol.Divide = refl
symbol_of-spelling_of symbol.Equal = refl
symbol_of-spelling_of symbol.Less = refl
symbol_of-spelling_of symbol.Greater = refl
symbol_of-spelling_of symbol.LogicalAnd = refl
symbol_of-spelling_of symbol.LogicalOr = refl
