-- The number of each symbol, by which symbols are compared.
use Rattle.std.specs.Prelude.{ℕ, Bool, ◌==◌}
use Rattle.bc_lex_tokens.specs.declared.symbol.Symbol.{Symbol}
use Rattle.bc_lex_tokens.specs.declared.symbol.Symbol.TheVariants as symbol

-- the index of a symbol in their order
abbrev pub number_of : Symbol → ℕ
number_of symbol.And = 0
number_of symbol.Be = 1
number_of symbol.Break = 2
number_of symbol.By = 3
number_of symbol.Case = 4
number_of symbol.Default = 5
number_of symbol.Do = 6
number_of symbol.Else = 7
number_of symbol.EndCase = 8
number_of symbol.Equivalent = 9
number_of symbol.False = 10
number_of symbol.Finish = 11
number_of symbol.For = 12
number_of symbol.Get = 13
number_of symbol.Global = 14
number_of symbol.Goto = 15
number_of symbol.If = 16
number_of symbol.Into = 17
number_of symbol.Let = 18
number_of symbol.Loop = 19
number_of symbol.Manifest = 20
number_of symbol.NotEquivalent = 21
number_of symbol.Not = 22
number_of symbol.Remainder = 23
number_of symbol.Repeat = 24
number_of symbol.RepeatUntil = 25
number_of symbol.RepeatWhile = 26
number_of symbol.ResultIs = 27
number_of symbol.Return = 28
number_of symbol.Static = 29
number_of symbol.SwitchOn = 30
number_of symbol.Table = 31
number_of symbol.Test = 32
number_of symbol.To = 33
number_of symbol.True = 34
number_of symbol.Unless = 35
number_of symbol.Until = 36
number_of symbol.ValueOf = 37
number_of symbol.Vector = 38
number_of symbol.While = 39
number_of symbol.Assign = 40
number_of symbol.NotEqual = 41
number_of symbol.LessEqual = 42
number_of symbol.GreaterEqual = 43
number_of symbol.ShiftLeft = 44
number_of symbol.ShiftRight = 45
number_of symbol.Arrow = 46
number_of symbol.OpenSection = 47
number_of symbol.CloseSection = 48
number_of symbol.OpenBracket = 49
number_of symbol.CloseBracket = 50
number_of symbol.Comma = 51
number_of symbol.Semicolon = 52
number_of symbol.Colon = 53
number_of symbol.Indirection = 54
number_of symbol.AddressOf = 55
number_of symbol.Plus = 56
number_of symbol.Minus = 57
number_of symbol.Multiply = 58
number_of symbol.Divide = 59
number_of symbol.Equal = 60
number_of symbol.Less = 61
number_of symbol.Greater = 62
number_of symbol.LogicalAnd = 63
number_of symbol.LogicalOr = 64

-- whether two symbols are the same
abbrev pub same : Symbol → Symbol → Bool
same a b = number_of a == number_of b
