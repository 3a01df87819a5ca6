-- The spellings of symbols.
use Rattle.std.specs.Prelude.{ℕ, nat_eq, List, [], ◌∷◌, Option, Some, None, cond, codes}
use Rattle.std.specs.Cmp.Lexicographic.{pointwise}
use Rattle.bc_lex_tokens.specs.declared.symbol.Symbol.{Symbol}
use Rattle.bc_lex_tokens.specs.declared.symbol.Symbol.TheVariants as symbol

-- the main spelling of a symbol
abbrev pub spelling_of : Symbol → List ℕ
spelling_of symbol.And = codes "AND"
spelling_of symbol.Be = codes "BE"
spelling_of symbol.Break = codes "BREAK"
spelling_of symbol.By = codes "BY"
spelling_of symbol.Case = codes "CASE"
spelling_of symbol.Default = codes "DEFAULT"
spelling_of symbol.Do = codes "DO"
spelling_of symbol.Else = codes "ELSE"
spelling_of symbol.EndCase = codes "ENDCASE"
spelling_of symbol.Equivalent = codes "EQV"
spelling_of symbol.False = codes "FALSE"
spelling_of symbol.Finish = codes "FINISH"
spelling_of symbol.For = codes "FOR"
spelling_of symbol.Get = codes "GET"
spelling_of symbol.Global = codes "GLOBAL"
spelling_of symbol.Goto = codes "GOTO"
spelling_of symbol.If = codes "IF"
spelling_of symbol.Into = codes "INTO"
spelling_of symbol.Let = codes "LET"
spelling_of symbol.Loop = codes "LOOP"
spelling_of symbol.Manifest = codes "MANIFEST"
spelling_of symbol.NotEquivalent = codes "NEQV"
spelling_of symbol.Not = codes "NOT"
spelling_of symbol.Remainder = codes "REM"
spelling_of symbol.Repeat = codes "REPEAT"
spelling_of symbol.RepeatUntil = codes "REPEATUNTIL"
spelling_of symbol.RepeatWhile = codes "REPEATWHILE"
spelling_of symbol.ResultIs = codes "RESULTIS"
spelling_of symbol.Return = codes "RETURN"
spelling_of symbol.Static = codes "STATIC"
spelling_of symbol.SwitchOn = codes "SWITCHON"
spelling_of symbol.Table = codes "TABLE"
spelling_of symbol.Test = codes "TEST"
spelling_of symbol.To = codes "TO"
spelling_of symbol.True = codes "TRUE"
spelling_of symbol.Unless = codes "UNLESS"
spelling_of symbol.Until = codes "UNTIL"
spelling_of symbol.ValueOf = codes "VALOF"
spelling_of symbol.Vector = codes "VEC"
spelling_of symbol.While = codes "WHILE"
spelling_of symbol.Assign = codes ":="
spelling_of symbol.NotEqual = codes "~="
spelling_of symbol.LessEqual = codes "<="
spelling_of symbol.GreaterEqual = codes ">="
spelling_of symbol.ShiftLeft = codes "<<"
spelling_of symbol.ShiftRight = codes ">>"
spelling_of symbol.Arrow = codes "->"
spelling_of symbol.OpenSection = codes "$("
spelling_of symbol.CloseSection = codes "$)"
spelling_of symbol.OpenBracket = codes "("
spelling_of symbol.CloseBracket = codes ")"
spelling_of symbol.Comma = codes ","
spelling_of symbol.Semicolon = codes ";"
spelling_of symbol.Colon = codes ":"
spelling_of symbol.Indirection = codes "!"
spelling_of symbol.AddressOf = codes "@"
spelling_of symbol.Plus = codes "+"
spelling_of symbol.Minus = codes "-"
spelling_of symbol.Multiply = codes "*"
spelling_of symbol.Divide = codes "/"
spelling_of symbol.Equal = codes "="
spelling_of symbol.Less = codes "<"
spelling_of symbol.Greater = codes ">"
spelling_of symbol.LogicalAnd = codes "&"
spelling_of symbol.LogicalOr = codes "|"

-- all spellings, each with its symbol
abbrev pub spellings : List (List ℕ × Symbol)
spellings =
    (codes "AND", symbol.And) ∷
    (codes "BE", symbol.Be) ∷
    (codes "BREAK", symbol.Break) ∷
    (codes "BY", symbol.By) ∷
    (codes "CASE", symbol.Case) ∷
    (codes "DEFAULT", symbol.Default) ∷
    (codes "DO", symbol.Do) ∷
    (codes "ELSE", symbol.Else) ∷
    (codes "ENDCASE", symbol.EndCase) ∷
    (codes "EQV", symbol.Equivalent) ∷
    (codes "FALSE", symbol.False) ∷
    (codes "FINISH", symbol.Finish) ∷
    (codes "FOR", symbol.For) ∷
    (codes "GET", symbol.Get) ∷
    (codes "GLOBAL", symbol.Global) ∷
    (codes "GOTO", symbol.Goto) ∷
    (codes "IF", symbol.If) ∷
    (codes "INTO", symbol.Into) ∷
    (codes "LET", symbol.Let) ∷
    (codes "LOOP", symbol.Loop) ∷
    (codes "MANIFEST", symbol.Manifest) ∷
    (codes "NEQV", symbol.NotEquivalent) ∷
    (codes "NOT", symbol.Not) ∷
    (codes "REM", symbol.Remainder) ∷
    (codes "REPEAT", symbol.Repeat) ∷
    (codes "REPEATUNTIL", symbol.RepeatUntil) ∷
    (codes "REPEATWHILE", symbol.RepeatWhile) ∷
    (codes "RESULTIS", symbol.ResultIs) ∷
    (codes "RETURN", symbol.Return) ∷
    (codes "STATIC", symbol.Static) ∷
    (codes "SWITCHON", symbol.SwitchOn) ∷
    (codes "TABLE", symbol.Table) ∷
    (codes "TEST", symbol.Test) ∷
    (codes "TO", symbol.To) ∷
    (codes "TRUE", symbol.True) ∷
    (codes "UNLESS", symbol.Unless) ∷
    (codes "UNTIL", symbol.Until) ∷
    (codes "VALOF", symbol.ValueOf) ∷
    (codes "VEC", symbol.Vector) ∷
    (codes "WHILE", symbol.While) ∷
    (codes ":=", symbol.Assign) ∷
    (codes "~=", symbol.NotEqual) ∷
    (codes "<=", symbol.LessEqual) ∷
    (codes ">=", symbol.GreaterEqual) ∷
    (codes "<<", symbol.ShiftLeft) ∷
    (codes ">>", symbol.ShiftRight) ∷
    (codes "->", symbol.Arrow) ∷
    (codes "$(", symbol.OpenSection) ∷
    (codes "$)", symbol.CloseSection) ∷
    (codes "(", symbol.OpenBracket) ∷
    (codes ")", symbol.CloseBracket) ∷
    (codes ",", symbol.Comma) ∷
    (codes ";", symbol.Semicolon) ∷
    (codes ":", symbol.Colon) ∷
    (codes "!", symbol.Indirection) ∷
    (codes "@", symbol.AddressOf) ∷
    (codes "+", symbol.Plus) ∷
    (codes "-", symbol.Minus) ∷
    (codes "*", symbol.Multiply) ∷
    (codes "/", symbol.Divide) ∷
    (codes "=", symbol.Equal) ∷
    (codes "<", symbol.Less) ∷
    (codes ">", symbol.Greater) ∷
    (codes "&", symbol.LogicalAnd) ∷
    (codes "|", symbol.LogicalOr) ∷
    (codes "THEN", symbol.Do) ∷
    (codes "OR", symbol.Else) ∷
    (codes "~", symbol.Not) ∷
    (codes "NE", symbol.NotEqual) ∷
    (codes "LE", symbol.LessEqual) ∷
    (codes "GE", symbol.GreaterEqual) ∷
    (codes "LSHIFT", symbol.ShiftLeft) ∷
    (codes "RSHIFT", symbol.ShiftRight) ∷
    (codes "EQ", symbol.Equal) ∷
    (codes "LS", symbol.Less) ∷
    (codes "GR", symbol.Greater) ∷
    (codes "/\\", symbol.LogicalAnd) ∷
    (codes "LOGAND", symbol.LogicalAnd) ∷
    (codes "\\/", symbol.LogicalOr) ∷
    (codes "LOGOR", symbol.LogicalOr) ∷
    []

-- the symbol of the first row of a table with this text
abbrev pub symbol_in : List (List ℕ × Symbol) → List ℕ → Option Symbol
symbol_in [] text = None
symbol_in (row ∷ rows) text = cond (pointwise nat_eq row.0 text) (Some row.1) (symbol_in rows text)

-- the symbol with this spelling
unfoldable pub symbol_of : List ℕ → Option Symbol
symbol_of text = symbol_in spellings text
