-- For proofs: the symbols of single bytes, and the first two bytes of spellings, as the code tests them.
use Rattle.std.specs.Prelude.{ℕ, Bool, true, false, ◌||◌, ◌==◌, List, [], ◌∷◌, Option, Some, None, if◌then◌else◌}
use Rattle.bc_lex_tokens.specs.declared.symbol.Symbol.{Symbol}
use Rattle.bc_lex_tokens.specs.declared.symbol.Symbol.TheVariants as symbol

-- the symbol whose spelling is this single byte
abbrev pub symbol_by_byte : ℕ → Option Symbol
symbol_by_byte b =
    if b == 40 then Some symbol.OpenBracket
    else (if b == 41 then Some symbol.CloseBracket
    else (if b == 44 then Some symbol.Comma
    else (if b == 59 then Some symbol.Semicolon
    else (if b == 58 then Some symbol.Colon
    else (if b == 33 then Some symbol.Indirection
    else (if b == 64 then Some symbol.AddressOf
    else (if b == 43 then Some symbol.Plus
    else (if b == 45 then Some symbol.Minus
    else (if b == 42 then Some symbol.Multiply
    else (if b == 47 then Some symbol.Divide
    else (if b == 61 then Some symbol.Equal
    else (if b == 60 then Some symbol.Less
    else (if b == 62 then Some symbol.Greater
    else (if b == 38 then Some symbol.LogicalAnd
    else (if b == 124 then Some symbol.LogicalOr
    else (if b == 126 then Some symbol.Not
    else None))))))))))))))))

-- whether some spelling begins with these two bytes
abbrev pub begins_spelling : ℕ → ℕ → Bool
begins_spelling a b =
    if (a == 65) || (a == 85) then b == 78
    else (if a == 66 then (b == 69) || (b == 82) || (b == 89)
    else (if (a == 67) || (a == 77) then b == 65
    else (if (a == 68) || (a == 78) then (b == 69) || (b == 79)
    else (if a == 69 then (b == 76) || (b == 78) || (b == 81)
    else (if a == 70 then (b == 65) || (b == 73) || (b == 79)
    else (if a == 71 then (b == 69) || (b == 76) || (b == 79) || (b == 82)
    else (if a == 73 then (b == 70) || (b == 78)
    else (if a == 76 then (b == 69) || (b == 79) || (b == 83)
    else (if a == 79 then b == 82
    else (if a == 82 then (b == 69) || (b == 83)
    else (if a == 83 then (b == 84) || (b == 87)
    else (if a == 84 then (b == 65) || (b == 69) || (b == 72) || (b == 79) || (b == 82)
    else (if a == 86 then (b == 65) || (b == 69)
    else (if a == 87 then b == 72
    else (if (a == 58) || (a == 126) then b == 61
    else (if a == 60 then (b == 60) || (b == 61)
    else (if a == 62 then (b == 61) || (b == 62)
    else (if a == 45 then b == 62
    else (if a == 36 then (b == 40) || (b == 41)
    else (if a == 47 then b == 92
    else (if a == 92 then b == 47
    else false)))))))))))))))))))))

-- whether the first two bytes of a text allow that it is a spelling
abbrev pub may_spell : List ℕ → Bool
may_spell (a ∷ b ∷ bs) = begins_spelling a b
may_spell bs = true
