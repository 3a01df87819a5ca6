-- The first and the last line of a certificate.
use Rattle.std.specs.Prelude.{ℕ, List, [], ◌∷◌, ◌++◌}
use Rattle.std.specs.Fmt.{decimal}
use Rattle.bc_rules_defs.specs.declared.rule.Table.{Table}
use Rattle.bc_rules_defs.specs.declared.rule.Table.TheVariants.{One, Two}

-- `BCPLCERT 1` or `BCPLCERT 2`, by the rule table, with its LF
abbrev pub header_line : Table → List ℕ
header_line One = 66 ∷ 67 ∷ 80 ∷ 76 ∷ 67 ∷ 69 ∷ 82 ∷ 84 ∷ 32 ∷ 49 ∷ 10 ∷ []
header_line Two = 66 ∷ 67 ∷ 80 ∷ 76 ∷ 67 ∷ 69 ∷ 82 ∷ 84 ∷ 32 ∷ 50 ∷ 10 ∷ []

-- `Z` and the number of entries, with its LF
abbrev pub end_line : ℕ → List ℕ
end_line entries = 90 ∷ 32 ∷ (decimal entries ++ 10 ∷ [])
