-- Worked examples: the sums of a verdict.
use Rattle.std.specs.Prelude.{ℕ, ◌≡◌, ◌^◌, ◌-◌, List, [], ◌∷◌, refl}
use Rattle.bc_core.specs.Tree.{Num, Value}
use Rattle.bc_rules_defs.specs.declared.rule.Table.TheVariants.{One, Two}
use Rattle.bc_cert_defs.specs.Verdict.{Judged, Verdict}
use Rattle.bc_cert.specs.declared.sums.Sums.{Sums}
use Rattle.bc_cert.specs.Answer.{AreSums}

-- an entry with this number of words
abbrev of_words : ℕ → Judged
of_words n = record { segment = 0; item = 0; root = Value 2 (Num 0); target = 0; first = 0; code = []; words = n }

-- the sums of no entries
none : AreSums (record { table = One; entries = 0; words = 0 }) (record { table = One; entries = [] })
none = record { table = refl; entries = refl; words = refl }

-- two entries, of four words and of three
abbrev two : Verdict
two = record { table = Two; entries = of_words 4 ∷ of_words 3 ∷ [] }

seven : AreSums (record { table = Two; entries = 2; words = 7 }) two
seven = record { table = refl; entries = refl; words = refl }

-- another number isn't the sum of their words, and another one isn't the number of entries
not_eight : AreSums (record { table = Two; entries = 2; words = 8 }) two → ⊥
not_eight sums = absurd (let same : 8 ≡ 7 = sums.words in cc)

not_one : AreSums (record { table = Two; entries = 1; words = 7 }) two → ⊥
not_one sums = absurd (let same : 1 ≡ 2 = sums.entries in cc)

-- more words than fit into 64 bits
abbrev many : Verdict
many = record { table = Two; entries = of_words (2 ^ 64 - 2) ∷ of_words 3 ∷ [] }

most : AreSums (record { table = Two; entries = 2; words = 2 ^ 64 - 1 }) many
most = record { table = refl; entries = refl; words = refl }

not_around : AreSums (record { table = Two; entries = 2; words = 1 }) many → ⊥
not_around sums = absurd (let same : 1 ≡ 2 ^ 64 - 1 = sums.words in cc)
