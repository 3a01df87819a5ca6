-- Worked examples: the number of labels that a section may take.
use Rattle.std.specs.Prelude.{◌≡◌, ℕ, ◌+◌, ◌≤◌, List, [], ◌∷◌, Some}
use Rattle.std.proofs.Common.{arith}
use Rattle.bc_core.specs.Tree.{Num}
use Rattle.bc_core.specs.Commands.{Core, Gives}
use Rattle.bc_core.specs.Commands as commands
use Rattle.bc_rules_defs.specs.declared.rule.Rule.TheVariants as rule
use Rattle.bc_rules_defs.specs.Rules.{by, no_part}
use Rattle.bc_gen_defs.specs.Bodies.{Coding}
use Rattle.bc_gen_defs.specs.Section.{labels_suffice}

-- ---- Worked examples

-- roots that take n labels each
abbrev taking : ℕ → Coding
taking n = record { pieces = λ r t f. []; labels = λ r. n; derivation = λ r. by rule.V1 no_part }

-- `START() = 1`, with the label of the routine and those of one root
abbrev one_root : Core
one_root = record { places = commands.Code (record { global = Some 1; parameters = 0; body = Gives (Num 1) }) ∷ []; valofs = [] }

-- 20,000 labels suffice, 20,001 are too many
just : labels_suffice (taking 19999) one_root
just = omega arith

one_more : ¬ labels_suffice (taking 20000) one_root
one_more h = omega (arith, h)
