-- Worked examples: the labels of a section. Each CASE and DEFAULT has its own label, even if a SWITCHON has a CASE twice. A label of
-- the source that occurs twice in a list is set twice; no resolved section has one.
use Rattle.std.specs.Prelude.{◌≡◌, ℕ, false, List, [], ◌∷◌, Some, refl}
use Rattle.bc_core.specs.Tree.{Num}
use Rattle.bc_core.specs.Commands.{block, Items, no_item, command, case, default, label, Core, Does}
use Rattle.bc_core.specs.Commands as commands
use Rattle.bc_core.specs.WellFormed.{is_core}
use Rattle.bc_rules_defs.specs.declared.rule.Rule.TheVariants as rule
use Rattle.bc_rules_defs.specs.Rules.{by, no_part}
use Rattle.bc_gen_defs.specs.Bodies.{Coding}
use Rattle.bc_gen_defs.specs.Section.{section_items}
use Rattle.bc_link.specs.Labels.{labels_of, uses_of}
use Rattle.bc_link.specs.Refusals.{first_repeated}

-- roots without code
abbrev no_code : Coding
no_code = record { pieces = λ r target first. []; labels = λ r. 0; derivation = λ r. by rule.V1 no_part }

-- a routine whose body is a SWITCHON
abbrev switch : Items → Core
switch is = record {
  places = commands.Code
      (record { global = Some 1; parameters = 0; body = Does (block [] (command (commands.SwitchOn (Num 1) is) no_item)) }) ∷ [];
  valofs = [];
}

abbrev labels : Core → List ℕ
labels core = labels_of (section_items no_code core)

-- the routine's label is 1, that after the SWITCHON is 2, followed by those of CASE 3, DEFAULT and CASE 4
pub stand_once : labels (switch (case 3 (default (case 4 no_item)))) ≡ 1 ∷ 3 ∷ 4 ∷ 5 ∷ 2 ∷ []
stand_once = refl

pub spoken_of : uses_of (section_items no_code (switch (case 3 (command commands.EndCase (default no_item))))) ≡ 4 ∷ 3 ∷ 2 ∷ 1 ∷ []
spoken_of = refl

pub two_cases : labels (switch (case 3 (case 3 no_item))) ≡ 1 ∷ 3 ∷ 4 ∷ 2 ∷ []
two_cases = refl

-- of two DEFAULTs the first one is jumped to
pub two_defaults : uses_of (section_items no_code (switch (default (default no_item)))) ≡ 3 ∷ 1 ∷ []
two_defaults = refl

abbrev label_twice : Core
label_twice = switch (label 7 (label 7 no_item))

pub twice_is_no_core : is_core label_twice ≡ false
twice_is_no_core = refl

pub stands_twice : first_repeated (labels label_twice) ≡ Some 3
stands_twice = refl
