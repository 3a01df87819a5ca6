-- The number of words of a program.
use Rattle.std.specs.Prelude.{◌≡◌, ℕ, ◌+◌, List, [], ◌∷◌, sum_by}
use Rattle.bc_machine_defs.specs.declared.image.Image.{Image}
use Rattle.bc_parse_tree.specs.Tree.{Declarations}
use Rattle.bc_core.specs.Tree.{Root}
use Rattle.bc_scope_defs.specs.Translation.{core_of}
use Rattle.bc_rules_defs.specs.declared.rule.Table.TheVariants.{Two}
use Rattle.bc_rules_defs.specs.Code.{root_cost}
use Rattle.bc_select_defs.specs.LeastDerivation.{least_derivation}
use Rattle.bc_gen_laws.specs.roots.Roots.{in_code, roots_of}
use Rattle.bc_gen_laws.specs.roots.Laws.{fixed_words}

-- The roots of a section, found by walking its commands. The VALOFs of a root are visited in the order of its code.
abbrev pub section_roots : Declarations → List Root
section_roots section = roots_of (in_code (least_derivation Two)) (core_of section)

-- The words of a section: the fixed ones of its commands and data, and the least words of its roots.
abbrev pub section_words : Declarations → ℕ
section_words section = fixed_words (core_of section) + sum_by (λ r. root_cost (least_derivation Two r)) (section_roots section)

-- the words of all sections
abbrev pub words_of : List Declarations → ℕ
words_of [] = 0
words_of (section ∷ sections) = section_words section + words_of sections

-- The stack begins after the globals, the 26 words of the primitives, and the words of the sections.
abbrev pub HasSize : List Declarations → Image → Type 0
HasSize sections image = image.stack_base ≡ 546 + words_of sections
