-- Worked examples: the items, entries, roots and size of a section with a VALOF in a VALOF.
use Rattle.std.specs.Prelude.{◌≡◌, ℕ, ◌+◌, true, false, List, [], ◌∷◌, map, sum_by, Some, refl}
use Rattle.bc_text_items.specs.declared.item.Item.{Item}
use Rattle.bc_text_items.specs.declared.item.Item.TheVariants.{Label, Operation, Global}
use Rattle.bc_text_items.specs.declared.item.Base.TheVariants.{Number, P}
use Rattle.bc_text_items.specs.declared.item.Function.TheVariants.{Load as loads, Store as stores}
use Rattle.bc_text_items.specs.Sizes.{size_of_all}
use Rattle.bc_core.specs.Tree.{Num, Frame, Load, Valof, Root, Value, Assign}
use Rattle.bc_core.specs.Commands.{block, no_item, command, Initial, Does, Core}
use Rattle.bc_core.specs.Commands as commands
use Rattle.bc_rules_defs.specs.declared.piece.Piece.{Piece}
use Rattle.bc_rules_defs.specs.declared.piece.Piece.TheVariants.{Body}
use Rattle.bc_rules_defs.specs.declared.piece.Piece.TheVariants as pieces
use Rattle.bc_rules_defs.specs.declared.rule.Rule.TheVariants as rule
use Rattle.bc_rules_defs.specs.Rules.{by, no_part}
use Rattle.bc_rules_defs.specs.Piece.{label, SP, LIP}
use Rattle.bc_rules_defs.specs.Entry.{Entry}
use Rattle.bc_gen_defs.specs.Emit.{jump, execute, zero_item}
use Rattle.bc_gen_defs.specs.Bodies.{Coding}
use Rattle.bc_gen_defs.specs.Section.{section_items, labels_suffice}
use Rattle.bc_gen_defs.specs.Entries.{section_entries}
use Rattle.bc_gen_defs.specs.Size.{section_size}
use Rattle.bc_gen_laws.specs.roots.Roots.{bodies_in, roots_of}
use Rattle.bc_gen_laws.specs.roots.Laws.{fixed_words}

-- `LET START() BE $( LET X = VALOF $( LET Y = VALOF RESULTIS 5; RESULTIS Y $) $)`
abbrev pub nested : Core
nested = record {
  places = commands.Code (record { global = Some 1; parameters = 0; body = Does (block ((Initial (Valof 0) ∷ []) ∷ []) no_item) }) ∷ [];
  valofs =
      record { level = 3; body = block ((Initial (Valof 1) ∷ []) ∷ []) (command (commands.ResultIs (Load (Frame 3))) no_item) }
      ∷ record { level = 4; body = block [] (command (commands.ResultIs (Num 5)) no_item) } ∷ [];
}

-- the code of its roots: a number, a variable, and an assignment of a VALOF's value to a variable
abbrev some_pieces : Root → ℕ → List Piece
some_pieces (Value s (Num n)) f = pieces.Item (Operation loads false Number n) ∷ []
some_pieces (Value s (Load (Frame k))) f = LIP k ∷ []
some_pieces (Assign s (Valof n) (Frame k)) f = Body n ∷ label f ∷ SP k ∷ []
some_pieces r f = []

abbrev some_labels : Root → ℕ
some_labels (Assign s (Valof n) a) = 1
some_labels r = 0

abbrev pub some_code : Coding
some_code = record { pieces = λ r t f. some_pieces r f; labels = some_labels; derivation = λ r. by rule.V1 no_part }

-- `1 L5 JL3 L0 3 SP3 LIP3 JL2 L0 2 SP2 L0 X4 G1L1`
pub nested_items : section_items some_code nested
    ≡ Label 1 ∷ Operation loads false Number 5 ∷ jump 3 ∷ zero_item ∷ Label 3 ∷ Operation stores false P 3 ∷ Operation loads true P 3 ∷ jump 2
    ∷ zero_item ∷ Label 2 ∷ Operation stores false P 2 ∷ zero_item ∷ execute 4 ∷ Global 1 1 ∷ []
nested_items = refl

-- the index of a root's code, its first label, and the numbers of items of its VALOFs' bodies
abbrev place_of : Entry → ℕ × ℕ × List ℕ
place_of e = (e.item, e.first, e.bodies)

-- a root comes before those in its VALOFs' bodies
pub nested_entries : map place_of (section_entries some_code nested) ≡ (1, 2, 8 ∷ []) ∷ (1, 3, 3 ∷ []) ∷ (1, 4, []) ∷ (6, 4, []) ∷ []
nested_entries = refl

abbrev the_roots : List Root
the_roots = Assign 3 (Valof 0) (Frame 2) ∷ Assign 4 (Valof 1) (Frame 3) ∷ Value 4 (Num 5) ∷ Value 4 (Load (Frame 3)) ∷ []

pub entries_of_roots : map (λ (e : Entry). e.root) (section_entries some_code nested) ≡ the_roots
entries_of_roots = refl

-- the same by the walk, which is given each root's VALOFs
pub nested_roots : roots_of (λ r. bodies_in (some_pieces r 0)) nested ≡ the_roots
nested_roots = refl

-- 12 words: eight fixed ones, namely two jumps of two words, three `L0` and `X4`, and one word for each of four roots
pub nested_words : (fixed_words nested ≡ 8) × (size_of_all (section_items some_code nested) ≡ 8 + sum_by (λ r. 1) the_roots)
nested_words = (refl, refl)
