-- Worked examples: the items and entries of whole sections.
use Rattle.std.specs.Prelude.{◌≡◌, ℕ, true, false, [], ◌∷◌, map, Some, None, refl}
use Rattle.bc_text_items.specs.declared.item.Item.TheVariants.{Label, Data, Byte, Operation, Global}
use Rattle.bc_text_items.specs.declared.item.Base.TheVariants as bases
use Rattle.bc_text_items.specs.declared.item.Function.TheVariants as functions
use Rattle.bc_core.specs.Tree.{Num, Glob, Load, Call, no_argument, argument, Root, Value}
use Rattle.bc_core.specs.Commands.{block, no_item, command, Does, Gives, Core}
use Rattle.bc_core.specs.Commands as commands
use Rattle.bc_rules_defs.specs.declared.rule.Table.TheVariants.{One}
use Rattle.bc_rules_defs.specs.declared.rule.Rule.TheVariants as rule
use Rattle.bc_rules_defs.specs.Rules.{RootDerives, value, v0, v1, v22, no_more, one_more, by, one, two, no_part, root_shape}
use Rattle.bc_rules_defs.specs.Code.{root_code, root_labels}
use Rattle.bc_rules_defs.specs.Entry.{Entry}
use Rattle.bc_gen_defs.specs.Emit.{execute, zero_item}
use Rattle.bc_gen_defs.specs.Bodies.{Coding}
use Rattle.bc_gen_defs.specs.Section.{section_items}
use Rattle.bc_gen_defs.specs.Entries.{section_entries}

-- ---- Worked examples

-- `LET START() BE WRCH('A')`, with START in global 1 and WRCH in global 14
abbrev wrch_a : Root
wrch_a = Value 2 (Call (argument (Num 65) no_argument) (Load (Glob 14)))

abbrev by_call : RootDerives One wrch_a
by_call = value (v22 (one_more (v0 (v1 refl)) no_more) (v0 (v1 refl)))

abbrev its_code : Coding
its_code = record { pieces = λ r t f. root_code by_call t f; labels = λ r. root_labels by_call; derivation = λ r. root_shape by_call }

abbrev prints_a : Core
prints_a = record {
  places =
      commands.Code (record {
        global = Some 1;
        parameters = 0;
        body = Does (block [] (command (commands.Call (Call (argument (Num 65) no_argument) (Load (Glob 14)))) no_item));
      })
      ∷ [];
  valofs = [];
}

-- `1 L65 SP4 LIG14 K2 L0 X4 G1L1`
items : section_items its_code prints_a
    ≡ Label 1 ∷ Operation functions.Load false bases.Number 65 ∷ Operation functions.Store false bases.P 4 ∷ Operation functions.Load true bases.G 14
    ∷ Operation functions.Call false bases.Number 2 ∷ zero_item ∷ execute 4 ∷ Global 1 1 ∷ []
items = refl

-- one entry, at item 1, without a target, with first label 2
entries : section_entries its_code prints_a
    ≡ record {
      segment = 0;
      item = 1;
      target = 0;
      first = 2;
      root = wrch_a;
      derivation = by rule.V22 (two (by rule.V0 (one (by rule.V1 no_part))) (by rule.V0 (one (by rule.V1 no_part))));
      bodies = [];
    }
    ∷ []
entries = refl

-- roots without code
abbrev no_code : Coding
no_code = record { pieces = λ r t f. []; labels = λ r. 0; derivation = λ r. by rule.V1 no_part }

-- `STATIC $( S = 7 $)`, `LET F() = 1`, a string "Hi" in F, and `LET START() BE $( $)` with START in global 1: the routines come
-- first, with the labels of their places, then the data
abbrev mixed : Core
mixed = record {
  places =
      commands.Static 7 ∷ commands.Code (record { global = None; parameters = 0; body = Gives (Num 1) }) ∷ commands.Text (72 ∷ 105 ∷ [])
      ∷ commands.Code (record { global = Some 1; parameters = 0; body = Does (block [] no_item) }) ∷ [];
  valofs = [];
}

mixed_items : section_items no_code mixed
    ≡ Label 2 ∷ execute 4 ∷ Label 4 ∷ zero_item ∷ execute 4 ∷ Label 1 ∷ Data 7 ∷ Label 3 ∷ Byte 2 ∷ Byte 72 ∷ Byte 105 ∷ Global 1 4 ∷ []
mixed_items = refl

-- its only root is that of F, at the level after F's parameters; the first free label after the four places is 5
abbrev place_of : Entry → Root × ℕ × ℕ
place_of e = (e.root, e.item, e.first)

mixed_roots : map place_of (section_entries no_code mixed) ≡ (Value 2 (Num 1), 1, 5) ∷ []
mixed_roots = refl

-- a section without places has no items
empty : section_items no_code (record { places = []; valofs = [] }) ≡ []
empty = refl
