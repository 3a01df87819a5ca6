-- The code of sections: their items and their entries.
use Rattle.std.specs.Prelude.{ℕ, ◌≡◌, ◌+◌, List, [], ◌∷◌, ◌++◌, map, None}
use Rattle.bc_text_items.specs.declared.item.Item.{Item}
use Rattle.bc_rules_defs.specs.Entry.{Entry}
use Rattle.bc_rules_defs.specs.View.{entry as entry_view}
use Rattle.bc_rules_defs.specs.declared.entry.Entry as code
use Rattle.bc_parse_tree.specs.Tree.{Declarations}
use Rattle.bc_lex.specs.Files.{File}
use Rattle.bc_link.specs.Refusals.{refusal_of}
use Rattle.bc_run.specs.Runs.{with_primitives}
use Rattle.bc_scope_defs.specs.Translation.{core_of}
use Rattle.bc_gen_defs.specs.Section.{section_items}
use Rattle.bc_gen_defs.specs.Entries.{section_entries}
use Rattle.bc_gen.specs.Chosen.{coding}
use Rattle.bc_build.specs.Parsed.{IsParsed}
use Rattle.bc_build.specs.Compiled.{IsAccepted}
use Rattle.bc_build.specs.declared.building.Built.{Built}

-- The items of a section.
abbrev pub items_of : Declarations → List Item
items_of section = section_items coding (core_of section)

-- the entry as one of the segment k
abbrev pub in_segment : ℕ → Entry → Entry
in_segment k e = record e { segment = k }

-- the entries of a section whose segment has the number k
abbrev pub entries_of : ℕ → Declarations → List Entry
entries_of k section = map (in_segment k) (section_entries coding (core_of section))

-- the entries of sections whose segments are numbered from k on
abbrev pub entries_from : ℕ → List Declarations → List Entry
entries_from k [] = []
entries_from k (section ∷ sections) = entries_of k section ++ entries_from (k + 1) sections

-- There is one segment for each section, with its items, and the entries are those of all sections. The linker refuses nothing.
pub record HasCode (sections : List Declarations) (built : Built) : Type 0 where
  pub segments : built.segments.items ≡ map items_of sections
  pub entries : map entry_view built.entries.items ≡ entries_from 0 sections
  pub linked : refusal_of (with_primitives (map items_of sections)) ≡ None

-- The items and entries are those of the main, which is exactly this section.
pub record IsCompiled (files : List File) (main : ℕ) (items : List Item) (entries : List code.Entry) : Type 0 where
  pub section : Declarations
  pub accepted : IsAccepted files main section
  pub only : (other : Declarations) → IsParsed files main other → other ≡ section
  pub items_are : items ≡ items_of section
  pub entries_are : map entry_view entries ≡ section_entries coding (core_of section)
