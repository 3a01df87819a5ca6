-- The entries of sections belong to their roots.
use Rattle.std.proofs.Common.{◌≡◌, ◌∙◌, ℕ, ◌+◌, List, [], ◌∷◌, ◌++◌, map, refl, ap}
use Rattle.std.specs.Prelude.{flat_map}
use Rattle.std.proofs.lemmas.List.{map-append}
use Rattle.bc_parse_tree.specs.Tree.{Declarations}
use Rattle.bc_core.specs.Tree.{Root}
use Rattle.bc_rules_defs.specs.declared.rule.Table.TheVariants.{Two}
use Rattle.bc_rules_defs.specs.Entry.{Entry}
use Rattle.bc_select_defs.specs.Chosen.{chosen}
use Rattle.bc_scope_defs.specs.Translation.{core_of}
use Rattle.bc_gen_defs.specs.Entries.{section_entries}
use Rattle.bc_gen.specs.Chosen.{coding}
use Rattle.bc_gen_laws.proofs.root_lemmas.Marks.{entries_are_of_the_roots}
use Rattle.bc_build.specs.Code.{in_segment, entries_of, entries_from}
use Rattle.bc_build.specs.Size.{section_roots}

abbrev root_of : Entry → Root
root_of e = e.root

same_roots : (k : ℕ) (es : List Entry) → map root_of (map (in_segment k) es) ≡ map root_of es
same_roots k [] = refl
same_roots k (e ∷ es) = ap (λ rs. e.root ∷ rs) (same_roots k es)

of_section : (k : ℕ) (section : Declarations) → map root_of (entries_of k section) ≡ section_roots section
unfolding coding
of_section k section = same_roots k (section_entries coding (core_of section)) ∙ entries_are_of_the_roots Two (chosen Two) (core_of section)

pub of_sections : (k : ℕ) (sections : List Declarations) → map root_of (entries_from k sections) ≡ flat_map section_roots sections
of_sections k [] = refl
of_sections k (s ∷ ss) =
    map-append root_of (entries_of k s) (entries_from (k + 1) ss)
    ∙ ap (λ rs. rs ++ map root_of (entries_from (k + 1) ss)) (of_section k s)
    ∙ ap (λ rs. section_roots s ++ rs) (of_sections (k + 1) ss)
