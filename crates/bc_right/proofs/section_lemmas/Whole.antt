-- The laws of scopes and of linked programs combined.
use Rattle.std.proofs.Common.{◌≡◌, true, List, map, subst, sym}
use Rattle.std.specs.Prelude.{All}
use Rattle.std.proofs.lemmas.List.Elements.{All-map, All-weaker}
use Rattle.bc_machine_defs.specs.State.{start}
use Rattle.bc_parse_tree.specs.Tree.{Declarations}
use Rattle.bc_core.specs.WellFormed.{is_core}
use Rattle.bc_core.specs.Same.{Same}
use Rattle.bc_scope_defs.specs.Translation.{core_of}
use Rattle.bc_gen_defs.specs.Bodies.{coding_of}
use Rattle.bc_link.specs.Layout.{stack_base_of}
use Rattle.bc_link.specs.Store.{store_of}
use Rattle.bc_scope_laws.proofs.Fitting.{sections_fit}
use Rattle.bc_scope_laws.proofs.Program.{sections_keep}
use Rattle.bc_right.specs.programs.Linked.{segments_of, linked_map}
use Rattle.bc_right.proofs.program_lemmas.Program.{programs_run}
use Rattle.bc_right.specs.sections.Whole.{IsFaultless, SectionsRun}

-- sections without fault are well formed
all_fit : (sections : List Declarations) → All IsFaultless sections → All (λ core. is_core core ≡ true) (map core_of sections)
all_fit sections faultless =
    All-map (λ core. is_core core ≡ true) core_of sections
    (All-weaker IsFaultless (λ section. is_core (core_of section) ≡ true) (λ section h. sections_fit section h.size h.no_fault) sections faultless)

pub sections_run : SectionsRun
sections_run T choice sections faultless linked words streams bytes n =
    let coding = coding_of choice in
    let cores = map core_of sections in
    let segments = segments_of coding cores in
    subst (λ result. Same result n (start (store_of segments) (stack_base_of segments) streams))
    (sym (sections_keep sections (linked_map coding cores) streams n))
    (programs_run T choice cores (all_fit sections faultless) linked words streams bytes n)
