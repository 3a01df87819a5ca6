-- A program of sections means what the program of their translations means.
use Rattle.std.proofs.Common.{◌≡◌, ◌∙◌, ℕ, ◌+◌, ◌==◌, Bool, true, false, List, [], ◌∷◌, ◌++◌, map, Option, Some, None, refl, sym, ap, subst}
use Rattle.bc_parse_tree.specs.Tree.{Declarations}
use Rattle.bc_core.specs.Level.{level_after_parameters}
use Rattle.bc_core.specs.Layout.{cells_of_valofs}
use Rattle.bc_core.specs.Outcome.{then_do}
use Rattle.bc_core.specs.Primitive.{Primitive, primitives, primitive_among}
use Rattle.bc_core.specs.Map.{Placed, placed, Words, standing_from, standing}
use Rattle.bc_core.specs.Map as places
use Rattle.bc_core.specs.Words.{string_words}
use Rattle.bc_core.specs.Start.{start_cells}
use Rattle.bc_core.specs.Meaning.{Call, routine_value, body_value, Callee, OfSection, OfLibrary, callee_among, of_library, Entered, entered_of, entered_at, meaning_over}
use Rattle.bc_core.specs.Meaning as meaning
use Rattle.bc_scope_defs.specs.Meaning.{Around}
use Rattle.bc_scope_defs.specs.Found.{AStatic, ATable, AText, Thing, AValof, ARoutine, Data, FoundRoutine, RoutineBody, Gives, Does, found_in_section}
use Rattle.bc_scope_defs.specs.Translation.{core_of, core_routine, core_body, places_of, valofs_of}
use Rattle.bc_scope_defs.specs.Sections.{PlacedSection, placed_sections, around, routine_does, routine_entered, routine_among, or_else, primitive_entered, find, standing_of, standing_in}
use Rattle.bc_scope_laws.specs.Laws.{SectionsKeepTheirMeaning}
use Rattle.bc_scope_laws.proofs.Forms.{in_context}
use Rattle.bc_scope_laws.proofs.Main.{Bodies, AllRight, first, exp_means, block_means}
use Rattle.bc_scope_laws.proofs.Numbered.{Nested, found_in_routine, routine_body, all_nested}
use Rattle.bc_scope_laws.proofs.Table.{table, table_right}
use Rattle.bc_scope_laws.proofs.AlikeWidths.{same_frame}
use Rattle.bc_scope_laws.proofs.Widths.{AllWide, table_wide, wide_in_routine, first_wide}

-- both find the same routine

routine_kept : (A : Around) (V : Bodies) (f : ℕ) (r : FoundRoutine) (b : RoutineBody) → AllRight A V f (found_in_routine r.names r.numbers b (level_after_parameters r.parameters))
    → routine_does A r b f ≡ body_value (in_context A V) (core_body r.names r.numbers b (level_after_parameters r.parameters)) f (level_after_parameters r.parameters)
routine_kept A V f r (Gives e) h = λ i. (exp_means A V f r.names r.numbers e (level_after_parameters r.parameters) h i).content.value
routine_kept A V f r (Does b) h = λ i. then_do (block_means A V f r.names r.numbers b (level_after_parameters r.parameters) h i) routine_value

tested : (b : Bool) (x : Callee) (y : Entered) (c : Option Callee) (d : Option Entered) → Some y ≡ entered_of (Some x) → d ≡ entered_of c
    → elim b [ true ↦ Some y | false ↦ d ] ≡ entered_of (elim b [ true ↦ Some x | false ↦ c ])
tested true x y c d h k = h
tested false x y c d h k = k

abbrev bodies : (ℕ → ℕ) → List Thing → Call → Bodies
bodies address all call = table (around address call) 0 all

among_kept : (address : ℕ → ℕ) (ds : Declarations) (n q : ℕ) (things : List Thing) (a : ℕ)
    → ((call : Call) (f : ℕ) → AllRight (around address call) (bodies address (found_in_section ds) call) f things) → AllWide (cells_of_valofs 0 (valofs_of (found_in_section ds))) things → Nested n q things
    → routine_among address things a ≡ entered_of (callee_among (record { core = core_of ds; address = address }) q (places_of things) a)
among_kept address ds n q [] a h w k = refl
among_kept address ds n q (AValof f ∷ things) a h w k = among_kept address ds (n + 1) q things a (λ call p. (h call p).1) w.1 k.2
among_kept address ds n q (Data x (AStatic word) ∷ things) a h w k = among_kept address ds n (q + 1) things a h w k.0
among_kept address ds n q (Data x (ATable words) ∷ things) a h w k = among_kept address ds n (q + 1) things a h w k.0
among_kept address ds n q (Data x (AText bytes) ∷ things) a h w k = among_kept address ds n (q + 1) things a h w k.0
among_kept address ds n q (ARoutine r ∷ things) a h w k =
    let section : Placed = record { core = core_of ds; address = address } in
    let right : (call : Call) (f : ℕ) → AllRight (around address call) (bodies address (found_in_section ds) call) f (routine_body r) =
    λ call f. first (around address call) (bodies address (found_in_section ds) call) f (routine_body r) k.0.0 (subst (λ gs. AllRight (around address call) (bodies address (found_in_section ds) call) f gs) k.0.1 (h call f)) in
    let wide = first_wide (cells_of_valofs 0 (valofs_of (found_in_section ds))) (routine_body r) k.0.0 (subst (λ gs. AllWide (cells_of_valofs 0 (valofs_of (found_in_section ds))) gs) k.0.1 w) in
    ap (λ label. elim (address label == a) [ true ↦ Some (routine_entered address r) | false ↦ routine_among address things a ]) k.2
    ∙ tested (address q == a) (OfSection section (core_routine r)) (routine_entered address r) _ _
    (λ i. Some (record {
      parameters = r.parameters;
      frame = (sym (same_frame r) ∙ wide_in_routine (found_in_section ds) r wide) i;
      body = λ call f. routine_kept (around address call) (bodies address (found_in_section ds) call) f r r.body (right call f) i;
    }))
    (among_kept address ds n (q + 1) things a h w k.1)

either_kept : (x : Option Entered) (y : Option Entered) (c d : Option Callee) → x ≡ entered_of c → y ≡ entered_of d → or_else x y ≡ entered_of (meaning.or_else c d)
either_kept x y None d h k = ap (λ z. or_else z y) h ∙ k
either_kept x y (Some (OfSection section r)) d h k = ap (λ z. or_else z y) h
either_kept x y (Some (OfLibrary primitive)) d h k = ap (λ z. or_else z y) h

library_kept : (p : Option Primitive) → primitive_entered p ≡ entered_of (of_library p)
library_kept None = refl
library_kept (Some primitive) = refl

abbrev placed_core : PlacedSection → Placed
placed_core s = record { core = core_of s.declarations; address = s.address }

find_kept : (sections : List PlacedSection) (a : ℕ) → find sections a ≡ entered_at (map placed_core sections) a
find_kept [] a = library_kept (primitive_among primitives a)
find_kept (s ∷ ss) a =
    let ds = s.declarations in
    let things = found_in_section ds in
    let nested = all_nested ds in
    either_kept _ _ _ _
    (among_kept s.address ds 0 1 things a (λ call f. table_right (around s.address call) f 0 1 things nested) (table_wide 0 1 things nested) nested)
    (find_kept ss a)

-- and the same things are at the same addresses

standing_kept : (address : ℕ → ℕ) (n q : ℕ) (things : List Thing) → Nested n q things → standing_of address things ≡ standing_from address q (places_of things)
standing_kept address n q [] k = refl
standing_kept address n q (AValof f ∷ things) k = standing_kept address (n + 1) q things k.2
standing_kept address n q (ARoutine r ∷ things) k = λ i. record { address = address (k.2 i); holding = places.ARoutine r.global } ∷ standing_kept address n (q + 1) things k.1 i
standing_kept address n q (Data label (AStatic word) ∷ things) k = λ i. record { address = address (k.1 i); holding = Words (word ∷ []) } ∷ standing_kept address n (q + 1) things k.0 i
standing_kept address n q (Data label (ATable words) ∷ things) k = λ i. record { address = address (k.1 i); holding = Words words } ∷ standing_kept address n (q + 1) things k.0 i
standing_kept address n q (Data label (AText bytes) ∷ things) k = λ i. record { address = address (k.1 i); holding = Words (string_words bytes) } ∷ standing_kept address n (q + 1) things k.0 i

all_standing_kept : (sections : List PlacedSection) → standing_in sections ≡ standing (map placed_core sections)
all_standing_kept [] = refl
all_standing_kept (s ∷ ss) = λ i. standing_kept s.address 0 1 (found_in_section s.declarations) (all_nested s.declarations) i ++ all_standing_kept ss i

placed_kept : (sections : List Declarations) (addresses : List (ℕ → ℕ)) → map placed_core (placed_sections sections addresses) ≡ placed (map core_of sections) addresses
placed_kept [] addresses = refl
placed_kept (ds ∷ sections) [] = refl
placed_kept (ds ∷ sections) (address ∷ addresses) = λ i. record { core = core_of ds; address = address } ∷ placed_kept sections addresses i

pub sections_keep : SectionsKeepTheirMeaning
sections_keep sections m streams n =
    let program = placed_sections sections m.places in
    (λ i. meaning_over (start_cells (all_standing_kept program i)) (λ a. find_kept program a i) m.stack_base streams n)
    ∙ ap (λ cores. meaning_over (start_cells (standing cores)) (entered_at cores) m.stack_base streams n) (placed_kept sections m.places)
