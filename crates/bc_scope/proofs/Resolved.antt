-- From the first fault and the translation to the contract of `resolve`.
use Rattle.std.proofs.Common.{◌≡◌, ℕ, ◌+◌, ◌≤◌, ◌<◌, refl, ap, sym, ◌∙◌, suc, List, [], ◌∷◌, length, nat_le, IsTrue, Option, Some, None, arith}
use Rattle.std.proofs.lemmas.List.{length-map}
use Rattle.bc_core.specs.View.{section, place_of}
use Rattle.bc_core.specs.WellFormed.{is_core}
use Rattle.bc_core.specs.declared.command.Place.{Place}
use Rattle.bc_core.specs.declared.command.Valof.{Valof}
use Rattle.bc_parse_tree.specs.Tree.{Declarations}
use Rattle.bc_parse_tree.specs.Size.{declarations_size}
use Rattle.bc_scope_names.specs.declared.error.ScopeError.{ScopeError}
use Rattle.bc_scope_names.specs.declared.error.ScopeError.TheVariants as code
use Rattle.bc_scope_faults.specs.Judged.{IsFault}
use Rattle.bc_scope_faults.proofs.Turns.{stays}
use Rattle.bc_scope_defs.specs.Scope.{nothing_known}
use Rattle.bc_scope_defs.specs.Found.{Thing, AValof, ARoutine, Data, section_start, found_in_section}
use Rattle.bc_scope_defs.specs.Translation.{places_of, core_of}
use Rattle.bc_scope_defs.specs.Faults.{Fault, ATooManyPlaces, unless, or_else, places_among, places_fault, section_fault}
use Rattle.bc_scope_defs.specs.FaultsAlong.{declarations_fault, frames_fault}
use Rattle.bc_scope_laws.proofs.AlikeFaults.{same_section_fault}
use Rattle.bc_scope_laws.proofs.Fitting.{sections_fit}

-- the first fault apart from too many places, as `judge` finds it
abbrev pub judged : Declarations → Option Fault
judged ds = or_else (declarations_fault nothing_known section_start ds 0) (frames_fault (found_in_section ds))

grouped : (a b c : Option Fault) → or_else a (or_else b c) ≡ or_else (or_else a b) c
grouped None b c = refl
grouped (Some f) b c = refl

pub places_last : (ds : Declarations) → section_fault ds ≡ or_else (judged ds) (places_fault (found_in_section ds))
places_last ds = sym (same_section_fault ds) ∙ grouped (declarations_fault nothing_known section_start ds 0) (frames_fault (found_in_section ds)) (places_fault (found_in_section ds))

pub fault_stays : (e : ScopeError) (ds : Declarations) → IsFault e (judged ds) → IsFault e (section_fault ds)
fault_stays e ds h = let s = stays e (judged ds) (places_fault (found_in_section ds)) h in rw (places_last ds) s

pub then_places : (ds : Declarations) → judged ds ≡ None → section_fault ds ≡ places_fault (found_in_section ds)
then_places ds h = places_last ds ∙ ap (λ x. or_else x (places_fault (found_in_section ds))) h

one_more : (a b : ℕ) → a ≡ b → suc a ≡ 1 + b
one_more a b h = omega (arith, h)

-- the number of places is the number of those translated
each_place : (things : List Thing) → length (places_of things) ≡ places_among things
each_place [] = refl
each_place (AValof f ∷ things) = each_place things
each_place (ARoutine r ∷ things) = one_more _ _ (each_place things)
each_place (Data m d ∷ things) = one_more _ _ (each_place things)

pub counted : (ds : Declarations) (ps : List Place) (vs : List Valof) → section (ps, vs) ≡ core_of ds → length ps ≡ places_among (found_in_section ds)
counted ds ps vs e = sym (length-map ps place_of) ∙ ap (λ c. length c.places) e ∙ each_place (found_in_section ds)

small : (n : ℕ) → n ≤ 8000 → unless (nat_le n 8000) ATooManyPlaces ≡ None
small n h = grind arith

large : (n : ℕ) → 8000 < n → unless (nat_le n 8000) ATooManyPlaces ≡ Some ATooManyPlaces
large n h = grind arith

pub no_fault : (ds : Declarations) (ps : List Place) (vs : List Valof) → judged ds ≡ None → section (ps, vs) ≡ core_of ds → length ps ≤ 8000 → section_fault ds ≡ None
no_fault ds ps vs h e n = then_places ds h ∙ small _ (omega (arith, counted ds ps vs e))

pub too_many : (ds : Declarations) (ps : List Place) (vs : List Valof) → judged ds ≡ None → section (ps, vs) ≡ core_of ds → 8000 < length ps → section_fault ds ≡ Some ATooManyPlaces
too_many ds ps vs h e n = then_places ds h ∙ large _ (omega (arith, counted ds ps vs e))

pub fits : (ds : Declarations) (ps : List Place) (vs : List Valof) → declarations_size ds ≤ 60000 → judged ds ≡ None → section (ps, vs) ≡ core_of ds → length ps ≤ 8000 → IsTrue (is_core (section (ps, vs)))
fits ds ps vs size h e n = ap is_core e ∙ sections_fit ds (omega arith) (no_fault ds ps vs h e n)
