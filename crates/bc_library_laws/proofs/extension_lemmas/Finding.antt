-- A map gives the routines of a second section at their labels' addresses.
use Rattle.std.proofs.Common.{◌≡◌, ℕ, zero, suc, ◌+◌, ◌==◌, List, [], ◌∷◌, ◌++◌, map, false, Option, Some, None, refl, sym, subst, arith}
use Rattle.std.specs.Prelude.{All}
use Rattle.bc_core.specs.Commands.{Block, Valof, Place, Code, Static, Table, Text, Core, Routine}
use Rattle.bc_core.specs.Level.{level_after_parameters}
use Rattle.bc_core.specs.Map.{Placed, IsMap, placed, Standing, standing, standing_from, held_by, size_of, Range, range, range_of, Apart, AllApart}
use Rattle.bc_core.specs.Outcome.{Run, then_do}
use Rattle.bc_core.specs.Command.{perform_block}
use Rattle.bc_core.specs.Meaning.{Call, Entered, OfSection, callee_among, entered_at, entered_of, context, body_value, valof_value, valofs_from}
use Rattle.bc_library_laws.specs.Library.{library}
use Rattle.bc_library_laws.proofs.Finding.{itself, unlike}
use Rattle.bc_library_laws.specs.extension.Routines.{unpackstring, writeoct, writehex, capitalch, compstring, compstring_body, packstring, packstring_body, putnumber, writed, writeu, kept, kept_body, rdch, rdch_body, readn, readn_body}
use Rattle.bc_library_laws.specs.extension.Extension.{extension}

-- the place at an index, the first of which is 0
abbrev place_at : List Place → ℕ → Option Place
place_at [] k = None
place_at (p ∷ ps) zero = Some p
place_at (p ∷ ps) (suc k) = place_at ps k

skip : (x : Range) (xs ys : List Standing) → All (Apart x) (map range_of (xs ++ ys)) → All (Apart x) (map range_of ys)
skip x [] ys h = h
skip x (s ∷ xs) ys h = skip x xs ys (λ k d lt. h (suc k) d (omega (arith, lt)))

skip_all : (xs ys : List Standing) → AllApart (map range_of (xs ++ ys)) → AllApart (map range_of ys)
skip_all [] ys h = h
skip_all (s ∷ xs) ys h = skip_all xs ys h.1

same_place : (p q : Place) → Some p ≡ Some q → p ≡ q
same_place p q e = cc

-- what is apart from all of these places is apart from the routine at the label m
apart_from : (x : Range) (address : ℕ → ℕ) (label : ℕ) (ps : List Place) (rest : List Standing) (k m : ℕ) (r : Routine) → m ≡ label + k → place_at ps k ≡ Some (Code r)
    → All (Apart x) (map range_of (standing_from address label ps ++ rest)) → Apart x (range (address m) 1)
apart_from x address label [] rest k m r at e h = absurd (let z : ⊥ = cc in z)
apart_from x address label (p ∷ ps) rest zero m r at e h =
    let here : label ≡ m = omega (arith, at) in
    let first : Apart x (range (address label) (size_of (held_by p))) = h 0 (range 0 0) (omega arith) in
    subst (λ z. Apart x (range (address z) 1)) here (subst (λ q. Apart x (range (address label) (size_of (held_by q)))) (same_place p (Code r) e) first)
apart_from x address label (p ∷ ps) rest (suc k) m r at e h =
    apart_from x address (label + 1) ps rest k m r (omega (arith, at)) e (λ j d lt. h (suc j) d (omega (arith, lt)))

-- no routine of an earlier section has its address
none_earlier : (section : Placed) (label : ℕ) (ps : List Place) (further : ℕ → ℕ) (later : List Place) (rest : List Standing) (k m : ℕ) (r : Routine) → m ≡ 1 + k → place_at later k ≡ Some (Code r)
    → AllApart (map range_of (standing_from section.address label ps ++ (standing_from further 1 later ++ rest))) → callee_among section label ps (further m) ≡ None
none_earlier section label [] further later rest k m r at e h = refl
none_earlier section label (Code q ∷ ps) further later rest k m r at e h =
    let away : All (Apart (range (section.address label) 1)) (map range_of (standing_from further 1 later ++ rest)) =
    skip (range (section.address label) 1) (standing_from section.address (label + 1) ps) (standing_from further 1 later ++ rest) h.0 in
    let other : (section.address label == further m) ≡ false = unlike (section.address label) (further m) (apart_from (range (section.address label) 1) further 1 later rest k m r at e away) in
    rw (other, callee_among) (none_earlier section (label + 1) ps further later rest k m r at e h.1)
none_earlier section label (Static w ∷ ps) further later rest k m r at e h = none_earlier section (label + 1) ps further later rest k m r at e h.1
none_earlier section label (Table ws ∷ ps) further later rest k m r at e h = none_earlier section (label + 1) ps further later rest k m r at e h.1
none_earlier section label (Text bs ∷ ps) further later rest k m r at e h = none_earlier section (label + 1) ps further later rest k m r at e h.1

found_among : (section : Placed) (label : ℕ) (ps : List Place) (rest : List Standing) (k m : ℕ) (r : Routine) → m ≡ label + k → place_at ps k ≡ Some (Code r)
    → AllApart (map range_of (standing_from section.address label ps ++ rest)) → callee_among section label ps (section.address m) ≡ Some (OfSection section r)
found_among section label [] rest k m r at e h = absurd (let z : ⊥ = cc in z)
found_among section label (p ∷ ps) rest zero m r at e h =
    let here : m ≡ label = omega (arith, at) in
    subst (λ q. callee_among section label (q ∷ ps) (section.address m) ≡ Some (OfSection section r)) (sym (same_place p (Code r) e)) (rw (here, itself (section.address label), callee_among) refl)
found_among section label (Code q ∷ ps) rest (suc k) m r at e h =
    let other : (section.address label == section.address m) ≡ false =
    unlike (section.address label) (section.address m) (apart_from (range (section.address label) 1) section.address (label + 1) ps rest k m r (omega (arith, at)) e h.0) in
    rw (other, callee_among) (found_among section (label + 1) ps rest k m r (omega (arith, at)) e h.1)
found_among section label (Static w ∷ ps) rest (suc k) m r at e h = found_among section (label + 1) ps rest k m r (omega (arith, at)) e h.1
found_among section label (Table ws ∷ ps) rest (suc k) m r at e h = found_among section (label + 1) ps rest k m r (omega (arith, at)) e h.1
found_among section label (Text bs ∷ ps) rest (suc k) m r at e h = found_among section (label + 1) ps rest k m r (omega (arith, at)) e h.1

-- the routine at the label m of the second section
found : (core : Core) (cores : List Core) (address further : ℕ → ℕ) (places : List (ℕ → ℕ)) (base k m : ℕ) (r : Routine)
    → IsMap (library ∷ core ∷ cores) (record { places = address ∷ further ∷ places; stack_base = base }) → m ≡ 1 + k → place_at core.places k ≡ Some (Code r)
    → entered_at (placed (library ∷ core ∷ cores) (address ∷ further ∷ places)) (further m) ≡ entered_of (Some (OfSection (record { core = core; address = further }) r))
found core cores address further places base k m r is_map at e =
    let rest : List Standing = standing (placed cores places) in
    let none : callee_among (record { core = library; address = address }) 1 library.places (further m) ≡ None =
    none_earlier (record { core = library; address = address }) 1 library.places further core.places (standing (placed cores places)) k m r at e is_map.apart.1 in
    let mine : callee_among (record { core = core; address = further }) 1 core.places (further m) ≡ Some (OfSection (record { core = core; address = further }) r) =
    found_among (record { core = core; address = further }) 1 core.places (standing (placed cores places)) k m r at e
    (skip_all (standing_from address 1 library.places) (standing_from further 1 core.places ++ standing (placed cores places)) is_map.apart.1) in
    rw (none, mine) refl

-- a routine with a frame of this size, in a section with these VALOFs
abbrev pub entering : (further : ℕ → ℕ) → (V : Call → ℕ → ℕ → ℕ → Run ℕ) → (size : ℕ) → Routine → Option Entered
entering further V size r = Some (record {
  parameters = r.parameters;
  frame = size;
  body = λ call f. body_value (context further call (V call)) r.body f (level_after_parameters r.parameters);
})

-- a routine that is a VALOF with this body, in which are only these VALOFs
abbrev pub entering_valof : (further : ℕ → ℕ) → (V : Call → ℕ → ℕ → ℕ → Run ℕ) → (parameters size : ℕ) → Block → Option Entered
entering_valof further V parameters size inside = Some (record {
  parameters = parameters;
  frame = size;
  body = λ call f. then_do (perform_block (context further call (V call)) inside f (level_after_parameters parameters)) valof_value;
})

-- the VALOFs from a number on
abbrev valofs_after : ℕ → List Valof → List Valof
valofs_after zero vs = vs
valofs_after (suc n) [] = []
valofs_after (suc n) (v ∷ vs) = valofs_after n vs

-- the routines of EXTLIB, as a program has them
pub record HasFurther (program : List Placed) (further : ℕ → ℕ) : Type 0 where
  pub valofs : Call → ℕ → ℕ → ℕ → Run ℕ
  pub unpackstring : entered_at program (further 36) ≡ entering further valofs 11 unpackstring
  pub putnumber : entered_at program (further 24) ≡ entering further valofs 19 putnumber
  pub writed : entered_at program (further 25) ≡ entering further valofs 9 writed
  pub writeu : entered_at program (further 26) ≡ entering further valofs 9 writeu
  pub writeoct : entered_at program (further 27) ≡ entering further valofs 13 writeoct
  pub writehex : entered_at program (further 29) ≡ entering further valofs 12 writehex
  pub capitalch : entered_at program (further 32) ≡ entering further valofs 6 capitalch
  pub inside_packstring : Call → ℕ → ℕ → ℕ → Run ℕ
  pub packstring : entered_at program (further 35) ≡ entering_valof further inside_packstring 2 13 packstring_body
  pub inside_compstring : Call → ℕ → ℕ → ℕ → Run ℕ
  pub compstring : entered_at program (further 34) ≡ entering_valof further inside_compstring 2 16 compstring_body
  pub inside_kept : Call → ℕ → ℕ → ℕ → Run ℕ
  pub kept : entered_at program (further 6) ≡ entering_valof further inside_kept 1 7 kept_body
  pub inside_rdch : Call → ℕ → ℕ → ℕ → Run ℕ
  pub rdch : entered_at program (further 8) ≡ entering_valof further inside_rdch 0 6 rdch_body
  pub inside_readn : Call → ℕ → ℕ → ℕ → Run ℕ
  pub readn : entered_at program (further 23) ≡ entering_valof further inside_readn 0 10 readn_body

pub has_further : (cores : List Core) (address further : ℕ → ℕ) (places : List (ℕ → ℕ)) (base : ℕ)
    → IsMap (library ∷ extension ∷ cores) (record { places = address ∷ further ∷ places; stack_base = base })
    → HasFurther (placed (library ∷ extension ∷ cores) (address ∷ further ∷ places)) further
unfolding extension
has_further cores address further places base m = record {
  valofs = λ call. valofs_from further call 0 extension.valofs;
  unpackstring = found extension cores address further places base 35 36 unpackstring m (omega arith) refl;
  putnumber = found extension cores address further places base 23 24 putnumber m (omega arith) refl;
  writed = found extension cores address further places base 24 25 writed m (omega arith) refl;
  writeu = found extension cores address further places base 25 26 writeu m (omega arith) refl;
  writeoct = found extension cores address further places base 26 27 writeoct m (omega arith) refl;
  writehex = found extension cores address further places base 28 29 writehex m (omega arith) refl;
  capitalch = found extension cores address further places base 31 32 capitalch m (omega arith) refl;
  inside_packstring = λ call. valofs_from further call 9 (valofs_after 9 extension.valofs);
  packstring = found extension cores address further places base 34 35 packstring m (omega arith) refl;
  inside_compstring = λ call. valofs_from further call 8 (valofs_after 8 extension.valofs);
  compstring = found extension cores address further places base 33 34 compstring m (omega arith) refl;
  inside_kept = λ call. valofs_from further call 1 (valofs_after 1 extension.valofs);
  kept = found extension cores address further places base 5 6 kept m (omega arith) refl;
  inside_rdch = λ call. valofs_from further call 2 (valofs_after 2 extension.valofs);
  rdch = found extension cores address further places base 7 8 rdch m (omega arith) refl;
  inside_readn = λ call. valofs_from further call 7 (valofs_after 7 extension.valofs);
  readn = found extension cores address further places base 22 23 readn m (omega arith) refl;
}
