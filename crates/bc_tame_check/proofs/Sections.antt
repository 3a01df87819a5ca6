-- Sections, with their rooms and the routines that set globals.
use Rattle.std.proofs.Common.{◌≡◌, ℕ, true, List, [], ◌∷◌, ◌++◌, length, map, Some, None, refl, sym, ap, ◌∙◌, subst, arith}
use Rattle.std.specs.Prelude.{◌==◌}
use Rattle.std.specs.Global.{Vec}
use Rattle.std.proofs.lemmas.Bool.{eq-eqb}
use Rattle.std.proofs.lemmas.List.{map-append, append_assoc, append-nil}
use Rattle.bc_core.specs.Commands as commands
use Rattle.bc_core.specs.View.{section, place_of}
use Rattle.bc_core.specs.declared.command.Place.{Place}
use Rattle.bc_core.specs.declared.command.Valof.{Valof}
use Rattle.bc_tame.specs.Programs as programs
use Rattle.bc_tame.specs.Programs.{known, setter_at, setters_from, setters_of, setter_for, tame_places, tame_sections, takes_none}
use Rattle.bc_tame_check.specs.declared.at.Setter.{Setter}
use Rattle.bc_tame_check.specs.declared.not_tame.RoutineAt.{RoutineAt}
use Rattle.bc_tame_check.specs.Views.{setter_of, setters_in, rooms_in, AreTame}
use Rattle.bc_tame_check.proofs.Tests.{and_true}

-- a routine is added, if it sets a global
pub routine_more : (r : commands.Routine) (ps : List commands.Place) (room : ℕ) (rooms : List ℕ) (old new : List Setter) (g n : ℕ) (at : RoutineAt) → r.global ≡ Some g → n ≡ r.parameters
    → new ≡ old ++ record { global = g; arguments = n; room = room; routine = at } ∷ []
    → setters_in old ++ setters_from (commands.Code r ∷ ps) (room ∷ rooms) ≡ setters_in new ++ setters_from ps rooms
routine_more r ps room rooms old new g n at global many e =
    let s : Setter = record { global = g; arguments = n; room = room; routine = at } in
    (λ i. setters_in old ++ (setter_at (global i) (known (sym many i) room) ++ setters_from ps rooms))
    ∙ (sym (append_assoc (setters_in old) (setter_of s ∷ []) (setters_from ps rooms))
    ∙ (ap (λ xs. xs ++ setters_from ps rooms) (sym (map-append setter_of old (s ∷ []))) ∙ ap (λ xs. setters_in xs ++ setters_from ps rooms) (sym e)))

pub routine_none : (r : commands.Routine) (ps : List commands.Place) (room : ℕ) (rooms : List ℕ) (old : List Setter) → r.global ≡ None
    → setters_in old ++ setters_from (commands.Code r ∷ ps) (room ∷ rooms) ≡ setters_in old ++ setters_from ps rooms
routine_none r ps room rooms old e = ap (λ o. setters_in old ++ (setter_at o (known r.parameters room) ++ setters_from ps rooms)) e

pub no_place : (ps : List Place) (rs : List ℕ) (xs : List programs.Setter) → length ps ≡ 0 → length rs ≡ 0 → xs ++ setters_from (map place_of ps) rs ≡ xs
no_place [] [] xs e h = append-nil xs
no_place (p ∷ ps) rs xs e h = absurd (omega arith)
no_place [] (r ∷ rs) xs e h = absurd (omega arith)

-- those of a section are added
pub setters_more : (old new : List Setter) (cores following : List (List Place × List Valof)) (core : List Place × List Valof) (others further : List (Vec ℕ)) (all : Vec ℕ) (ps : List Place) (rs : List ℕ) (whole : List programs.Setter)
    → cores ≡ core ∷ following → others ≡ all ∷ further → ps ≡ core.0 → rs ≡ all.items → setters_in new ≡ setters_in old ++ setters_from (map place_of ps) rs
    → setters_in old ++ setters_of (map section cores) (rooms_in others) ≡ whole → setters_in new ++ setters_of (map section following) (rooms_in further) ≡ whole
setters_more old new cores following core others further all ps rs whole ec eo ep er e h =
    let rest : List programs.Setter = setters_of (map section following) (rooms_in further) in
    ap (λ xs. xs ++ rest) e
    ∙ (append_assoc (setters_in old) (setters_from (map place_of ps) rs) rest
    ∙ ((λ i. setters_in old ++ (setters_from (map place_of (ep i)) (er i) ++ rest))
    ∙ ((λ i. setters_in old ++ setters_of (map section (sym ec i)) (rooms_in (sym eo i))) ∙ h)))

pub no_setter : (setters : List Setter) (cores : List (List Place × List Valof)) (others : List (Vec ℕ)) (whole : List programs.Setter) → length cores ≡ 0
    → setters_in setters ++ setters_of (map section cores) (rooms_in others) ≡ whole → setters_in setters ≡ whole
no_setter setters [] others whole e h = sym (append-nil (setters_in setters)) ∙ h
no_setter setters (c ∷ cs) others whole e h = absurd (omega arith)

-- a section passes before others
pub section_more : (ss : List programs.Setter) (cores following : List (List Place × List Valof)) (core : List Place × List Valof) (others further : List (Vec ℕ)) (all : Vec ℕ) (ps : List Place) (vs : List Valof) (rs : List ℕ)
    → cores ≡ core ∷ following → others ≡ all ∷ further → ps ≡ core.0 → vs ≡ core.1 → rs ≡ all.items
    → tame_places (section (ps, vs)) rs ss (map place_of ps) rs ≡ true → tame_sections ss (map section following) (rooms_in further) ≡ true
    → tame_sections ss (map section cores) (rooms_in others) ≡ true
section_more ss cores following core others further all ps vs rs ec eo ep ev er first rest =
    let here : tame_places (section core) all.items ss (map place_of core.0) all.items ≡ true =
    (λ i. tame_places (section (sym ep i, sym ev i)) (sym er i) ss (map place_of (sym ep i)) (sym er i)) ∙ first in
    (λ i. tame_sections ss (map section (ec i)) (rooms_in (eo i)))
    ∙ and_true (tame_places (section core) all.items ss (map place_of core.0) all.items) (tame_sections ss (map section following) (rooms_in further)) here rest

pub no_section : (ss : List programs.Setter) (cores : List (List Place × List Valof)) (others : List (Vec ℕ)) → length cores ≡ 0 → length others ≡ 0 → tame_sections ss (map section cores) (rooms_in others) ≡ true
no_section ss [] [] e h = refl
no_section ss (c ∷ cs) others e h = absurd (omega arith)
no_section ss [] (r ∷ rs) e h = absurd (omega arith)

-- START, and the sections as a whole
pub tame_true : (cores : List commands.Core) (each : List (List ℕ)) (ss : List programs.Setter) (n room : ℕ) → ss ≡ setters_of cores each → tame_sections ss cores each ≡ true
    → setter_for ss 1 ≡ Some (known n room) → n ≡ 0 → AreTame cores each room
tame_true cores each ss n room e pass start none =
    let takes : takes_none (setter_for (setters_of cores each) 1) room ≡ true = ap (λ z. takes_none (setter_for z 1) room) (sym e)
    ∙ (ap (λ o. takes_none o room) start ∙ and_true (n == 0) (room == room) (eq-eqb n 0 none) (eq-eqb room room refl)) in
    and_true (tame_sections (setters_of cores each) cores each) (takes_none (setter_for (setters_of cores each) 1) room) (subst (λ z. tame_sections z cores each ≡ true) e pass) takes
