-- Routines that set globals, and their globals.
use Rattle.std.proofs.Common.{◌≡◌, ℕ, ◌+◌, ◌<◌, Bool, true, false, List, ◌∷◌, Option, Some, None, ap, ◌∙◌, sym, subst}
use Rattle.std.specs.Prelude.{◌==◌, ◌&&◌, ◌||◌, not, nat_lt, IfSome}
use Rattle.std.proofs.lemmas.Bool.{eq-eqb}
use Rattle.bc_tame.specs.Tame.{Known}
use Rattle.bc_tame.specs.Programs as programs
use Rattle.bc_tame.specs.Programs.{known, library_sets, library_callable, setter_for, times_set, own_callable, or_known, callable_with, may_set}
use Rattle.bc_tame_check.specs.declared.at.Setter.{Setter}
use Rattle.bc_tame_check.specs.Views.{setter_of}
use Rattle.bc_tame_check.proofs.Tests.{and_true, less_true}
use Rattle.bc_tame_check.proofs.Places.{apart}

pub setter_here : (s : Setter) (ss : List programs.Setter) (g : ℕ) → s.global ≡ g → setter_for (setter_of s ∷ ss) g ≡ Some (known s.arguments s.room)
setter_here s ss g e = ap (λ t. elim t as (λ z. Option Known) [ true ↦ Some (known s.arguments s.room) | false ↦ setter_for ss g ]) (eq-eqb s.global g e)

pub setter_else : (s : Setter) (ss : List programs.Setter) (g : ℕ) → ((s.global ≡ g) → ⊥) → setter_for (setter_of s ∷ ss) g ≡ setter_for ss g
setter_else s ss g h = ap (λ t. elim t as (λ z. Option Known) [ true ↦ Some (known s.arguments s.room) | false ↦ setter_for ss g ]) (apart s.global g h)

pub times_here : (s : Setter) (ss : List programs.Setter) (g : ℕ) → s.global ≡ g → times_set (setter_of s ∷ ss) g ≡ times_set ss g + 1
times_here s ss g e = ap (λ t. elim t as (λ z. ℕ) [ true ↦ times_set ss g + 1 | false ↦ times_set ss g ]) (eq-eqb s.global g e)

pub times_else : (s : Setter) (ss : List programs.Setter) (g : ℕ) → ((s.global ≡ g) → ⊥) → times_set (setter_of s ∷ ss) g ≡ times_set ss g
times_else s ss g h = ap (λ t. elim t as (λ z. ℕ) [ true ↦ times_set ss g + 1 | false ↦ times_set ss g ]) (apart s.global g h)

or_true : (a b : Bool) → b ≡ true → (a || b) ≡ true
or_true true b e = λ i. true
or_true false b e = e

-- a routine may set a global that is free
pub may_true : (ss : List programs.Setter) (g n : ℕ) (b : Bool) → g < 512 → b ≡ library_sets g → b ≡ false → times_set ss g ≡ n → n ≡ 1 → may_set ss (Some g) ≡ true
may_true ss g n b low is isnt times once =
    or_true (g == 1) _ (and_true _ _ (less_true g 512 low) (and_true _ _ (ap not (sym is ∙ isnt)) (eq-eqb (times_set ss g) 1 (times ∙ once))))

pub may_start : (ss : List programs.Setter) (g : ℕ) → g ≡ 1 → may_set ss (Some g) ≡ true
may_start ss g e = ap (λ t. t || (nat_lt g 512 && (not (library_sets g) && (times_set ss g == 1)))) (eq-eqb g 1 e)

-- routines that are called through their globals
pub own_true : (ss : List programs.Setter) (g : ℕ) (k : Known) → ((g ≡ 1) → ⊥) → setter_for ss g ≡ Some k → own_callable ss g ≡ Some k
own_true ss g k h e = ap (λ t. elim t as (λ z. Option Known) [ true ↦ None | false ↦ setter_for ss g ]) (apart g 1 h) ∙ e

pub own_none : (ss : List programs.Setter) (g : ℕ) → ((g ≡ 1) → ⊥) → setter_for ss g ≡ None → own_callable ss g ≡ None
own_none ss g h e = ap (λ t. elim t as (λ z. Option Known) [ true ↦ None | false ↦ setter_for ss g ]) (apart g 1 h) ∙ e

pub start_none : (ss : List programs.Setter) (g : ℕ) → g ≡ 1 → own_callable ss g ≡ None
start_none ss g e = ap (λ t. elim t as (λ z. Option Known) [ true ↦ None | false ↦ setter_for ss g ]) (eq-eqb g 1 e)

pub own_first : (ss : List programs.Setter) (g : ℕ) (k : Known) → own_callable ss g ≡ Some k → callable_with ss g ≡ Some k
own_first ss g k e = ap (λ o. or_known o (library_callable g)) e

pub library_else : {K : Type 0} (ss : List programs.Setter) (g : ℕ) (r : Option K) (f : K → Option Known) → own_callable ss g ≡ None → IfSome r (λ k. library_callable g ≡ f k) → IfSome r (λ k. callable_with ss g ≡ f k)
library_else ss g r f e h = subst (λ o. IfSome r (λ k. or_known o (library_callable g) ≡ f k)) (sym e) h
