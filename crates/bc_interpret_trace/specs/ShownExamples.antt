-- Worked examples: what a trail shows.
use Rattle.std.specs.Prelude.{ℕ, ◌≡◌, ◌-◌, ◌^◌, List, [], ◌∷◌, ◌++◌, map, length, Option, Some, None, refl}
use Rattle.std.proofs.Common.{arith, ap, sym, ◌∙◌}
use Rattle.bc_interpret_defs.specs.Trails as trails
use Rattle.bc_interpret_trace.specs.declared.trail.Standing.{Standing}
use Rattle.bc_interpret_trace.specs.declared.trail.Trail.{Trail}
use Rattle.bc_interpret_trace.specs.Shown.{shown, Shows}

-- the call of routine a at frame f, in this VALOF, with n roots after the position
abbrev in_call : (a f : ℕ) → (valof : Option ℕ) → (n : ℕ) → trails.Standing
in_call a f valof n = record { call = record { routine = a; frame = f }; position = record { valof = valof; following = n } }

abbrev line : (a f : ℕ) → (valof : Option ℕ) → (n : ℕ) → Standing
line a f valof n = record { routine = a; frame = f; valof = valof; following = n }

-- a line shows the call, the VALOF and the number of roots that follow
shows_all : shown (in_call 700 30 (Some 2) 5) ≡ line 700 30 (Some 2) 5
shows_all = refl

not_another_routine : shown (in_call 700 30 (Some 2) 5) ≡ line 800 30 (Some 2) 5 → ⊥
not_another_routine e = let h : 700 ≡ 800 = ap (λ (s : Standing). s.routine) e in omega (arith, h)

not_another_frame : shown (in_call 700 30 (Some 2) 5) ≡ line 700 20 (Some 2) 5 → ⊥
not_another_frame e = let h : 30 ≡ 20 = ap (λ (s : Standing). s.frame) e in omega (arith, h)

not_outside_the_valof : shown (in_call 700 30 (Some 2) 5) ≡ line 700 30 None 5 → ⊥
not_outside_the_valof e = let h : ◌≡◌ {A = Option ℕ} (Some 2) None = ap (λ (s : Standing). s.valof) e in cc

not_one_root_less : shown (in_call 700 30 (Some 2) 5) ≡ line 700 30 (Some 2) 4 → ⊥
not_one_root_less e = let h : 5 ≡ 4 = ap (λ (s : Standing). s.following) e in omega (arith, h)

-- a number of roots that doesn't fit is shown as the greatest one that does
shows_the_greatest : shown (in_call 700 30 None (2 ^ 64)) ≡ line 700 30 None (2 ^ 64 - 1)
shows_the_greatest = refl

-- a routine that called itself ten times: of its eleven calls the trail lists the ten newest, and it counts all
abbrev newest : List trails.Standing
newest =
    in_call 700 110 None 3 ∷ in_call 700 100 None 3 ∷ in_call 700 90 None 3 ∷ in_call 700 80 None 3 ∷ in_call 700 70 None 3
    ∷ in_call 700 60 None 3 ∷ in_call 700 50 None 3 ∷ in_call 700 40 None 3 ∷ in_call 700 30 None 3 ∷ in_call 700 20 None 3 ∷ []

abbrev eleven : List trails.Standing
eleven = newest ++ in_call 700 10 None 0 ∷ []

shows_ten_of_eleven : (trail : Trail) → trail.standings.items ≡ map shown newest → trail.calls ≡ 11 → Shows trail eleven
shows_ten_of_eleven trail listed counted = record { newest = listed; number = counted }

not_all_eleven : (trail : Trail) → trail.standings.items ≡ map shown eleven → Shows trail eleven → ⊥
not_all_eleven trail listed shows =
    let h : 11 ≡ 10 = ap length (sym listed ∙ shows.newest) in omega (arith, h)

not_only_ten : (trail : Trail) → trail.calls ≡ 10 → Shows trail eleven → ⊥
not_only_ten trail counted shows = let h : 10 ≡ 11 = sym counted ∙ shows.number in omega (arith, h)
