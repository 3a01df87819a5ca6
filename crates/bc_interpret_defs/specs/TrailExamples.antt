-- Worked examples: the trail of a step.
use Rattle.std.specs.Prelude.{ℕ, ◌≡◌, List, [], ◌∷◌, length, Option, Some, None, Bool, true, refl}
use Rattle.std.proofs.Common.{arith, ap}
use Rattle.bc_core.specs.Tree.{Num, Frame}
use Rattle.bc_core.specs.Commands.{Block, block, Items, no_item, command, case}
use Rattle.bc_core.specs.Commands as commands
use Rattle.bc_core.specs.Lists.{Beginning, AtCase}
use Rattle.bc_interpret_defs.specs.Machine.{Spot, Number, Work, Give, Perform, Listing, Rest, Loads, Calls, Closes, Drops, Returns, Results, Skips, Follows, Listed, OpenCall}
use Rattle.bc_interpret_defs.specs.Called.{IsCall}
use Rattle.bc_interpret_defs.specs.Trails.{Position, position_in, position_of, Standing, trail_in, begun, IsTrail, Within, Calling}

abbrev call : ℕ → ℕ → OpenCall
call a f = record { routine = a; frame = f }

-- so many roots of a routine's body follow
abbrev at : ℕ → Position
at n = record { valof = None; following = n }

abbrev standing : ℕ → ℕ → Position → Standing
standing a f p = record { call = call a f; position = p }

abbrev spot : Spot
spot = record { address = λ l. 0; first = 0; valofs = []; frame = 30 }

-- X := 1; IF X DO X := 2
abbrev two : Items
two =
    command (commands.Assign (Num 1) (Frame 3))
    (command (commands.If true (Frame 3) (block [] (command (commands.Assign (Num 2) (Frame 3)) no_item))) no_item)

-- the routine at 600 was called in the frame at 20, by a command with those two after it; it called the one at 700, in the frame at 30, which
-- declared a vector of 4 cells
abbrev rests : List Rest
rests =
    Loads ∷ Closes None 4 33 ∷ Returns ∷ Closes (Some (call 700 30)) 1 32 ∷ Drops ∷ Follows spot two 3 ∷ Listed spot two 3 ∷ Returns
    ∷ Closes (Some (call 600 20)) 0 22 ∷ []

-- innermost first; a block that frees cells is no call; three roots follow the command that called 700
innermost_first : trail_in rests ≡ standing 700 30 (at 0) ∷ standing 600 20 (at 3) ∷ []
innermost_first = refl

-- the position isn't that of the last root
not_the_last : trail_in rests ≡ standing 700 30 (at 0) ∷ standing 600 20 (at 2) ∷ [] → ⊥
not_the_last e = let h : 3 ≡ 2 = ap second e in omega (arith, h) where
  second : List Standing → ℕ
  second (a ∷ b ∷ cs) = b.position.following
  second cs = 0

abbrev newest : List Standing → ℕ
newest [] = 0
newest (c ∷ cs) = c.call.routine

not_outermost_first : trail_in rests ≡ standing 600 20 (at 3) ∷ standing 700 30 (at 0) ∷ [] → ⊥
not_outermost_first e = let h : 700 ≡ 600 = ap newest e in omega (arith, h)

-- in the body of VALOF 2 only what follows there counts
in_a_valof : position_in (Follows spot two 3 ∷ Results 2 ∷ Follows spot two 3 ∷ rests) ≡ record { valof = Some 2; following = 3 }
in_a_valof = refl

-- in the first branch of a TEST the second one follows; in the second nothing of it does
in_the_first : position_in (Skips (block [] two) ∷ rests) ≡ at 3
in_the_first = refl

in_the_second : position_in rests ≡ at 0
in_the_second = refl

-- a list that is performed from its beginning begins its first command, which two roots follow
performs_first : position_of (Listing spot two 3 Beginning) [] ≡ at 2
performs_first = refl

-- one that is entered at a case begins the command after it
enters : position_of (Listing spot (command (commands.Assign (Num 1) (Frame 3)) (case 5 two)) 3 (AtCase 5)) [] ≡ at 2
enters = refl

-- the condition of an IF comes before its body
tests : position_of (Perform spot (commands.If true (Frame 3) (block [] two)) 3) [] ≡ at 3
tests = refl

-- a step that reads cell 9
reads : IsTrail (Give (Number 9)) rests (standing 700 30 (at 0) ∷ standing 600 20 (at 3) ∷ [])
reads = Within (λ v vs f c. let h = c.rests in cc) refl

not_none : IsTrail (Give (Number 9)) rests [] → ⊥
not_none (Within n e) = cc
not_none (Calling v vs f c e) = cc

-- the innermost one isn't left out
not_outer_alone : IsTrail (Give (Number 9)) rests (standing 600 20 (at 3) ∷ []) → ⊥
not_outer_alone (Within n e) = let h : 1 ≡ 2 = ap length e in omega (arith, h)
not_outer_alone (Calling v vs f c e) = let h = c.rests in cc

-- the step calls 9, in the frame at 40: that call is open too, though no routine may be there
calls_9 : IsTrail (Give (Number 9)) (Calls [] 40 ∷ rests) (begun 9 40 ∷ standing 700 30 (at 0) ∷ standing 600 20 (at 3) ∷ [])
calls_9 = Calling 9 [] 40 (record { following = rests; work = refl; rests = refl }) refl

not_the_callers_alone : IsTrail (Give (Number 9)) (Calls [] 40 ∷ rests) (standing 700 30 (at 0) ∷ standing 600 20 (at 3) ∷ []) → ⊥
not_the_callers_alone (Within n e) = n 9 [] 40 (record { following = rests; work = refl; rests = refl })
not_the_callers_alone (Calling v vs f c e) = let h : 2 ≡ 3 = ap length e in omega (arith, h)
