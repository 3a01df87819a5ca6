-- What loops mean, given what their tests and bodies do.
use Rattle.std.specs.Prelude.{ℕ, nat_le, cond, Bool, true, false}
use Rattle.bc_word.specs.declared.operator.Rel.{Rel}
use Rattle.bc_word.specs.declared.operator.Rel.TheVariants.{Greater, Less}
use Rattle.bc_word.specs.Words.{holds}
use Rattle.bc_core.specs.Outcome.{Done, Run, then_do, choose, in_turn, Round, Again, Leave, repeated}
use Rattle.bc_core.specs.Exit.{Exit, Past, Broke, Looped}

-- one round of a loop, which may leave it by an exit
abbrev pub LoopRound : Type 0
LoopRound = Run (Round (Unit {0}) Exit)

-- another round; going back takes a turn
abbrev pub back : LoopRound
back = in_turn (Done (Again tt))

-- the loop is left, and control goes past it
abbrev pub leave : LoopRound
leave = Done (Leave Past)

-- After the body of a loop: BREAK leaves the loop, LOOP goes on with what follows the body, and any other jump leaves the
-- loop and goes on to its target.
abbrev pub after_body : LoopRound → Exit → LoopRound
after_body rest Past = rest
after_body rest Looped = rest
after_body rest Broke = leave
after_body rest x = Done (Leave x)

-- whether a condition with this sense holds, given the truth of its test
abbrev pub agrees : (sense truth : Bool) → Bool
agrees true t = t
agrees false true = false
agrees false false = true

-- WHILE and UNTIL: the test comes before the body
abbrev pub while_loop : (sense : Bool) → Run Bool → Run Exit → Run Exit
while_loop sense test body =
    repeated (λ u. then_do test (λ t. choose (agrees sense t) (then_do body (after_body back)) leave)) tt

-- REPEAT
abbrev pub repeat_loop : Run Exit → Run Exit
repeat_loop body = repeated (λ u. then_do body (after_body back)) tt

-- REPEATWHILE and REPEATUNTIL: the test comes after the body
abbrev pub repeat_while_loop : Run Exit → (sense : Bool) → Run Bool → Run Exit
repeat_while_loop body sense test =
    repeated (λ u. then_do body (after_body (then_do test (λ t. choose (agrees sense t) back leave)))) tt

-- a FOR ends when its variable is greater than the limit, or less than it if the step is negative
abbrev pub end_relation : ℕ → Rel
end_relation by = cond (nat_le 32768 by) Less Greater

-- FOR: the variable is set and the limit is computed, once. Before each round the variable is compared with the
-- limit, and after it the step is added.
abbrev pub for_loop : ℕ → (start : Run (Unit {0})) → (limit variable : Run ℕ) → (step : Run (Unit {0})) → Run Exit → Run Exit
for_loop by start limit variable step body =
    then_do start (λ u. then_do limit (λ n.
    repeated (λ u. then_do variable (λ i.
    choose (holds (end_relation by) i n) leave (then_do body (after_body (then_do step (λ u. back)))))) tt))
