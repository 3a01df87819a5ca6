-- Where control goes after a command.
use Rattle.std.specs.Prelude.{ℕ}
use Rattle.bc_core.specs.Outcome.{Done, Run}

-- past the command, or where BREAK, LOOP, ENDCASE, RETURN, RESULTIS or GOTO sends it
pub data Exit : Type 0 where
  Past : Exit
  Broke : Exit
  Looped : Exit
  LeftCases : Exit
  Returned : Exit
  Resulted : ℕ → Exit
  Jumped : ℕ → Exit

-- control goes past
abbrev pub past : Unit {0} → Run Exit
past u = Done Past

-- the rest is done if control goes past; any other exit stays
abbrev pub onward : Run Exit → Exit → Run Exit
onward rest Past = rest
onward rest x = Done x
