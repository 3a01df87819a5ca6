-- Where the machine is after the code of a value, a test or an assignment.
use Rattle.std.specs.Prelude.{ℕ, ◌≡◌, ◌≤◌, Bool, true, false}
use Rattle.bc_core.specs.Loop.{agrees}
use Rattle.bc_right.specs.steps.Landing.{Goal}

-- after the code of a value, the value is in A
abbrev pub value_goal : ℕ → Goal ℕ
value_goal end v a b c gain turns = (a ≡ v) × (c ≡ end)

-- a test jumps if its truth is the sense; the jump is an instruction for which no turn was taken
abbrev pub jumps_to : Bool → (target end c gain : ℕ) → Type 0
jumps_to true target end c gain = (c ≡ target) × (1 ≤ gain)
jumps_to false target end c gain = c ≡ end

abbrev pub test_goal : (sense : Bool) → (target end : ℕ) → Goal Bool
test_goal sense target end v a b c gain turns = jumps_to (agrees sense v) target end c gain

abbrev pub end_goal : ℕ → Goal (Unit {0})
end_goal end u a b c gain turns = c ≡ end
