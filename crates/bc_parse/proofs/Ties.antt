-- A reader that nests, by the readers of what may be within it.
use Rattle.std.proofs.Common.{◌≡◌, ℕ, zero, suc, ◌-◌, ◌<◌, List, length, refl, arith}
use Rattle.std.proofs.lemmas.Bool.{lt-ltb}
use Rattle.bc_parse_tree.specs.Parts.{Part}
use Rattle.bc_parse_defs.specs.Reading.{◌>>=◌, operand_read, grow_read, command_read, defined_read, exp_of, command_of, definition_of}

pub exp_runs : (n nest round level : ℕ) (ts : List Part) → 0 < nest → 0 < n
    → exp_of n nest round level ts ≡ (operand_read (exp_of (n - 1)) (command_of (n - 1)) (definition_of (n - 1)) nest round ts >>= λ p. grow_read (exp_of (n - 1)) nest round (length ts) level p)
unfolding exp_of
exp_runs zero nest round level ts pos some = absurd (omega arith)
exp_runs (suc n) nest round level ts pos some = let k : suc n - 1 ≡ n = omega arith in rw (k, lt-ltb 0 nest pos) refl

pub command_runs : (n nest round : ℕ) (ts : List Part) → 0 < nest → 0 < n → command_of n nest round ts ≡ command_read (exp_of (n - 1)) (command_of (n - 1)) (definition_of (n - 1)) nest round ts
unfolding command_of
command_runs zero nest round ts pos some = absurd (omega arith)
command_runs (suc n) nest round ts pos some = let k : suc n - 1 ≡ n = omega arith in rw (k, lt-ltb 0 nest pos) refl

pub definition_runs : (n nest round : ℕ) (ts : List Part) → 0 < nest → 0 < n → definition_of n nest round ts ≡ defined_read (exp_of (n - 1)) (command_of (n - 1)) (definition_of (n - 1)) nest round ts
unfolding definition_of
definition_runs zero nest round ts pos some = absurd (omega arith)
definition_runs (suc n) nest round ts pos some = let k : suc n - 1 ≡ n = omega arith in rw (k, lt-ltb 0 nest pos) refl
