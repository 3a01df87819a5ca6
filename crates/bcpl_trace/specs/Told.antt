-- For proofs: what an instruction writes as the code computes it, from its function number and operand.
use Rattle.std.specs.Prelude.{ℕ, ◌+◌, ◌%◌, ◌==◌, cond}
use Rattle.bc_machine_defs.specs.declared.state.Registers.{Registers}
use Rattle.bcpl_trace.specs.declared.change.Change.{Change}
use Rattle.bcpl_trace.specs.declared.change.Change.TheVariants.{Nothing, Cell, Links, Byte}

-- The change, from the function number, the operand and the registers.
abbrev pub told : ℕ → ℕ → Registers → Change
told function d r =
    cond (function == 1) (Cell d) (cond (function == 6) (Links ((r.p + d) % 65536)) (
    cond (function == 7) (cond (d == 27) (Byte (r.a % 256)) Nothing) Nothing))
