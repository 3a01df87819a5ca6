use Rattle.std.proofs.Common.{◌≡◌, ◌/◌, ◌<◌, ℕ, arith, refl, sym, ap, ◌∙◌, subst, slice_index}
use Rattle.bc_machine_defs.specs.declared.state.Registers.{Registers}
use Rattle.bc_machine_defs.specs.Instruction.{code_of}
use Rattle.bc_machine_defs.specs.Operand.{operand_of}
use Rattle.bc_machine.specs.Ran.{held_state}
use Rattle.bcpl_trace.specs.declared.change.Change.{Change}
use Rattle.bcpl_trace.specs.Changes.{Wrote, written_at}
use Rattle.bcpl_trace.specs.Told.{told}
use Rattle.bcpl_trace.proofs.Changes.{wrote, told_is}
use Rattle.bcpl_trace.proofs.change.change_of.Goals as goal

pub returns-clause-written : goal.returns-clause-written
returns-clause-written c =
    let m = c.args.machine.now in
    let word = slice_index m.store m.registers.c in
    let same : c.cell-word.result ≡ word = c.cell-word.ensures ∙ ap (λ (r : Registers). slice_index m.store r.c) c.registers-registers.ensures in
    let small : c.cell-word.result / 512 / 16 < 8 = omega arith in
    let lt : code_of word / 16 < 8 = subst (λ (w : ℕ). w / 512 / 16 < 8) same small in
    let told_so : c.told.result ≡ told (code_of word / 16) (operand_of (code_of word) word m.registers m.store) m.registers = cc in
    told_so ∙ told_is (code_of word) (operand_of (code_of word) word m.registers m.store) m.registers lt

pub returns-clause-step : goal.returns-clause-step
returns-clause-step c = λ streams t end h.
    let m = c.args.machine.now in
    let written : c.told.result ≡ written_at m = returns-clause-written c in
    subst (λ (x : Change). Wrote x (held_state m streams) t) (sym written)
    (wrote (held_state m streams) t end (slice_index m.store m.registers.c) refl h)
