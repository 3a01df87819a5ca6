use Rattle.std.proofs.Common.{◌≡◌, length, arith, sym, ◌∙◌}
use Rattle.bc_rules.proofs.Fitting.{call_end_misfit, call_end_none, call_end_some}
use Rattle.bc_rules.proofs.check.+deriving.Goals.{call-then-trees-n-via-then-trees-n, call-then-trees-n-via-else-trees-n+then-trees-n-ne1}
use Rattle.bc_rules.proofs.check.+deriving.Goals as goal

pub call-returns-then-trees-n : goal.call-returns-then-trees-n
call-returns-then-trees-n t c =
    let i : c.loop-i.i ≡ length c.args.arguments.now = omega arith in
    elim c.then-trees-n.branch [
      | call-then-trees-n-via-then-trees-n w ↦ call_end_misfit _ _ _ _ _ c.loop-i.invariant i (λ e. omega arith)
      | call-then-trees-n-via-else-trees-n+then-trees-n-ne1 w ↦ call_end_misfit _ _ _ _ _ c.loop-i.invariant i (λ e. omega arith)
    ]

pub call-returns-in_err-_calls-2 : goal.call-returns-in_err-_calls-2
call-returns-in_err-_calls-2 t c =
    let i : c.loop-i.i ≡ length c.args.arguments.now = omega arith in
    c.from_residual-in_err-_calls-2.ensures ∙ call_end_none _ _ _ _ _ _ _ _ c.loop-i.invariant i (omega arith) c.index-trees-n.is (sym c.derives-2.ensures ∙ c.in_err-_calls-2.was)

pub call-returns : goal.call-returns
call-returns t c =
    let i : c.loop-i.i ≡ length c.args.arguments.now = omega arith in
    call_end_some _ _ _ _ _ _ _ _ _ c.loop-i.invariant i (omega arith) c.index-trees-n.is (sym c.derives-2.ensures ∙ c.in_ok-_calls-2.was)
