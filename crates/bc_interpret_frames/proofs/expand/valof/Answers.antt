use Rattle.std.proofs.Common.{◌≡◌, ◌+◌, ◌-◌, max, sym, ap, subst, ◌∙◌, refl, arith}
use Rattle.bc_interpret_frames.specs.Parts.{bodies, weights, Expanded}
use Rattle.bc_interpret_frames.proofs.Valofs.{cells_before, cells_after, valof_waits}
use Rattle.bc_interpret_frames.proofs.Waits.{none_waits}
use Rattle.bc_interpret_frames.proofs.expand.valof.Goals as goal

pub returns-then-number-within : goal.returns-then-number-within
returns-then-number-within c =
    none_waits _ _ c.args.waiting.now.items (cells_before c.args.within.first c.args.within.valofs.now c.args.number c.args.s c.if-number-within.true)

pub returns-then-index-within : goal.returns-then-index-within
returns-then-index-within c =
    none_waits _ _ c.args.waiting.now.items (cells_after c.args.within.first c.args.within.valofs.now c.args.number (c.args.number - c.args.within.first) c.args.s (omega arith) c.if-index-within.true)

pub returns : goal.returns
returns c =
    let W = c.args.within in
    valof_waits W.first W.valofs.now c.args.number (c.args.number - W.first) c.args.s c.in_ok-above.field-0 c.index-within-index.result c.args.waiting.now.items c.put.new.waiting.items
    (omega arith) (omega arith) c.in_ok-above.ensures c.in_ok-put.ensures.greatest c.in_ok-put.ensures.weight
