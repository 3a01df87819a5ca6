-- A writer that failed has taken the beginning of the text.
use Rattle.std.proofs.Common.{ap, sym, ◌∙◌}
use Rattle.bc_text.specs.Printed.{printed_segment}
use Rattle.bc_text.proofs.Fronts.{front_joined, segment_parted_at, segment_whole}
use Rattle.bc_text.proofs.printing.print.Goals as goal

pub returns-in_err-put-clause-front : goal.returns-in_err-put-clause-front
returns-in_err-put-clause-front g c =
    front_joined _ _ _ _ _ _ _ c.loop-item.invariant c.put.ensures.front
    (sym (ap printed_segment c.items-item-items.ensures)
    ∙ segment_parted_at _ _ _ _ c.loop-item-test.true c.item-item.is (c.as_bytes.ensures.value ∙ c.as_str.ensures.value ∙ c.line_of.ensures))

pub returns-clause-front : goal.returns-clause-front
returns-clause-front g c =
    front_joined _ _ _ _ _ _ _ c.loop-item.invariant c.put-2.ensures.front
    (sym (ap printed_segment c.items-item-items.ensures) ∙ segment_whole _ _ c.loop-item-test.false)
