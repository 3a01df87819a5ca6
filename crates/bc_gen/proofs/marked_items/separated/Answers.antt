use Rattle.std.proofs.Common.{rules, map, arith}
use Rattle.std.proofs.lemmas.Grind.{common_steps}
use Rattle.std.specs.List.{AllZip}
use Rattle.bc_rules_defs.specs.View.{entry as entry_view}
use Rattle.bc_cert_write.specs.Workings.{WorkedOut}
use Rattle.bc_gen.proofs.Workings.{worked_more}
use Rattle.bc_gen.proofs.marked_items.separated.Goals as goal

pub loop-part-preserved : goal.loop-part-preserved
loop-part-preserved c =
    let worked : AllZip WorkedOut (map entry_view c.push-in-Begins.new.self.items) c.push-in-Begins-2.new.self.items =
    rw (c.in_ok-push-in-Begins.ensures.items, c.in_ok-push-in-Begins-2.ensures.items)
    (worked_more c.loop-part.entries.items c.loop-part.workings.items c.entry-entry.result.0 c.entry-entry.result.1 c.loop-part.invariant.2 c.entry-entry.ensures.worked) in
    (search rules, grind (arith, common_steps), worked)
