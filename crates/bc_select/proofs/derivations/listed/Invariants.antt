use Rattle.std.proofs.Common.{◌≡◌, ◌++◌, ◌-◌, length}
use Rattle.bc_select.specs.Marks.{marks_of_all}
use Rattle.bc_select.specs.Waiting.{AreReady, trees_of}
use Rattle.bc_select.proofs.derivations.listed.Given as goal

abbrev pub invariant-loop-next : goal.invariant-loop-next
invariant-loop-next l = record {
  ready : AreReady l.fn.nodes l.waiting.items;
  is : l.marks.items ++ marks_of_all (trees_of l.waiting.items) ≡ marks_of_all (trees_of l.fn.waiting.items);
}

abbrev pub decreases-loop-next : goal.decreases-loop-next
decreases-loop-next l = length (marks_of_all (trees_of l.fn.waiting.items)) - length l.marks.items
