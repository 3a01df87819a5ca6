use Rattle.std.proofs.Common.{refl}
use Rattle.bc_parse_tree.specs.declared.tree.Constant.{fold-roll-Constant}
use Rattle.bc_parse.proofs.Lists.{entries_view_push}
use Rattle.bc_parse.proofs.boxes.constant_added.Goals as goal

pub returns : goal.returns
returns c = rw (c.in_ok-pushed.ensures.items, entries_view_push, fold-roll-Constant) refl
