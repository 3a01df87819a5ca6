use Rattle.bc_rules.proofs.Written.{leaf_writes_not}
use Rattle.bc_rules.proofs.writing.no_parts.Goals as goal

pub returns-then-not-is_empty : goal.returns-then-not-is_empty
returns-then-not-is_empty c = leaf_writes_not _ _ _ _ _ _ _ _ _ c.is_empty.ensures c.if-not-is_empty.true
