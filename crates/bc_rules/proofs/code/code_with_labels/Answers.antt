use Rattle.bc_rules.proofs.Labels.{next_is_written}
use Rattle.bc_rules.proofs.Written.{code_is_written}
use Rattle.bc_rules.proofs.code.code_with_labels.Goals as goal

pub returns-clause-code : goal.returns-clause-code
returns-clause-code c = code_is_written _ _ _ _ _ _ _ c.new-w.ensures.empty c.new-w.ensures.next c.in_ok-write_root.ensures

pub returns-clause-next : goal.returns-clause-next
returns-clause-next c = next_is_written _ _ _ _ _ _ c.new-w.ensures.next c.in_ok-write_root.ensures c.if-w-gt65536.false
