use Rattle.bc_scope_faults.proofs.Sets.{fresh_name, seen_name}
use Rattle.bc_scope_faults.proofs.judging.declare_once.Goals as goal

pub returns-then-branch : goal.returns-then-branch
returns-then-branch c =
    fresh_name c.args.before.now.keys c.insert.new.self.keys c.args.name c.in_ok-insert.field-0 c.in_ok-insert.ensures.added c.in_ok-insert.ensures.keys c.if-branch.true

pub returns-else-branch : goal.returns-else-branch
returns-else-branch c = seen_name c.args.before.now.keys c.args.name c.in_ok-insert.field-0 c.in_ok-insert.ensures.added c.if-branch.false
