use Rattle.bc_core.specs.View.{exp}
use Rattle.bc_rules.proofs.Written.{side_writes_not}
use Rattle.bc_rules.proofs.code.one_side.Goals as goal

pub returns-then-trees-ne1 : goal.returns-then-trees-ne1
returns-then-trees-ne1 c = side_writes_not c.args.to.rule (exp c.args.to.address.now) _ _ c.args.to.place.level c.args.to.place.target _ _ c.if-trees-ne1.true
