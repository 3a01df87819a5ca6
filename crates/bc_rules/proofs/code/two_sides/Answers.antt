use Rattle.bc_core.specs.View.{exp}
use Rattle.bc_rules.proofs.Written.{sides_write_not}
use Rattle.bc_rules.proofs.code.two_sides.Goals as goal

pub returns-then-trees-ne2 : goal.returns-then-trees-ne2
returns-then-trees-ne2 c = sides_write_not c.args.to.rule (exp c.args.to.address.now) _ _ _ _ c.args.to.place.level c.args.to.place.target _ _ c.if-trees-ne2.true
