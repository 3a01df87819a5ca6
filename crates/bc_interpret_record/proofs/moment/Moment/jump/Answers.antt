use Rattle.bc_interpret_record.proofs.moment.Moment.jump.Goals as goal

pub returns-clause-cells : goal.returns-clause-cells
returns-clause-cells c = λ p at. c.settle.ensures.cells (c.go_to.ensures.cells p (record { made = at.made; cells = at.cells }))
