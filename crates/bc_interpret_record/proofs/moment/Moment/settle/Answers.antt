use Rattle.bc_interpret_record.proofs.moment.Moment.settle.Goals as goal

pub returns-clause-cells : goal.returns-clause-cells
returns-clause-cells c = λ at. record { made = at.made; cells = at.cells }
