use Rattle.bc_interpret_record.proofs.recorder.with_past.Goals as goal

pub returns : goal.returns
returns c = record { fits = c.requires }
