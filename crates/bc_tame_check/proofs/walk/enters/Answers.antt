use Rattle.bc_core.specs.View.{exp}
use Rattle.bc_tame.specs.Programs.{known}
use Rattle.bc_tame_check.proofs.Forms.{known_passes}
use Rattle.bc_tame_check.proofs.walk.enters.Goals as goal

pub returns-in-Some : goal.returns-in-Some
returns-in-Some c =
    known_passes c.args.at c.enters_known.result c.args.values.now (exp c.args.routine.now) (known c.in-Some.known.arguments c.in-Some.known.room) c.in-Some.ensures
    c.enters_known.ensures
