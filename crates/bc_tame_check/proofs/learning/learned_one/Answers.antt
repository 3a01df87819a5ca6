use Rattle.std.proofs.Common.{refl}
use Rattle.bc_core.specs.View.{exp}
use Rattle.bc_tame.specs.Tame.{held_after}
use Rattle.bc_tame_check.specs.Views.{bounds_found, env_at, reads_at}
use Rattle.bc_tame_check.proofs.Lessons.{one_learned, none_learned}
use Rattle.bc_tame_check.proofs.learning.learned_one.Goals as goal

pub returns-in-Some : goal.returns-in-Some
returns-in-Some c =
    one_learned (reads_at c.args.at) (bounds_found c.in_ok-cells.cells) (exp c.args.address.now) c.in-Some.offset c.held_after.result
    (held_after ((env_at c.args.at).text) (exp c.args.value.now)) c.in-Some.ensures.found c.in_ok-cells.ensures c.held_after.ensures

pub returns-in-None : goal.returns-in-None
returns-in-None c =
    none_learned (reads_at c.args.at) (bounds_found c.in_ok-cells.cells) (exp c.args.address.now) (held_after ((env_at c.args.at).text) (exp c.args.value.now))
    (c.in-None.ensures.none refl) c.in_ok-cells.ensures
