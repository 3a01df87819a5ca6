use Rattle.std.specs.Prelude.{Some}
use Rattle.bc_core.specs.View.{exp}
use Rattle.bc_tame.specs.Programs.{known}
use Rattle.bc_tame_check.specs.Views.{env_at}
use Rattle.bc_tame_check.proofs.Calls.{called_global}
use Rattle.bc_tame_check.proofs.lookup.called.Goals as goal

pub returns-in-Some : goal.returns-in-Some
returns-in-Some c =
    called_global (env_at c.args.at) c.in-Some.global (exp c.args.e.now) c.global_callable.result (λ k. Some (known k.arguments k.room)) c.in-Some.ensures c.global_callable.ensures
