use Rattle.std.proofs.Common.{◌≡◌, sym, subst}
use Rattle.bc_core.specs.View.{exp, command, items_before}
use Rattle.bc_core.specs.Commands.{Items}
use Rattle.bc_tame.specs.Tame.{learned_all}
use Rattle.bc_tame_check.specs.Views.{listed, set_over, env_at, reads_at}
use Rattle.bc_tame_check.proofs.Lessons.{item_learned}
use Rattle.bc_tame_check.proofs.learning.learned_item.Goals as goal

pub returns-in_ok-learned_one-in-Some : goal.returns-in_ok-learned_one-in-Some
returns-in_ok-learned_one-in-Some c = λ (is : Items).
    subst (λ it. learned_all (env_at c.args.at) (set_over (reads_at c.args.at) (listed c.in_ok-learned_one-in-Some.field-0)) is ≡ learned_all (env_at c.args.at) (reads_at c.args.at) (items_before it is))
    (sym c.in-Command.is)
    (item_learned (env_at c.args.at) (reads_at c.args.at) c.in_ok-learned_one-in-Some.field-0 (command c.in-Command.form) (exp c.in-Some.value.now) (exp c.in-Some.address.now) is
    c.in-Some.ensures.found c.in_ok-learned_one-in-Some.ensures)
