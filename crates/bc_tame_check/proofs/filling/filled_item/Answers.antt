use Rattle.std.proofs.Common.{◌≡◌, sym, subst}
use Rattle.bc_core.specs.View.{exp, command, items_before}
use Rattle.bc_core.specs.Commands.{Items}
use Rattle.bc_tame.specs.Tame.{Knows, AnyWord, fills, and_where}
use Rattle.bc_tame_check.specs.Views.{listed, set_over, reads_at}
use Rattle.bc_tame_check.proofs.Fills.{assignment_fills}
use Rattle.bc_tame_check.proofs.filling.filled_item.Goals as goal

pub returns-in_ok-filled_at-in-Some : goal.returns-in_ok-filled_at-in-Some
returns-in_ok-filled_at-in-Some c = λ (S : Knows) (is : Items).
    subst (λ it. and_where (fills (reads_at c.args.at) c.args.rounds.variable c.args.rounds.first c.args.rounds.last is) AnyWord (set_over S (listed c.in_ok-filled_at-in-Some.field-0))
    ≡ and_where (fills (reads_at c.args.at) c.args.rounds.variable c.args.rounds.first c.args.rounds.last (items_before it is)) AnyWord S) (sym c.in-Command.is)
    (assignment_fills (reads_at c.args.at) S c.args.rounds.variable c.args.rounds.first c.args.rounds.last c.in_ok-filled_at-in-Some.field-0 (command c.in-Command.form)
    (exp c.in-Some.field-0-0.now) (exp c.in-Some.address.now) is c.in-Some.ensures.found c.in_ok-filled_at-in-Some.ensures)
