use Rattle.std.proofs.Common.{◌≡◌, ◌∷◌, ◌++◌, ◌-◌, length, take, drop, sym, ap, ◌∙◌, rules, arith}
use Rattle.std.proofs.lemmas.Grind.{common_steps}
use Rattle.std.proofs.lemmas.List.{append-nil}
use Rattle.bc_core.specs.View.{items}
use Rattle.bc_tame.specs.Tame.{Knows, AnyWord, fills, and_where}
use Rattle.bc_tame_check.specs.Views.{listed, set_over, reads_at}
use Rattle.bc_tame_check.proofs.Lists.{apart}
use Rattle.bc_tame_check.proofs.Fills.{one_more, nothing_fills}
use Rattle.bc_tame_check.proofs.filling.filled_by.Goals as goal

pub loop-left-preserved-in_ok-push : goal.loop-left-preserved-in_ok-push
loop-left-preserved-in_ok-push c =
    let following = take (length c.loop-left.left.now - 1) (drop 1 c.loop-left.left.now) in
    let split : c.loop-left.left.now ≡ c.first-item.result ∷ following = first_of (search (rules, apart), grind (arith, common_steps, apart)) in
    one_more (reads_at c.args.at) (reads_at c.args.at) c.args.rounds.variable c.args.rounds.first c.args.rounds.last c.in_ok-entry.field-0 c.loop-left.more.items c.push.new.self.items
    (items following) (items c.loop-left.left.now) _ (c.in_ok-push.ensures.items ∙ ap (λ x. c.loop-left.more.items ++ listed x) (sym c.in-Some.is))
    (λ (T : Knows). c.in_ok-entry.ensures T (items following)
    ∙ ap (λ xs. and_where (fills (reads_at c.args.at) c.args.rounds.variable c.args.rounds.first c.args.rounds.last (items xs)) AnyWord T) (sym split)) c.loop-left.invariant

pub loop-left-preserved : goal.loop-left-preserved
loop-left-preserved c =
    let following = take (length c.loop-left.left.now - 1) (drop 1 c.loop-left.left.now) in
    let split : c.loop-left.left.now ≡ c.first-item.result ∷ following = first_of (search (rules, apart), grind (arith, common_steps, apart)) in
    one_more (reads_at c.args.at) (reads_at c.args.at) c.args.rounds.variable c.args.rounds.first c.args.rounds.last c.in_ok-entry.field-0 c.loop-left.more.items c.loop-left.more.items
    (items following) (items c.loop-left.left.now) _ (sym (append-nil c.loop-left.more.items) ∙ ap (λ x. c.loop-left.more.items ++ listed x) (sym c.in_default-2.is))
    (λ (T : Knows). c.in_ok-entry.ensures T (items following)
    ∙ ap (λ xs. and_where (fills (reads_at c.args.at) c.args.rounds.variable c.args.rounds.first c.args.rounds.last (items xs)) AnyWord T) (sym split)) c.loop-left.invariant

pub returns : goal.returns
returns c =
    nothing_fills (reads_at c.args.at) (set_over (reads_at c.args.at) c.loop-left.more.items) c.args.rounds.variable c.args.rounds.first c.args.rounds.last c.loop-left.left.now _
    (omega (arith, c.in_default.len_below)) c.loop-left.invariant
