use Rattle.std.proofs.Common.{◌≡◌, ◌∷◌, ◌-◌, map, length, take, drop, sym, ap, ◌∙◌, rules, arith}
use Rattle.std.proofs.lemmas.Grind.{common_steps}
use Rattle.bc_core.specs.View.{variable}
use Rattle.bc_tame.specs.Tame.{Knows, and_all}
use Rattle.bc_tame_check.specs.Views.{set_over, env_at}
use Rattle.bc_tame_check.proofs.Lists.{apart}
use Rattle.bc_tame_check.proofs.binding.set_all.Goals as goal

pub loop-left-preserved : goal.loop-left-preserved
loop-left-preserved c = λ (R : Knows).
    let following = take (length c.loop-left.left.now - 1) (drop 1 c.loop-left.left.now) in
    let split : c.loop-left.left.now ≡ c.first-item.result ∷ following = first_of (search (rules, apart), grind (arith, common_steps, apart)) in
    c.in_ok-offset.ensures R (map variable following)
    ∙ (ap (λ xs. and_all (env_at c.args.at) c.args.kept (map variable xs) c.loop-left.offset (set_over R c.loop-left.reads.items)) (sym split) ∙ c.loop-left.invariant R)
