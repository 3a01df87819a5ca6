use Rattle.std.proofs.Common.{◌≡◌, ◌∷◌, [], ◌++◌, ◌-◌, length, take, drop, refl, sym, ap, subst, ◌∙◌, rules, arith}
use Rattle.std.proofs.lemmas.Grind.{common_steps}
use Rattle.std.proofs.lemmas.List.{append-nil, append_assoc}
use Rattle.bc_core.specs.View.{items, items_before}
use Rattle.bc_tame.specs.Tame.{learned_all, parameters_set}
use Rattle.bc_tame_check.specs.Views.{listed, set_over, env_at, reads_at}
use Rattle.bc_tame_check.proofs.Lists.{apart}
use Rattle.bc_tame_check.proofs.Lessons.{one_more}
use Rattle.bc_tame_check.proofs.learning.learned_all.Goals as goal

pub loop-left-preserved-in_ok-push-2 : goal.loop-left-preserved-in_ok-push-2
loop-left-preserved-in_ok-push-2 c =
    let following = take (length c.loop-left.left.now - 1) (drop 1 c.loop-left.left.now) in
    let split : c.loop-left.left.now ≡ c.first-item.result ∷ following = first_of (search (rules, apart), grind (arith, common_steps, apart)) in (
      c.in_ok-push.ensures.items
          ∙ (ap (λ xs. xs ++ c.in-Some.entry ∷ []) c.loop-left.invariant.0
          ∙ (append_assoc c.args.at.reads.now c.loop-left.more.items (c.in-Some.entry ∷ []) ∙ ap (λ xs. c.args.at.reads.now ++ xs) (sym c.in_ok-push-2.ensures.items))),
      one_more (env_at c.args.at) (parameters_set c.args.at.parameters) (reads_at c.args.at) c.args.at.reads.now c.loop-left.more.items c.push-in-Some.new.self.items c.loop-left.reads.items c.in_ok-entry.field-0
          (items following) (items c.loop-left.left.now) _ refl c.loop-left.invariant.0 (c.in_ok-push-2.ensures.items ∙ ap (λ x. c.loop-left.more.items ++ listed x) (sym c.in-Some.is))
          (subst (λ xs. learned_all (env_at c.args.at) (set_over (set_over (parameters_set c.args.at.parameters) xs) (listed c.in_ok-entry.field-0)) (items following)
          ≡ learned_all (env_at c.args.at) (set_over (parameters_set c.args.at.parameters) xs) (items_before c.first-item.result (items following))) c.as_slice.ensures.value (c.in_ok-entry.ensures (items following))
          ∙ ap (λ xs. learned_all (env_at c.args.at) (set_over (parameters_set c.args.at.parameters) c.loop-left.reads.items) (items xs)) (sym split)) c.loop-left.invariant.1,
    )

pub loop-left-preserved : goal.loop-left-preserved
loop-left-preserved c =
    let following = take (length c.loop-left.left.now - 1) (drop 1 c.loop-left.left.now) in
    let split : c.loop-left.left.now ≡ c.first-item.result ∷ following = first_of (search (rules, apart), grind (arith, common_steps, apart)) in (
      c.loop-left.invariant.0,
      one_more (env_at c.args.at) (parameters_set c.args.at.parameters) (reads_at c.args.at) c.args.at.reads.now c.loop-left.more.items c.loop-left.more.items c.loop-left.reads.items c.in_ok-entry.field-0
          (items following) (items c.loop-left.left.now) _ refl c.loop-left.invariant.0 (sym (append-nil c.loop-left.more.items) ∙ ap (λ x. c.loop-left.more.items ++ listed x) (sym c.in_default-2.is))
          (subst (λ xs. learned_all (env_at c.args.at) (set_over (set_over (parameters_set c.args.at.parameters) xs) (listed c.in_ok-entry.field-0)) (items following)
          ≡ learned_all (env_at c.args.at) (set_over (parameters_set c.args.at.parameters) xs) (items_before c.first-item.result (items following))) c.as_slice.ensures.value (c.in_ok-entry.ensures (items following))
          ∙ ap (λ xs. learned_all (env_at c.args.at) (set_over (parameters_set c.args.at.parameters) c.loop-left.reads.items) (items xs)) (sym split)) c.loop-left.invariant.1,
    )
