use Rattle.std.proofs.Common.{◌≡◌, ℕ, ◌+◌, ◌∷◌, [], None, arith, refl, ap, subst, ◌∙◌, drop}
use Rattle.bc_core.specs.Tree.{Args}
use Rattle.bc_core.specs.View.{exp, args}
use Rattle.bc_rules_defs.specs.declared.rule.Rule.TheVariants.{V22}
use Rattle.bc_rules_defs.specs.declared.rule.Table.TheVariants.{Two}
use Rattle.bc_select_defs.specs.Options.{plus, sum, words_of, candidate}
use Rattle.bc_select_defs.specs.Choices.{choices, by_value}
use Rattle.bc_select_defs.specs.Nodes.{in_order, all_in_order}
use Rattle.bc_candidates.specs.Lists.{line, choices_of}
use Rattle.bc_candidates.specs.Below.{Adds, IsOnTheWay}
use Rattle.bc_candidates.proofs.Below.{choices_are, both_added, on_begin, on_step, on_end, args_left, none_left, after_all, call_words}
use Rattle.bc_candidates.proofs.nodes.Gathered.+gathering.Goals as goal

pub part-returns-clause-part : goal.part-returns-clause-part
part-returns-clause-part t c =
    let h = c.in_ok-below.ensures.below in
    record { choices = c.choices.ensures ∙ ap choices_of h.lists ∙ choices_are (exp c.args.e.now) c.args.level; calls = h.calls; nodes = h.nodes }

pub call-returns-clause-below : goal.call-returns-clause-below
call-returns-clause-below t c =
    let es = c.args.arguments.now in let f = exp c.args.routine.now in let s = c.args.level in
    let stored = c.in_ok-stored.ensures.arguments in let part = c.in_ok-node.ensures.part in
    let following = after_all es s _ _ c.in_ok-inside.ensures c.in_ok-following.ensures in
    let words = call_words (args es) f s _ _ _ _ _ _ _ _ c.in_ok-inside.ensures following stored.words part.choices c.any_words.ensures c.in_ok-both.ensures c.number_words.ensures.words c.in_ok-words.ensures in
    let own = stored.nodes in let more = part.nodes in let first = c.in_ok-count.ensures in let last = c.in_ok-count-2.ensures in
    record { lists = c.in_ok-called_lists.ensures ∙ ap (λ x. line None [] (candidate V22 x ∷ []) by_value) words; calls = refl; nodes = omega arith }

pub call-returns-clause-found : goal.call-returns-clause-found
call-returns-clause-found t c =
    let es = c.args.arguments.now in let f = exp c.args.routine.now in let s = c.args.level in
    let old = c.args.self.now.found.items in let mid = c.arguments.new.self.found.items in let new = c.part.new.self.found.items in
    let P : ℕ → Type 0 = λ n. Adds old mid (all_in_order (args es) n) in
    let Q : ℕ → Type 0 = λ n. Adds mid new (in_order f n) in
    both_added old mid new _ _ (subst P c.in_ok-inside.ensures c.in_ok-stored.ensures.found) (subst Q (after_all es s _ _ c.in_ok-inside.ensures c.in_ok-following.ensures) c.in_ok-node.ensures.found)

pub arguments-loop-argument-init : goal.arguments-loop-argument-init
arguments-loop-argument-init t c = on_begin _ c.args.self.now.found.items (args c.args.arguments.now) c.args.level refl refl

pub arguments-loop-argument-preserved : goal.arguments-loop-argument-preserved
arguments-loop-argument-preserved t c =
    let es = c.args.arguments.now in let e = c.argument-item.result in let i = c.loop-argument.argument-index in let part = c.in_ok-node.ensures.part in
    let old = c.args.self.now.found.items in let mid = c.loop-argument.self.found.items in let all = c.loop-argument.all in let s = c.loop-argument.level in
    let P : Args → Type 0 = λ x. IsOnTheWay all old mid x (args es) s c.args.level in
    let own : c.any_words.result ≡ words_of (choices Two (exp e) s).any = c.any_words.ensures ∙ ap (λ q. words_of q.any) part.choices in
    let stored = c.in_ok-stored.ensures ∙ ap (λ x. plus x c.number_words.result) own ∙ ap (plus (words_of (choices Two (exp e) s).any)) c.number_words.ensures.words in
    on_step all _ old mid c.part.new.self.found.items (exp e) (args (drop (i + 1) es)) (args es) s _ c.args.level (subst P (args_left es i e c.loop-argument-test.true c.argument-item.is) c.loop-argument.invariant)
    (c.in_ok-sum.ensures ∙ ap (sum all.words) stored) (c.in_ok-count.ensures ∙ ap (λ n. all.nodes + n) part.nodes) c.in_ok-node.ensures.found c.in_ok-level.ensures

pub arguments-returns-clause-arguments : goal.arguments-returns-clause-arguments
arguments-returns-clause-arguments t c =
    let es = c.args.arguments.now in let i = c.loop-argument.argument-index in
    let old = c.args.self.now.found.items in let new = c.loop-argument.self.found.items in
    let P : Args → Type 0 = λ x. IsOnTheWay c.loop-argument.all old new x (args es) c.loop-argument.level c.args.level in
    let ended = on_end c.loop-argument.all old new (args es) c.loop-argument.level c.args.level (subst P (none_left es i c.loop-argument-test.false) c.loop-argument.invariant) in
    ended.0
