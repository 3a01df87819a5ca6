use Rattle.std.proofs.Common.{rules, ◌≡◌, ◌+◌, length, ap, sym, ◌∙◌, arith}
use Rattle.bc_core.specs.View.{exp, args}
use Rattle.bc_core.specs.WellFormed.{nodes}
use Rattle.bc_rules_defs.specs.declared.rule.Table.TheVariants.{Two}
use Rattle.bc_select_defs.specs.Options.{sum}
use Rattle.bc_select.specs.Laid.{words_before}
use Rattle.bc_select.proofs.Bounds.{choices_small, stored_small}
use Rattle.bc_select.proofs.Laid.{last_argument, last_nodes, last_words, few_more}
use Rattle.bc_select.proofs.Wholes.{stored_is}
use Rattle.bc_select.proofs.node_of_parts.+with_arguments.Goals as goal

pub words-requires : goal.words-requires
words-requires t c =
    let e = exp c.in-Some.argument.now in let k = c.args.level + length c.in-Some.others.now in
    let i = c.last-part.ensures _ e k (last_argument c.args.below.now c.args.arguments.now c.in-Some.others.now c.in-Some.argument.now c.args.level c.requires.laid c.in-Some.ensures.cases.0) in
    let n = last_nodes c.args.arguments.now c.in-Some.others.now c.in-Some.argument.now c.in-Some.ensures.cases.0 in
    let f = c.requires.fits in
    (choices_small Two c.last-part.result.choices e k (omega arith) (ap (λ q. q.choices) i)).any

pub sum-requires-clause-first : goal.sum-requires-clause-first
sum-requires-clause-first t c =
    let e = exp c.in-Some.argument.now in let k = c.args.level + length c.in-Some.others.now in
    let i = c.last-part.ensures _ e k (last_argument c.args.below.now c.args.arguments.now c.in-Some.others.now c.in-Some.argument.now c.args.level c.requires.laid c.in-Some.ensures.cases.0) in
    let n = last_nodes c.args.arguments.now c.in-Some.others.now c.in-Some.argument.now c.in-Some.ensures.cases.0 in
    let f = c.requires.fits in
    stored_small Two c.plus-stored.result e k (omega arith) (stored_is _ _ _ c.last-part.result e k c.plus-stored.ensures c.words.ensures.words c.number_words.ensures.words i)

pub overflow_add-following : goal.overflow_add-following
overflow_add-following t c =
    let e = exp c.in-Some.argument.now in let k = c.args.level + length c.in-Some.others.now in
    let i = c.last-part.ensures _ e k (last_argument c.args.below.now c.args.arguments.now c.in-Some.others.now c.in-Some.argument.now c.args.level c.requires.laid c.in-Some.ensures.cases.0) in
    let m : c.last-part.result.nodes ≡ nodes e = ap (λ q. q.nodes) i in
    let n = last_nodes c.args.arguments.now c.in-Some.others.now c.in-Some.argument.now c.in-Some.ensures.cases.0 in
    let f = c.requires.fits in
    search rules

pub with_arguments-requires : goal.with_arguments-requires
with_arguments-requires t c =
    let e = exp c.in-Some.argument.now in let k = c.args.level + length c.in-Some.others.now in
    let l = last_argument c.args.below.now c.args.arguments.now c.in-Some.others.now c.in-Some.argument.now c.args.level c.requires.laid c.in-Some.ensures.cases.0 in
    let i = c.last-part.ensures _ e k l in
    let m : c.last-part.result.nodes ≡ nodes e = ap (λ q. q.nodes) i in
    let n = last_nodes c.args.arguments.now c.in-Some.others.now c.in-Some.argument.now c.in-Some.ensures.cases.0 in
    let f = c.requires.fits in
    let halves = c.cut-front.ensures _ e k l in
    let words = c.sum.ensures ∙ ap (λ x. sum x c.args.following.words) (stored_is _ _ _ c.last-part.result e k c.plus-stored.ensures c.words.ensures.words c.number_words.ensures.words i) in (
      search rules,
      (
        omega arith,
        (
          record { front = c.requires.laid.front; is = halves.first_is },
          few_more c.args.following _ e k c.requires.few words (ap (λ x. x + c.args.following.nodes) m),
        ),
      ),
    )

pub returns-clause-words : goal.returns-clause-words
returns-clause-words t c =
    let e = exp c.in-Some.argument.now in let k = c.args.level + length c.in-Some.others.now in
    let i = c.last-part.ensures _ e k (last_argument c.args.below.now c.args.arguments.now c.in-Some.others.now c.in-Some.argument.now c.args.level c.requires.laid c.in-Some.ensures.cases.0) in
    let words = c.sum.ensures ∙ ap (λ x. sum x c.args.following.words) (stored_is _ _ _ c.last-part.result e k c.plus-stored.ensures c.words.ensures.words c.number_words.ensures.words i) in
    c.with_arguments.ensures.words ∙ ap (words_before (args c.in-Some.others.now) c.args.level) words
    ∙ sym (last_words c.args.arguments.now c.in-Some.others.now c.in-Some.argument.now c.args.level c.args.following.words c.in-Some.ensures.cases.0)

pub returns-clause-nodes : goal.returns-clause-nodes
returns-clause-nodes t c =
    let e = exp c.in-Some.argument.now in let k = c.args.level + length c.in-Some.others.now in
    let i = c.last-part.ensures _ e k (last_argument c.args.below.now c.args.arguments.now c.in-Some.others.now c.in-Some.argument.now c.args.level c.requires.laid c.in-Some.ensures.cases.0) in
    let m : c.last-part.result.nodes ≡ nodes e = ap (λ q. q.nodes) i in
    let n = last_nodes c.args.arguments.now c.in-Some.others.now c.in-Some.argument.now c.in-Some.ensures.cases.0 in
    let r = c.with_arguments.ensures.nodes in
    omega arith
