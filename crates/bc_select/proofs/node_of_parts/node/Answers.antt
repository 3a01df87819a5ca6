use Rattle.std.proofs.Common.{◌≡◌, ◌+◌, ◌++◌, refl, ap, sym, subst, ◌∙◌, arith}
use Rattle.bc_core.specs.Tree as tree
use Rattle.bc_core.specs.Tree.{count}
use Rattle.bc_core.specs.View.{exp, args}
use Rattle.bc_core.specs.WellFormed.{nodes, nodes_of_args}
use Rattle.bc_core.proofs.Rows.{call_view}
use Rattle.bc_rules_defs.specs.declared.rule.Table.TheVariants.{Two}
use Rattle.bc_select.specs.Laid.{EndsInParts}
use Rattle.bc_select.specs.Vector.{node, before_all, vector}
use Rattle.bc_select.proofs.Bounds.{choices_small, words_small}
use Rattle.bc_select.proofs.Laid.{that_of, routine_of, front_of_that, front_of_this, cond_whole, words_all}
use Rattle.bc_select.proofs.Wholes.{leaf_small, number_small, args_count, load_small, neg_small, cond_small, call_small, call_whole}
use Rattle.bc_select.proofs.node_of_parts.node.Goals as goal

pub number_choices-requires : goal.number_choices-requires
number_choices-requires c = number_small c.own_operand.result c.in-Num.number

pub leaf_choices-requires : goal.leaf_choices-requires
leaf_choices-requires c = leaf_small _

pub unary_part-requires-clause-part : goal.unary_part-requires-clause-part
unary_part-requires-clause-part c =
    let a = exp c.deref.result.now in
    let e : exp c.args.e.now ≡ tree.Load a = ap exp c.in-Load.is ∙ sym (ap (λ x. tree.Load (exp x)) c.deref.ensures) in
    let h = subst (λ x. EndsInParts c.args.below.now x c.args.level) e c.requires.laid in
    let n : nodes (exp c.args.e.now) ≡ 1 + nodes a = ap nodes e in
    let f = c.requires.fits in
    choices_small Two _ a c.args.level (omega arith) (ap (λ q. q.choices) (c.last.ensures h.front a c.args.level h.is))

pub unary_part-requires-clause-value : goal.unary_part-requires-clause-value
unary_part-requires-clause-value c =
    let a = exp c.deref.result.now in
    let e : exp c.args.e.now ≡ tree.Load a = ap exp c.in-Load.is ∙ sym (ap (λ x. tree.Load (exp x)) c.deref.ensures) in
    let h = subst (λ x. EndsInParts c.args.below.now x c.args.level) e c.requires.laid in
    let n : nodes (exp c.args.e.now) ≡ 1 + nodes a = ap nodes e in
    let f = c.requires.fits in
    load_small c.last.result c.cell_operand.result a c.args.level (omega arith) (c.last.ensures h.front a c.args.level h.is) c.cell_operand.ensures

pub unary_part-requires-in-Neg-clause-part : goal.unary_part-requires-in-Neg-clause-part
unary_part-requires-in-Neg-clause-part c =
    let a = exp c.in-Neg.field-0.value in
    let e : exp c.args.e.now ≡ tree.Neg a = ap exp c.in-Neg.is in
    let h = subst (λ x. EndsInParts c.args.below.now x c.args.level) e c.requires.laid in
    let n : nodes (exp c.args.e.now) ≡ 1 + nodes a = ap nodes e in
    let f = c.requires.fits in
    choices_small Two _ a c.args.level (omega arith) (ap (λ q. q.choices) (c.last-in-Neg.ensures h.front a c.args.level h.is))

pub unary_part-requires-in-Neg-clause-value : goal.unary_part-requires-in-Neg-clause-value
unary_part-requires-in-Neg-clause-value c =
    let a = exp c.in-Neg.field-0.value in
    let e : exp c.args.e.now ≡ tree.Neg a = ap exp c.in-Neg.is in
    let h = subst (λ x. EndsInParts c.args.below.now x c.args.level) e c.requires.laid in
    let n : nodes (exp c.args.e.now) ≡ 1 + nodes a = ap nodes e in
    let f = c.requires.fits in
    neg_small c.last-in-Neg.result a c.args.level (omega arith) (c.last-in-Neg.ensures h.front a c.args.level h.is)

pub not_part-requires-clause-part : goal.not_part-requires-clause-part
not_part-requires-clause-part c =
    let a = exp c.in-Not.field-0.value in
    let e : exp c.args.e.now ≡ tree.Not a = ap exp c.in-Not.is in
    let h = subst (λ x. EndsInParts c.args.below.now x c.args.level) e c.requires.laid in
    let n : nodes (exp c.args.e.now) ≡ 1 + nodes a = ap nodes e in
    let f = c.requires.fits in
    choices_small Two _ a c.args.level (omega arith) (ap (λ q. q.choices) (c.last-in-Not.ensures h.front a c.args.level h.is))

pub cond_part-requires-clause-condition : goal.cond_part-requires-clause-condition
cond_part-requires-clause-condition c =
    let a = exp c.in-Cond.field-0.value in let x = exp c.in-Cond.field-1.value in let y = exp c.in-Cond.field-2.value in
    let e : exp c.args.e.now ≡ tree.Cond a x y = ap exp c.in-Cond.is in
    let h = subst (λ x. EndsInParts c.args.below.now x c.args.level) e c.requires.laid in
    let n : nodes (exp c.args.e.now) ≡ 1 + nodes a + nodes x + nodes y = ap nodes e in
    let f = c.requires.fits in
    let k = front_of_this c.args.below.now _ _ c.cut-test.result.0 _ a x y c.args.level h c.cut-front.ensures c.cut-test.ensures in
    choices_small Two _ a c.args.level (omega arith) (ap (λ q. q.choices) (c.last-in-Cond.ensures h.front a c.args.level k))

pub cond_part-requires-clause-this : goal.cond_part-requires-clause-this
cond_part-requires-clause-this c =
    let a = exp c.in-Cond.field-0.value in let x = exp c.in-Cond.field-1.value in let y = exp c.in-Cond.field-2.value in
    let e : exp c.args.e.now ≡ tree.Cond a x y = ap exp c.in-Cond.is in
    let h = subst (λ x. EndsInParts c.args.below.now x c.args.level) e c.requires.laid in
    let n : nodes (exp c.args.e.now) ≡ 1 + nodes a + nodes x + nodes y = ap nodes e in
    let f = c.requires.fits in
    let k = front_of_that c.args.below.now c.cut-front.result.0 _ a x y c.args.level h c.cut-front.ensures in
    choices_small Two _ x c.args.level (omega arith) (ap (λ q. q.choices) (c.last-in-Cond-2.ensures (h.front ++ vector a c.args.level) x c.args.level k))

pub cond_part-requires-clause-that : goal.cond_part-requires-clause-that
cond_part-requires-clause-that c =
    let a = exp c.in-Cond.field-0.value in let x = exp c.in-Cond.field-1.value in let y = exp c.in-Cond.field-2.value in
    let e : exp c.args.e.now ≡ tree.Cond a x y = ap exp c.in-Cond.is in
    let h = subst (λ x. EndsInParts c.args.below.now x c.args.level) e c.requires.laid in
    let n : nodes (exp c.args.e.now) ≡ 1 + nodes a + nodes x + nodes y = ap nodes e in
    let f = c.requires.fits in
    choices_small Two _ y c.args.level (omega arith) (ap (λ q. q.choices) (c.last-in-Cond-3.ensures (h.front ++ (vector a c.args.level ++ vector x c.args.level)) y c.args.level (that_of c.args.below.now a x y c.args.level h)))

pub cond_part-requires-clause-value : goal.cond_part-requires-clause-value
cond_part-requires-clause-value c =
    let a = exp c.in-Cond.field-0.value in let x = exp c.in-Cond.field-1.value in let y = exp c.in-Cond.field-2.value in
    let e : exp c.args.e.now ≡ tree.Cond a x y = ap exp c.in-Cond.is in
    let h = subst (λ x. EndsInParts c.args.below.now x c.args.level) e c.requires.laid in
    let n : nodes (exp c.args.e.now) ≡ 1 + nodes a + nodes x + nodes y = ap nodes e in
    let f = c.requires.fits in
    let k = front_of_this c.args.below.now _ _ c.cut-test.result.0 _ a x y c.args.level h c.cut-front.ensures c.cut-test.ensures in
    let l = front_of_that c.args.below.now c.cut-front.result.0 _ a x y c.args.level h c.cut-front.ensures in
    cond_small c.last-in-Cond.result c.last-in-Cond-2.result c.last-in-Cond-3.result a x y c.args.level (omega arith) (c.last-in-Cond.ensures h.front a c.args.level k) (c.last-in-Cond-2.ensures (h.front ++ vector a c.args.level) x c.args.level l) (c.last-in-Cond-3.ensures (h.front ++ (vector a c.args.level ++ vector x c.args.level)) y c.args.level (that_of c.args.below.now a x y c.args.level h))

pub cond_part-requires-clause-fits : goal.cond_part-requires-clause-fits
cond_part-requires-clause-fits c =
    let a = exp c.in-Cond.field-0.value in let x = exp c.in-Cond.field-1.value in let y = exp c.in-Cond.field-2.value in
    let e : exp c.args.e.now ≡ tree.Cond a x y = ap exp c.in-Cond.is in
    let h = subst (λ x. EndsInParts c.args.below.now x c.args.level) e c.requires.laid in
    let n : nodes (exp c.args.e.now) ≡ 1 + nodes a + nodes x + nodes y = ap nodes e in
    let f = c.requires.fits in
    let k = front_of_this c.args.below.now _ _ c.cut-test.result.0 _ a x y c.args.level h c.cut-front.ensures c.cut-test.ensures in
    let l = front_of_that c.args.below.now c.cut-front.result.0 _ a x y c.args.level h c.cut-front.ensures in
    let i : c.last-in-Cond.result.nodes ≡ nodes a = ap (λ q. q.nodes) (c.last-in-Cond.ensures h.front a c.args.level k) in
    let j : c.last-in-Cond-2.result.nodes ≡ nodes x = ap (λ q. q.nodes) (c.last-in-Cond-2.ensures (h.front ++ vector a c.args.level) x c.args.level l) in
    let m : c.last-in-Cond-3.result.nodes ≡ nodes y = ap (λ q. q.nodes) (c.last-in-Cond-3.ensures (h.front ++ (vector a c.args.level ++ vector x c.args.level)) y c.args.level (that_of c.args.below.now a x y c.args.level h)) in
    omega arith

pub returns-in-Cond : goal.returns-in-Cond
returns-in-Cond c =
    let a = exp c.in-Cond.field-0.value in let x = exp c.in-Cond.field-1.value in let y = exp c.in-Cond.field-2.value in
    let e : exp c.args.e.now ≡ tree.Cond a x y = ap exp c.in-Cond.is in
    let h = subst (λ x. EndsInParts c.args.below.now x c.args.level) e c.requires.laid in
    let k = front_of_this c.args.below.now _ _ c.cut-test.result.0 _ a x y c.args.level h c.cut-front.ensures c.cut-test.ensures in
    let l = front_of_that c.args.below.now c.cut-front.result.0 _ a x y c.args.level h c.cut-front.ensures in
    cond_whole c.cond_part.result c.last-in-Cond.result c.last-in-Cond-2.result c.last-in-Cond-3.result a x y c.args.level (c.last-in-Cond.ensures h.front a c.args.level k) (c.last-in-Cond-2.ensures (h.front ++ vector a c.args.level) x c.args.level l) (c.last-in-Cond-3.ensures (h.front ++ (vector a c.args.level ++ vector x c.args.level)) y c.args.level (that_of c.args.below.now a x y c.args.level h)) c.cond_part.ensures
    ∙ ap (λ q. node q c.args.level) (sym e)

pub returns-in-Bin : goal.returns-in-Bin
returns-in-Bin c =
    let l = ap exp c.deref-in-Bin.ensures in let r = ap exp c.deref-in-Bin-2.ensures in
    let e : exp c.args.e.now ≡ tree.Bin c.in-Bin.op (exp c.deref-in-Bin.result.now) (exp c.deref-in-Bin-2.result.now) =
    ap exp c.in-Bin.is ∙ sym (ap (λ x. tree.Bin c.in-Bin.op x (exp c.in-Bin.right.value)) l) ∙ sym (ap (λ x. tree.Bin c.in-Bin.op (exp c.deref-in-Bin.result.now) x) r) in
    c.pair_node.ensures ∙ ap (λ x. node x c.args.level) (sym e)

pub with_arguments-arguments-requires-clause-fits : goal.with_arguments-arguments-requires-clause-fits
with_arguments-arguments-requires-clause-fits c =
    let es = c.deref-in-Call.result.now in let f = exp c.in-Call.field-1.value in
    let e : exp c.args.e.now ≡ tree.Call (args es) f = ap exp c.in-Call.is ∙ call_view c.in-Call.arguments c.in-Call.field-1 ∙ sym (ap (λ x. tree.Call (args x) f) c.deref-in-Call.ensures.value) in
    let n : nodes (exp c.args.e.now) ≡ 1 + nodes_of_args (args es) + nodes f = ap nodes e in
    let r = c.requires.fits in
    omega arith

pub with_arguments-arguments-requires-clause-laid : goal.with_arguments-arguments-requires-clause-laid
with_arguments-arguments-requires-clause-laid c =
    let es = c.deref-in-Call.result.now in let f = exp c.in-Call.field-1.value in let s = c.args.level in
    let e : exp c.args.e.now ≡ tree.Call (args es) f = ap exp c.in-Call.is ∙ call_view c.in-Call.arguments c.in-Call.field-1 ∙ sym (ap (λ x. tree.Call (args x) f) c.deref-in-Call.ensures.value) in
    let h = subst (λ x. EndsInParts c.args.below.now x s) e c.requires.laid in
    record { front = h.front; is = (c.cut-front-in-Call.ensures (h.front ++ before_all (args es) (s + 2)) f (s + 2 + count (args es)) (routine_of c.args.below.now (args es) f s h)).first_is }

pub call_part-requires-clause-arguments : goal.call_part-requires-clause-arguments
call_part-requires-clause-arguments c =
    let es = c.deref-in-Call.result.now in let f = exp c.in-Call.field-1.value in let s = c.args.level in
    let e : exp c.args.e.now ≡ tree.Call (args es) f = ap exp c.in-Call.is ∙ call_view c.in-Call.arguments c.in-Call.field-1 ∙ sym (ap (λ x. tree.Call (args x) f) c.deref-in-Call.ensures.value) in
    let n : nodes (exp c.args.e.now) ≡ 1 + nodes_of_args (args es) + nodes f = ap nodes e in
    let r = c.requires.fits in
    words_small Two _ (args es) (s + 2) (omega arith) (c.with_arguments-arguments.ensures.words ∙ words_all (args es) (s + 2))

pub call_part-requires-clause-routine : goal.call_part-requires-clause-routine
call_part-requires-clause-routine c =
    let es = c.deref-in-Call.result.now in let f = exp c.in-Call.field-1.value in let s = c.args.level in
    let e : exp c.args.e.now ≡ tree.Call (args es) f = ap exp c.in-Call.is ∙ call_view c.in-Call.arguments c.in-Call.field-1 ∙ sym (ap (λ x. tree.Call (args x) f) c.deref-in-Call.ensures.value) in
    let h = subst (λ x. EndsInParts c.args.below.now x s) e c.requires.laid in
    let n : nodes (exp c.args.e.now) ≡ 1 + nodes_of_args (args es) + nodes f = ap nodes e in
    let r = c.requires.fits in
    choices_small Two _ f (s + 2 + count (args es)) (omega arith) (ap (λ q. q.choices) (c.last-in-Call.ensures (h.front ++ before_all (args es) (s + 2)) f (s + 2 + count (args es)) (routine_of c.args.below.now (args es) f s h)))

pub call_part-requires-clause-value : goal.call_part-requires-clause-value
call_part-requires-clause-value c =
    let es = c.deref-in-Call.result.now in let f = exp c.in-Call.field-1.value in let s = c.args.level in
    let e : exp c.args.e.now ≡ tree.Call (args es) f = ap exp c.in-Call.is ∙ call_view c.in-Call.arguments c.in-Call.field-1 ∙ sym (ap (λ x. tree.Call (args x) f) c.deref-in-Call.ensures.value) in
    let h = subst (λ x. EndsInParts c.args.below.now x s) e c.requires.laid in
    let n : nodes (exp c.args.e.now) ≡ 1 + nodes_of_args (args es) + nodes f = ap nodes e in
    let r = c.requires.fits in
    let i = c.last-in-Call.ensures (h.front ++ before_all (args es) (s + 2)) f (s + 2 + count (args es)) (routine_of c.args.below.now (args es) f s h) in
    call_small es f s _ c.last-in-Call.result (omega arith) (c.with_arguments-arguments.ensures.words ∙ words_all (args es) (s + 2)) (i ∙ ap (λ m. node f (s + 2 + m)) (args_count es))

pub call_part-requires-clause-fits : goal.call_part-requires-clause-fits
call_part-requires-clause-fits c =
    let es = c.deref-in-Call.result.now in let f = exp c.in-Call.field-1.value in let s = c.args.level in
    let e : exp c.args.e.now ≡ tree.Call (args es) f = ap exp c.in-Call.is ∙ call_view c.in-Call.arguments c.in-Call.field-1 ∙ sym (ap (λ x. tree.Call (args x) f) c.deref-in-Call.ensures.value) in
    let h = subst (λ x. EndsInParts c.args.below.now x s) e c.requires.laid in
    let n : nodes (exp c.args.e.now) ≡ 1 + nodes_of_args (args es) + nodes f = ap nodes e in
    let r = c.requires.fits in
    let i : c.last-in-Call.result.nodes ≡ nodes f = ap (λ q. q.nodes) (c.last-in-Call.ensures (h.front ++ before_all (args es) (s + 2)) f (s + 2 + count (args es)) (routine_of c.args.below.now (args es) f s h)) in
    let m = c.with_arguments-arguments.ensures.nodes in
    omega arith

pub returns-in-Call : goal.returns-in-Call
returns-in-Call c =
    let es = c.deref-in-Call.result.now in let f = exp c.in-Call.field-1.value in let s = c.args.level in
    let e : exp c.args.e.now ≡ tree.Call (args es) f = ap exp c.in-Call.is ∙ call_view c.in-Call.arguments c.in-Call.field-1 ∙ sym (ap (λ x. tree.Call (args x) f) c.deref-in-Call.ensures.value) in
    let h = subst (λ x. EndsInParts c.args.below.now x s) e c.requires.laid in
    let i = c.last-in-Call.ensures (h.front ++ before_all (args es) (s + 2)) f (s + 2 + count (args es)) (routine_of c.args.below.now (args es) f s h) in
    let n = c.with_arguments-arguments.ensures.nodes in
    c.call_part.ensures
    ∙ call_whole es f s c.with_arguments-arguments.result.words c.with_arguments-arguments.result.nodes c.last-in-Call.result _ (c.with_arguments-arguments.ensures.words ∙ words_all (args es) (s + 2)) (omega arith) (i ∙ ap (λ m. node f (s + 2 + m)) (args_count es)) refl
    ∙ ap (λ x. node x s) (sym e)
