use Rattle.std.proofs.Common.{◌++◌, ap, sym, subst, ◌∙◌}
use Rattle.bc_select.specs.Order.{AllFit, from_the_end, in_order_of, listed}
use Rattle.bc_select.proofs.Order.{fit_last, fit_more, order_more, fewer}
use Rattle.bc_select.proofs.layout.ordered.Goals as goal

pub put_parts-requires : goal.put_parts-requires
put_parts-requires c =
    let old = c.loop-next.waiting.items in
    fit_last old c.in-Some.whole (subst (λ n. AllFit (old ++ listed n)) c.in-Some.is c.loop-next.invariant.fit)

pub loop-next-preserved : goal.loop-next-preserved
loop-next-preserved c =
    let old = c.loop-next.waiting.items in let whole = c.in-Some.whole in let put = c.in_ok-last.ensures in let last = c.in_ok-last.last in
    let now = c.put_parts.new.waiting.items in let order = c.loop-next.order.items in
    let fit = fit_more old now last whole put (subst (λ n. AllFit (old ++ listed n)) c.in-Some.is c.loop-next.invariant.fit) in
    let is = order_more old now order last whole _ put (ap (λ n. in_order_of (old ++ listed n) ++ from_the_end order) (sym c.in-Some.is) ∙ c.loop-next.invariant.is) in
    let same = c.take_next-next-in-Some.ensures.same in
    record {
      fit = subst AllFit same fit;
      over = c.take_next-next-in-Some.ensures.over;
      is = ap (λ x. in_order_of x ++ from_the_end c.push.new.self.items) (sym same) ∙ ap (λ x. in_order_of (now ++ listed last) ++ from_the_end x) c.in_ok-push.ensures.items ∙ is;
    }

pub loop-next-smaller : goal.loop-next-smaller
loop-next-smaller c =
    let old = c.loop-next.waiting.items in let whole = c.in-Some.whole in let put = c.in_ok-last.ensures in let last = c.in_ok-last.last in
    let now = c.put_parts.new.waiting.items in let order = c.loop-next.order.items in
    let is = order_more old now order last whole _ put (ap (λ n. in_order_of (old ++ listed n) ++ from_the_end order) (sym c.in-Some.is) ∙ c.loop-next.invariant.is) in
    fewer order c.push.new.self.items (in_order_of (now ++ listed last)) _ whole c.in_ok-push.ensures.items (ap (λ x. in_order_of (now ++ listed last) ++ from_the_end x) c.in_ok-push.ensures.items ∙ is)
