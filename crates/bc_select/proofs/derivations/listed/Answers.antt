use Rattle.std.proofs.Common.{◌≡◌, ◌+◌, ◌∷◌, [], ◌++◌, length, ap, sym, subst, ◌∙◌, arith, length-append, rules}
use Rattle.bc_core.specs.View.{exp}
use Rattle.bc_rules_defs.specs.Rules.{by}
use Rattle.bc_select.specs.Marks.{marks_of_all}
use Rattle.bc_select.specs.Reads.{parts_for}
use Rattle.bc_select.specs.Waiting.{tree_of, trees_of, AreReady}
use Rattle.bc_select.proofs.Marked.{listed_more, fewer}
use Rattle.bc_select.proofs.Readings.{reading_is}
use Rattle.bc_select.proofs.Waits.{ready_append, ready_front, ready_last}
use Rattle.bc_select.proofs.derivations.listed.Goals as goal

pub parts-requires-clause-fits : goal.parts-requires-clause-fits
parts-requires-clause-fits c = (ready_last c.args.nodes.now c.pop.new.self.items c.in-Some.next (subst (AreReady c.args.nodes.now) c.in-Some.ensures.items c.loop-next.invariant.ready)).fits

pub parts-requires-clause-nodes : goal.parts-requires-clause-nodes
parts-requires-clause-nodes c = (ready_last c.args.nodes.now c.pop.new.self.items c.in-Some.next (subst (AreReady c.args.nodes.now) c.in-Some.ensures.items c.loop-next.invariant.ready)).nodes_are

pub loop-next-preserved : goal.loop-next-preserved
loop-next-preserved c =
    let next = c.in-Some.next in let left = c.pop.new.self.items in let new = c.parts.new.waiting.items in let all = c.args.nodes.now in let rule = next.step.rule in let e = exp next.e.now in
    let is : c.loop-next.waiting.items ≡ left ++ next ∷ [] = c.in-Some.ensures.items in
    let were = subst (AreReady all) is c.loop-next.invariant.ready in
    let p = c.in_ok-parts.ensures in
    let tree : by rule (parts_for e next.step.place.level next.step.aim rule) ≡ tree_of next = reading_is e next.step.place.level next.step.aim rule (ready_last all left next were).rule_is in
    let m : c.len-before.result ≡ length left = c.len-before.ensures ∙ c.pop.new.self.ok.0 in
    let n : c.len.result ≡ length new = c.len.ensures ∙ c.parts.new.waiting.ok.0 in
    let longer : length new ≡ length left + length p.added = ap length p.is ∙ length-append left p.added in
    let difference = c.saturating_sub.ensures in
    let same : c.in-Ok.parts ≡ c.saturating_sub.result = search rules in
    let number : c.in-Ok.parts + length left ≡ length new = omega arith in
    record {
      ready = subst (AreReady all) (sym p.is) (ready_append all left p.added (ready_front all left (next ∷ []) were) p.ready);
      is = ap (λ x. x ++ marks_of_all (trees_of new)) c.in_ok-push-in-Ok.ensures.items ∙ listed_more all _ left new next rule _ c.loop-next.marks.items _ c.in-Ok.parts is p tree number c.loop-next.invariant.is;
    }

pub loop-next-smaller : goal.loop-next-smaller
loop-next-smaller c =
    let next = c.in-Some.next in let left = c.pop.new.self.items in let new = c.parts.new.waiting.items in let all = c.args.nodes.now in let rule = next.step.rule in let e = exp next.e.now in
    let is : c.loop-next.waiting.items ≡ left ++ next ∷ [] = c.in-Some.ensures.items in
    let were = subst (AreReady all) is c.loop-next.invariant.ready in
    let p = c.in_ok-parts.ensures in
    let tree : by rule (parts_for e next.step.place.level next.step.aim rule) ≡ tree_of next = reading_is e next.step.place.level next.step.aim rule (ready_last all left next were).rule_is in
    let m : c.len-before.result ≡ length left = c.len-before.ensures ∙ c.pop.new.self.ok.0 in
    let n : c.len.result ≡ length new = c.len.ensures ∙ c.parts.new.waiting.ok.0 in
    let longer : length new ≡ length left + length p.added = ap length p.is ∙ length-append left p.added in
    let difference = c.saturating_sub.ensures in
    let same : c.in-Ok.parts ≡ c.saturating_sub.result = search rules in
    let number : c.in-Ok.parts + length left ≡ length new = omega arith in
    fewer c.loop-next.marks.items c.push.new.self.items _ _ _ (listed_more all _ left new next rule _ c.loop-next.marks.items _ c.in-Ok.parts is p tree number c.loop-next.invariant.is) c.in_ok-push-in-Ok.ensures.items
