use Rattle.std.proofs.Common.{◌≡◌, ◌∙◌, ◌++◌, ◌∷◌, [], sym, refl, arith}
use Rattle.std.proofs.lemmas.Grind.{common_steps}
use Rattle.std.proofs.lemmas.List.{map-append}
use Rattle.bc_parse_defs.specs.Seen.{lists, tags}
use Rattle.bc_parse_defs.proofs.Unwinding.{unwind_is, tags_push}
use Rattle.bc_parse_defs.proofs.closing.unwind.Goals as goal

pub returns : goal.returns
returns c =
    let empty : c.loop-opening.opened.items ≡ [] = grind (arith, common_steps) in
    sym (unwind_is c.args.tag.now c.args.at (lists c.args.list.now) (tags c.args.opened.now.items)) ∙ sym c.loop-opening.invariant ∙ rw empty refl

pub returns-then-is_match : goal.returns-then-is_match
returns-then-is_match c =
    let last : c.loop-opening.opened.items ≡ c.pop.new.self.items ++ c.in-Some.opening ∷ [] = grind (arith, common_steps) in
    let matched = sym c.is_match.ensures ∙ c.if-is_match.true in
    sym (unwind_is c.args.tag.now c.args.at (lists c.args.list.now) (tags c.args.opened.now.items)) ∙ sym c.loop-opening.invariant
    ∙ rw (last, tags_push c.pop.new.self.items c.in-Some.opening, matched, c.in_ok-push.ensures.items, c.in_ok-push-2.ensures.items, map-append) refl
