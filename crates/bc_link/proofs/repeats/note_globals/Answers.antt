use Rattle.std.proofs.Common.{◌≡◌, ◌++◌, ◌∷◌, ◌∙◌, ap, sym, ◌+◌, drop, refl}
use Rattle.bc_link.proofs.Front.{drop-front}
use Rattle.bc_link.proofs.Seen.{repeated_after-seen, repeated_after-fresh, globals_set-other}
use Rattle.bc_link.specs.Refusals.{repeated_after, globals_set}
use Rattle.bc_link.proofs.repeats.note_globals.Goals as goal
use Rattle.bc_link.proofs.repeats.note_globals.Goals.{in-Global+in_ok-insert+else-not-branch, in_default}

pub returns-then-not-branch : goal.returns-then-not-branch
returns-then-not-branch c = λ rest.
    let front = drop-front c.args.items.now c.loop-item.item-index c.item-item.result c.loop-item-test.true c.item-item.is in
    sym (c.loop-item.invariant rest) ∙ ap (λ xs. repeated_after c.loop-item.seen.keys (globals_set xs ++ rest)) (front ∙ ap (λ x. x ∷ drop (c.loop-item.item-index + 1) c.args.items.now) c.in-Global.is)
    ∙ repeated_after-seen c.loop-item.seen.keys c.in-Global.number c.in_ok-insert.field-0 _ c.in_ok-insert.ensures.added c.if-not-branch.true

pub loop-item-preserved : goal.loop-item-preserved
loop-item-preserved c = λ rest.
    let more = drop (c.loop-item.item-index + 1) c.args.items.now in
    let front = drop-front c.args.items.now c.loop-item.item-index c.item-item.result c.loop-item-test.true c.item-item.is in
    let step : repeated_after c.match-item.seen.keys (globals_set more ++ rest) ≡ repeated_after c.loop-item.seen.keys (globals_set (c.item-item.result ∷ more) ++ rest) =
    elim c.match-item.branch [
      | in-Global+in_ok-insert+else-not-branch w ↦ rw (w.seen-is, w.in-Global.is) (sym (repeated_after-fresh c.loop-item.seen.keys w.insert.new.self.keys w.in-Global.number w.in_ok-insert.field-0 (globals_set more ++ rest) w.in_ok-insert.ensures.added w.in_ok-insert.ensures.keys w.if-not-branch.false))
      | in_default w ↦ rw (w.seen-is, globals_set-other c.item-item.result more w.in_default.not-Global) refl
    ] in
    step ∙ ap (λ xs. repeated_after c.loop-item.seen.keys (globals_set xs ++ rest)) (sym front) ∙ c.loop-item.invariant rest
