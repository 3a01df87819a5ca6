use Rattle.std.proofs.Common.{◌∙◌, List, drop, slice_range, refl, ap, subst}
use Rattle.bc_interpret_store.specs.declared.change.Change.{Change}
use Rattle.bc_interpret_store.specs.Recorded.{Kept, Drops}
use Rattle.bc_interpret_store.proofs.Following.{kept_later, dropped}
use Rattle.bc_interpret_store.proofs.history.History.drop_first.Goals as goal

pub invariant_of-self : goal.invariant_of-self
invariant_of-self c =
    let all = c.as_slice-all.ensures.value in
    kept_later _ _ _ _ _ _ c.args.count c.self.invariant (c.between-dropped.ensures ∙ ap (λ (l : List Change). slice_range l 0 c.args.count) all)
    (c.in_ok-rest.ensures ∙ ap (drop c.args.count) all) c.apply.ensures

pub returns-clause-drops : goal.returns-clause-drops
returns-clause-drops c =
    let all = c.as_slice-all.ensures.value in
    let new : Kept = record { first = c.apply.new.cells.items; changes = c.in_ok-rest.rest.items; now = c.self.inside.now.items } in
    subst (λ (old : Kept). Drops old new c.args.count) c.self.view_is (record {
      now = refl;
      later = λ n. dropped _ _ _ _ _ c.args.count n (c.between-dropped.ensures ∙ ap (λ (l : List Change). slice_range l 0 c.args.count) all)
          (c.in_ok-rest.ensures ∙ ap (drop c.args.count) all) c.apply.ensures;
    })

pub returns-clause-now : goal.returns-clause-now
returns-clause-now c = ap (λ (kept : Kept). kept.now) c.self.view_is
