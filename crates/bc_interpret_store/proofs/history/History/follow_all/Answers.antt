use Rattle.std.proofs.Common.{refl, subst}
use Rattle.bc_interpret_store.specs.Recorded.{Kept, Follows}
use Rattle.bc_interpret_store.proofs.Following.{kept_more}
use Rattle.bc_interpret_store.proofs.history.History.follow_all.Goals as goal

pub invariant_of-self : goal.invariant_of-self
invariant_of-self c = kept_more _ _ _ _ _ c.self.invariant c.catch_up.ensures.extends

pub returns-clause-follows : goal.returns-clause-follows
returns-clause-follows c =
    let new : Kept = record { first = c.self.inside.first.items; changes = c.catch_up.new.changes.items; now = c.catch_up.new.seen.items } in
    subst (λ (old : Kept). Follows old new) c.self.view_is (record { first = refl; extends = c.catch_up.ensures.extends })
