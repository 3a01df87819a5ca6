use Rattle.std.proofs.Common.{◌≡◌, ◌∙◌, ap, sym, length, None}
use Rattle.std.proofs.lemmas.List.Elements.{All-push}
use Rattle.bc_scope_names.specs.declared.scope.Entry.TheVariants as entry
use Rattle.bc_scope_names.specs.Index.{names, HasPosition}
use Rattle.bc_scope_names.proofs.Kept.{declares_push, can_undo_push, routine_border}
use Rattle.bc_scope_names.proofs.Names.{newest_last}
use Rattle.bc_scope_names.proofs.scope.Scope.enter_routine.Goals as goal

pub invariant_of-self-2 : goal.invariant_of-self-2
invariant_of-self-2 c =
    let es = c.self.inside.entries.items in
    let b = c.self.inside.borders in
    let kept = c.self.invariant in
    let put = c.in_ok-push.ensures.items in (
      λ q. rw put (kept.0 q ∙ sym (newest_last es (entry.Routine b) q.now None)),
      rw put (c.after_routine-self-inside.ensures ∙ routine_border es b b _ kept.1 (c.len.ensures ∙ c.push.new.self.ok.0 ∙ ap (λ l. length l) put)),
      rw put (can_undo_push es (entry.Routine b) kept.2 kept.1),
      rw put (All-push (HasPosition (names c.self.inside.index)) es (entry.Routine b) kept.3 tt),
    )

pub returns : goal.returns
returns c =
    let seen : c.self.inside.entries.items ≡ c.args.self.now = c.self.view_is in
    rw c.in_ok-push.ensures.items (rw seen (declares_push c.args.self.now (entry.Routine c.self.inside.borders)))
