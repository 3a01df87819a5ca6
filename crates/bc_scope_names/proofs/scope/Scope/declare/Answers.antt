use Rattle.std.proofs.Common.{◌≡◌, ◌∙◌, ◌++◌, ◌∷◌, [], ℕ, refl, ap, cond, sym, None, Some}
use Rattle.std.specs.Option.{option_flatten}
use Rattle.std.specs.Str.{bytes_eq}
use Rattle.bc_scope_names.specs.declared.scope.Bound.{Bound}
use Rattle.indexmap.specs.IndexMap.{get}
use Rattle.bc_scope_names.specs.declared.scope.Named.{Named}
use Rattle.bc_scope_names.specs.declared.scope.Entry.TheVariants as entry
use Rattle.bc_scope_names.specs.Index.{newest, is_key, no_borders}
use Rattle.bc_scope_names.proofs.Kept.{declares_push, can_undo_push, finds_name, positions_push}
use Rattle.bc_scope_names.proofs.Names.{borders_last}
use Rattle.bc_scope_names.proofs.scope.Scope.declare.Goals as goal

pub invariant_of-self-2 : goal.invariant_of-self-2
invariant_of-self-2 c =
    let es = c.self.inside.entries.items in
    let kept = c.self.invariant in
    let n : Named = record { name = c.args.name; meant = c.args.meant } in
    let p = c.in_ok-position.position in
    let h = c.flatten.result in
    let put : c.push.new.self.items ≡ es ++ entry.Name n p h ∷ [] = c.in-Ok.ensures.items ∙ ap (λ l. l ++ entry.Name n p h ∷ []) c.in_ok-reserve.ensures.items in
    let bound : ℕ → Bound = λ k. record { meant = c.args.meant; place = k } in
    let place = c.len-place.ensures ∙ c.in_ok-reserve.ensures.len ∙ c.self.inside.entries.ok.0 in
    let keeps : h ≡ newest 0 es c.args.name.now None = c.flatten.ensures ∙ ap option_flatten c.in_ok-position.ensures.old ∙ kept.0 c.args.name in (
      λ q. rw put (finds_name es n p h q.now (get is_key c.self.inside.index q) (get is_key c.insert_full.new.self q) (c.in_ok-position.ensures.updates.0 q ∙ ap (λ (k : ℕ). cond (bytes_eq c.args.name.now q.now) (Some (Some (bound k))) (get is_key c.self.inside.index q)) place) (kept.0 q)),
      rw put (kept.1 ∙ sym (borders_last es (entry.Name n p h) no_borders)),
      rw put (can_undo_push es (entry.Name n p h) kept.2 keeps),
      rw put (positions_push c.self.inside.index c.insert_full.new.self c.args.name _ es n p h c.in_ok-position.ensures.entries c.in_ok-position.ensures.index refl kept.3),
    )

pub returns : goal.returns
returns c =
    let seen : c.self.inside.entries.items ≡ c.args.self.now = c.self.view_is in
    rw (c.in-Ok.ensures.items, c.in_ok-reserve.ensures.items, seen) (declares_push c.args.self.now (entry.Name (record { name = c.args.name; meant = c.args.meant }) c.in_ok-position.position c.flatten.result))
