use Rattle.std.proofs.Common.{◌≡◌, ◌∙◌, ◌++◌, ◌∷◌, [], ap, None, Some}
use Rattle.std.proofs.lemmas.List.Elements.{All-pop}
use Rattle.indexmap.specs.IndexMap.{get, with_value_at}
use Rattle.bc_scope_names.specs.declared.scope.Entry.TheVariants as entry
use Rattle.bc_scope_names.specs.Index.{newest, is_key, names, HasPosition}
use Rattle.bc_scope_names.proofs.Kept.{back_name, back_border, finds_back, position_within, written, names_written}
use Rattle.bc_scope_names.proofs.Names.{newest_last}
use Rattle.bc_scope_names.proofs.scope.Scope.leave_last.Goals as goal

pub pair_mut-newest-requires : goal.pair_mut-newest-requires
pair_mut-newest-requires c =
    let kept = c.self.invariant in
    let n = c.in-Name.named in
    let p = c.in-Name.position in
    let own = (All-pop (HasPosition (names c.self.inside.index)) c.self.inside.entries.items c.pop.new.self.items (Some (entry.Name n p c.in-Name.hidden)) (c.in-Some.ensures.items ∙ ap (λ e. c.pop.new.self.items ++ e ∷ []) c.in-Name.is) kept.3).1 in
    position_within c.self.inside.index p n.name.now own

pub invariant_of-self-in-Name : goal.invariant_of-self-in-Name
invariant_of-self-in-Name c =
    let kept = c.self.invariant in
    let es = c.self.inside.entries.items in
    let m = c.self.inside.index in
    let n = c.in-Name.named in
    let p = c.in-Name.position in
    let h = c.in-Name.hidden in
    let before = c.pop.new.self.items in
    let cut : es ≡ before ++ entry.Name n p h ∷ [] = c.in-Some.ensures.items ∙ ap (λ e. before ++ e ∷ []) c.in-Name.is in
    let back = back_name es before n p h c.self.inside.borders cut kept.1 kept.2 in
    let placed = All-pop (HasPosition (names m)) es before (Some (entry.Name n p h)) cut kept.3 in
    let there = c.pair_mut-newest.ensures in (
      λ q. finds_back before n p h q.now (get is_key m q) (get is_key (with_value_at m p h) q) (written m p n.name.now _ _ h there.unique there.value placed.1 q) (kept.0 q ∙ ap (λ l. newest 0 l q.now None) cut) back.2,
      back.0,
      back.1,
      rw (names_written m p h) placed.0,
    )

pub invariant_of-self-in-Routine : goal.invariant_of-self-in-Routine
invariant_of-self-in-Routine c =
    let kept = c.self.invariant in
    let before = c.pop.new.self.items in
    let b = c.in-Routine.borders in
    let cut : c.self.inside.entries.items ≡ before ++ entry.Routine b ∷ [] = c.in-Some.ensures.items ∙ ap (λ e. before ++ e ∷ []) c.in-Routine.is in
    let back = back_border c.self.inside.entries.items before (entry.Routine b) cut kept.2 in
    let placed = All-pop (HasPosition (names c.self.inside.index)) c.self.inside.entries.items before (Some (entry.Routine b)) cut kept.3 in (
      λ q. kept.0 q ∙ ap (λ l. newest 0 l q.now None) cut ∙ newest_last before (entry.Routine b) q.now None,
      back.1,
      back.0,
      placed.0,
    )

pub invariant_of-self-in-Valof : goal.invariant_of-self-in-Valof
invariant_of-self-in-Valof c =
    let kept = c.self.invariant in
    let before = c.pop.new.self.items in
    let b = c.in-Valof.borders in
    let cut : c.self.inside.entries.items ≡ before ++ entry.Valof b ∷ [] = c.in-Some.ensures.items ∙ ap (λ e. before ++ e ∷ []) c.in-Valof.is in
    let back = back_border c.self.inside.entries.items before (entry.Valof b) cut kept.2 in
    let placed = All-pop (HasPosition (names c.self.inside.index)) c.self.inside.entries.items before (Some (entry.Valof b)) cut kept.3 in (
      λ q. kept.0 q ∙ ap (λ l. newest 0 l q.now None) cut ∙ newest_last before (entry.Valof b) q.now None,
      back.1,
      back.0,
      placed.0,
    )
