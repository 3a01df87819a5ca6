-- The invariant of a scope holds after one more entry, and after the last one is taken off.
use Rattle.std.proofs.Common.{◌≡◌, ℕ, ◌+◌, ◌<◌, refl, ap, ◌∙◌, sym, subst, List, [], ◌∷◌, ◌++◌, length, get_or, take, ◌==◌, ◌&&◌, Bool, true, false, true≢false, cond, Option, Some, None, arith, ⊎_elim, map, slice_get, not, zero, suc, if◌then◌else◌}
use Rattle.std.proofs.lemmas.Bool.{cases_lt}
use Rattle.std.proofs.lemmas.Cmp.{nat_list_eq_equiv, on_equiv}
use Rattle.std.proofs.lemmas.List.{take-append-le, get_or_append_left, length-map}
use Rattle.std.proofs.lemmas.List.Elements.{All-push, All-weaker}
use Rattle.std.proofs.lemmas.Option.{slice_get-map, slice_get_within, same_Some, none-some}
use Rattle.std.proofs.Math.Seq.{take-append_seam, get_or-append_seam}
use Rattle.std.specs.Borrow.{Bor}
use Rattle.std.specs.List.{All, position_or_len}
use Rattle.std.specs.Map.{keys_of}
use Rattle.std.specs.Option.{option_flatten, option_map}
use Rattle.std.specs.Str.{bytes_eq}
use Rattle.bc_scope_names.specs.declared.scope.Borders.{Borders}
use Rattle.bc_scope_names.specs.declared.scope.Bound.{Bound}
use Rattle.bc_scope_names.specs.declared.scope.Named.{Named}
use Rattle.bc_scope_names.specs.declared.scope.Entry.{Entry}
use Rattle.bc_scope_names.specs.declared.scope.Entry.TheVariants as entry
use Rattle.bc_scope_names.specs.Index.{newest, borders_of, after_routine, no_borders, is_key, names, spelled, Keeps, CanUndo, HasPosition}
use Rattle.bc_scope_names.specs.View.{scope_view, after_one, Extends, Declares}
use Rattle.bc_scope_names.proofs.Names.{newest_last, borders_last, after_push}
use Rattle.bc_scope_defs.specs.Scope.{Name, nothing_known, is_name}
use Rattle.indexmap.specs.IndexMap.{IndexMap, keys, index_map_len, get, insert_entry, insert_index, with_value_at, IsUnique}
use Rattle.indexmap.proofs.CallerLemmas.{keys-with_value_at, updates-with_value_at}

is_name-bytes_eq : (a b : Name) → is_name a b ≡ bytes_eq a b
is_name-bytes_eq [] [] = refl
is_name-bytes_eq [] (y ∷ b) = refl
is_name-bytes_eq (x ∷ a) [] = refl
is_name-bytes_eq (x ∷ a) (y ∷ b) = ap (λ t. (x == y) && t) (is_name-bytes_eq a b)

-- a declared name is found, and nothing else changes
pub declares_push : (es : List Entry) (e : Entry) → Declares es (es ++ e ∷ []) (after_one e (scope_view es))
unfolding scope_view Extends
declares_push es e = (after_push es e nothing_known, take-append_seam es (e ∷ []))

pub finds_name : (es : List Entry) (n : Named) (p : ℕ) (h : Option Bound) (q : Name) (r s : Option (Option Bound)) → s ≡ cond (bytes_eq n.name.now q) (Some (Some (record { meant = n.meant; place = length es }))) r → option_flatten r ≡ newest 0 es q None
    → option_flatten s ≡ newest 0 (es ++ entry.Name n p h ∷ []) q None
finds_name es n p h q r s e f = ap option_flatten e ∙ by (bytes_eq n.name.now q) (is_name n.name.now q) (is_name-bytes_eq n.name.now q) ∙ sym (newest_last es (entry.Name n p h) q None)
  where
    k : Bound
    k = record { meant = n.meant; place = length es }

    by : (t u : Bool) → u ≡ t → option_flatten (cond t (Some (Some k)) r) ≡ cond u (Some k) (newest 0 es q None)
    by true true p = refl
    by true false p = absurd (true≢false (sym p))
    by false true p = absurd (true≢false p)
    by false false p = f

length_push : (xs : List Entry) (x : Entry) → length (xs ++ x ∷ []) ≡ length xs + 1
length_push [] x = refl
length_push (y ∷ xs) x = let n = length_push xs x in omega arith

kept_before : (es : List Entry) (e : Entry) (i : ℕ) (d : Entry) → i < length es → Keeps (take i (es ++ e ∷ [])) (get_or (es ++ e ∷ []) i d) ≡ Keeps (take i es) (get_or es i d)
kept_before es e i d h = rw (take-append-le i es (e ∷ []) (omega arith), get_or_append_left es (e ∷ []) d i h) refl

kept_last : (es : List Entry) (e d : Entry) → Keeps (take (length es) (es ++ e ∷ [])) (get_or (es ++ e ∷ []) (length es) d) ≡ Keeps es e
kept_last es e d = rw (take-append_seam es (e ∷ []), get_or-append_seam es e [] d) refl

pub can_undo_push : (es : List Entry) (e : Entry) → CanUndo es → Keeps es e → CanUndo (es ++ e ∷ [])
can_undo_push es e can keeps = λ i d h. ⊎_elim (λ before. subst (λ T. T) (sym (kept_before es e i d before)) (can i d before)) (λ after. at i d (omega (arith, length_push es e)) keeps) (cases_lt i (length es))
  where
    at : (i : ℕ) (d : Entry) → i ≡ length es → Keeps es e → Keeps (take i (es ++ e ∷ [])) (get_or (es ++ e ∷ []) i d)
    at i d p k = subst (λ j. Keeps (take j (es ++ e ∷ [])) (get_or (es ++ e ∷ []) j d)) (sym p) (subst (λ T. T) (sym (kept_last es e d)) k)

can_undo_back : (es : List Entry) (e : Entry) → CanUndo (es ++ e ∷ []) → CanUndo es
can_undo_back es e can = λ i d h. subst (λ T. T) (kept_before es e i d h) (can i d (omega (arith, length_push es e)))

keeps_last : (es : List Entry) (e : Entry) → CanUndo (es ++ e ∷ []) → Keeps es e
keeps_last es e can = subst (λ T. T) (kept_last es e e) (can (length es) e (omega (arith, length_push es e)))

same_name : (a b : Name) → is_name a b ≡ true → a ≡ b
same_name [] [] h = refl
same_name [] (y ∷ b) h = absurd (true≢false (sym h))
same_name (x ∷ a) [] h = absurd (true≢false (sym h))
same_name (x ∷ a) (y ∷ b) h = grind (arith, same_name a b)

pub finds_back : (es : List Entry) (n : Named) (p : ℕ) (h : Option Bound) (q : Name) (r s : Option (Option Bound)) → s ≡ cond (bytes_eq n.name.now q) (Some h) r → option_flatten r ≡ newest 0 (es ++ entry.Name n p h ∷ []) q None → h ≡ newest 0 es n.name.now None
    → option_flatten s ≡ newest 0 es q None
finds_back es n p h q r s e f k = ap option_flatten e ∙ by (bytes_eq n.name.now q) (is_name n.name.now q) (is_name-bytes_eq n.name.now q) (same_name n.name.now q) (f ∙ newest_last es (entry.Name n p h) q None)
  where
    by : (t u : Bool) → u ≡ t → (u ≡ true → n.name.now ≡ q) → option_flatten r ≡ cond u (Some (record { meant = n.meant; place = length es })) (newest 0 es q None) → option_flatten (cond t (Some h) r) ≡ newest 0 es q None
    by true true p same g = k ∙ ap (λ x. newest 0 es x None) (same refl)
    by true false p same g = absurd (true≢false (sym p))
    by false true p same g = absurd (true≢false p)
    by false false p same g = g

pub routine_border : (es : List Entry) (b o : Borders) (n : ℕ) → b ≡ borders_of 0 es no_borders → n ≡ length (es ++ entry.Routine o ∷ []) → after_routine n b ≡ borders_of 0 (es ++ entry.Routine o ∷ []) no_borders
routine_border es b o n e l = ap (λ k. after_routine k b) (l ∙ length_push es (entry.Routine o)) ∙ ap (λ x. after_routine (length es + 1) x) e ∙ sym (borders_last es (entry.Routine o) no_borders)

pub valof_border : (es : List Entry) (b o : Borders) (n : ℕ) → b ≡ borders_of 0 es no_borders → n ≡ length (es ++ entry.Valof o ∷ []) → record b { valof = n } ≡ borders_of 0 (es ++ entry.Valof o ∷ []) no_borders
valof_border es b o n e l = ap (λ k. record b { valof = k }) (l ∙ length_push es (entry.Valof o)) ∙ ap (λ (x : Borders). record x { valof = length es + 1 }) e ∙ sym (borders_last es (entry.Valof o) no_borders)

-- what the entry that is taken off had kept
pub back_name : (es before : List Entry) (n : Named) (p : ℕ) (h : Option Bound) (b : Borders) → es ≡ before ++ entry.Name n p h ∷ [] → b ≡ borders_of 0 es no_borders → CanUndo es → (b ≡ borders_of 0 before no_borders) × CanUndo before × (h ≡ newest 0 before n.name.now None)
back_name es before n p h b e i can =
    let all = subst (λ l. CanUndo l) e can in (
      i ∙ ap (λ l. borders_of 0 l no_borders) e ∙ borders_last before (entry.Name n p h) no_borders,
      can_undo_back before (entry.Name n p h) all,
      keeps_last before (entry.Name n p h) all,
    )

pub back_border : (es before : List Entry) (x : Entry) → es ≡ before ++ x ∷ [] → CanUndo es → CanUndo before × Keeps before x
back_border es before x e can =
    let all = subst (λ l. CanUndo l) e can in (can_undo_back before x all, keeps_last before x all)

-- a name in the index keeps its position
stays : (es : List (Bor Name × Option Bound)) (k : Bor Name) (v : Option Bound) (i : ℕ) (q : Name) → slice_get (spelled es) i ≡ Some q → slice_get (spelled (insert_entry is_key es k v)) i ≡ Some q
stays [] k v i q h = absurd (none-some q h)
stays (e ∷ es) k v zero q h = by (is_key k e.0)
  where
    by : (t : Bool) → slice_get (spelled (if t then (e.0, v) ∷ es else e ∷ insert_entry is_key es k v)) zero ≡ Some q
    by true = h
    by false = h
stays (e ∷ es) k v (suc i) q h = by (is_key k e.0) (stays es k v i q h)
  where
    by : (t : Bool) → slice_get (spelled (insert_entry is_key es k v)) i ≡ Some q → slice_get (spelled (if t then (e.0, v) ∷ es else e ∷ insert_entry is_key es k v)) (suc i) ≡ Some q
    by true following = h
    by false following = following

-- the inserted name is at the returned position
stands : (es : List (Bor Name × Option Bound)) (k : Bor Name) (v : Option Bound) → slice_get (spelled (insert_entry is_key es k v)) (position_or_len (is_key k) (keys_of es)) ≡ Some k.now
stands [] k v = refl
stands (e ∷ es) k v = by (is_key k e.0) (λ h. sym (same_name k.now e.0.now (is_name-bytes_eq k.now e.0.now ∙ h))) (stands es k v)
  where
    n : ℕ
    n = position_or_len (is_key k) (keys_of es)

    by : (t : Bool) → (t ≡ true → e.0.now ≡ k.now) → slice_get (spelled (insert_entry is_key es k v)) n ≡ Some k.now → slice_get (spelled (if t then (e.0, v) ∷ es else e ∷ insert_entry is_key es k v)) (cond (not t) (1 + n) 0) ≡ Some k.now
    by true same following = ap Some (same refl)
    by false same following = let next : 1 + n ≡ suc n = omega arith in ap (slice_get (spelled (e ∷ insert_entry is_key es k v))) next ∙ following

module _ {S : Type 0} (m : IndexMap (Bor Name) (Option Bound) S) where
  -- a declared name has the position that the index gave it, and those before keep theirs
  pub positions_push : (m1 : IndexMap (Bor Name) (Option Bound) S) (k : Bor Name) (v : Option Bound) (es : List Entry) (n : Named) (p : ℕ) (h : Option Bound)
      → m1.entries ≡ insert_entry is_key m.entries k v → p ≡ insert_index is_key m k → n.name.now ≡ k.now → All (HasPosition (names m)) es → All (HasPosition (names m1)) (es ++ entry.Name n p h ∷ [])
  positions_push m1 k v es n p h e at same all =
      subst (λ l. All (HasPosition (spelled l)) (es ++ entry.Name n p h ∷ [])) (sym e) (All-push (HasPosition after) es (entry.Name n p h) (All-weaker (HasPosition (names m)) (HasPosition after) still es all) (ap (slice_get after) at ∙ stands m.entries k v ∙ ap Some (sym same)))
    where
      after : List Name
      after = spelled (insert_entry is_key m.entries k v)

      still : (d : Entry) → HasPosition (names m) d → HasPosition after d
      still (entry.Name o i g) at_i = stays m.entries k v i o.name.now at_i
      still (entry.Routine b) at_i = tt
      still (entry.Valof b) at_i = tt

  -- a kept position is within the index
  pub position_within : (i : ℕ) (q : Name) → slice_get (names m) i ≡ Some q → i < index_map_len m
  position_within i q h = omega (arith, slice_get_within (names m) i q h, length-map (keys m) (λ k. k.now), length-map m.entries (λ e. e.0))

  -- a write at a name's position changes what the index has of this name, and nothing else
  pub written : (i : ℕ) (q : Name) (k : Bor Name) (v w : Option Bound) → IsUnique is_key m → slice_get m.entries i ≡ Some (k, v) → slice_get (names m) i ≡ Some q → (x : Bor Name) → get is_key (with_value_at m i w) x ≡ cond (bytes_eq q x.now) (Some w) (get is_key m x)
  written i q k v w unique at named x =
      (updates-with_value_at m i w (on_equiv (λ (b : Bor Name). b.now) nat_list_eq_equiv) unique k v at).0 x ∙ ap (λ n. cond (bytes_eq n x.now) (Some w) (get is_key m x)) spells
    where
      spells : k.now ≡ q
      spells = same_Some k.now q (sym (slice_get-map (λ (b : Bor Name). b.now) (keys m) i ∙ ap (option_map (λ (b : Bor Name). b.now)) (slice_get-map (λ (e : Bor Name × Option Bound). e.0) m.entries i ∙ ap (option_map (λ (e : Bor Name × Option Bound). e.0)) at)) ∙ named)

  -- and no name changes
  pub names_written : (i : ℕ) (w : Option Bound) → names (with_value_at m i w) ≡ names m
  names_written i w = ap (map (λ k. k.now)) (keys-with_value_at m i w)
