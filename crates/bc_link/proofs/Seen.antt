-- The first repeated number, one number at a time.
use Rattle.std.proofs.Common.{◌≡◌, ◌∙◌, ℕ, List, [], ◌∷◌, ◌++◌, Bool, true, false, not, cond, eqb, Some, refl, sym, ap, true≢false}
use Rattle.std.specs.List.{list_any}
use Rattle.std.specs.Prelude.{if◌then◌else◌}
use Rattle.bc_text_items.specs.declared.item.Item.{Item}
use Rattle.bc_text_items.specs.declared.item.Item.TheVariants.{Label, Data, DataLabel, Byte, Operation, Global}
use Rattle.bc_link.specs.Refusals.{repeated_after, globals_set}

abbrev pub is_seen : List ℕ → ℕ → Bool
is_seen keys n = list_any (λ y. eqb n y) keys

-- a number that has been seen is the first repeated one
pub repeated_after-seen : (keys : List ℕ) (n : ℕ) (fresh : Bool) (xs : List ℕ) → fresh ≡ not (is_seen keys n) → fresh ≡ false → repeated_after keys (n ∷ xs) ≡ Some n
repeated_after-seen keys n fresh xs added old = by (is_seen keys n) (sym old ∙ added)
  where
    by : (b : Bool) → false ≡ not b → cond b (Some n) (repeated_after (keys ++ n ∷ []) xs) ≡ Some n
    by true h = refl
    by false h = absurd (true≢false (sym h))

-- one that hasn't been seen is seen from now on
pub repeated_after-fresh : (keys keys1 : List ℕ) (n : ℕ) (fresh : Bool) (xs : List ℕ) → fresh ≡ not (is_seen keys n) → keys1 ≡ (if is_seen keys n then keys else keys ++ n ∷ []) → fresh ≡ true → repeated_after keys (n ∷ xs) ≡ repeated_after keys1 xs
repeated_after-fresh keys keys1 n fresh xs added after new = by (is_seen keys n) (sym new ∙ added) after
  where
    by : (b : Bool) → true ≡ not b → keys1 ≡ (if b then keys else keys ++ n ∷ []) → cond b (Some n) (repeated_after (keys ++ n ∷ []) xs) ≡ repeated_after keys1 xs
    by true h e = absurd (true≢false h)
    by false h e = ap (λ k. repeated_after k xs) (sym e)

pub globals_set-other : (item : Item) (items : List Item) → ((n m : ℕ) → item ≡ Global n m → ⊥) → globals_set (item ∷ items) ≡ globals_set items
globals_set-other (Global n m) items other = absurd (other n m refl)
globals_set-other (Label m) items other = refl
globals_set-other (Data n) items other = refl
globals_set-other (DataLabel m) items other = refl
globals_set-other (Byte b) items other = refl
globals_set-other (Operation f i b n) items other = refl
