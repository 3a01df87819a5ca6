-- What the program finds in its trees is what the definitions find in theirs.
use Rattle.std.proofs.Common.{◌≡◌, ℕ, zero, suc, Bool, cond, Option, Some, None, List, [], ◌∷◌, drop, length, ◌+◌, refl, add-one, ap, sym, ◌∙◌, Bor}
use Rattle.std.specs.Prelude.{slice_get}
use Rattle.std.specs.Option.{option_copied}
use Rattle.bc_core.specs.declared.expression.CoreExp.{CoreExp}
use Rattle.bc_core.specs.View.{args}
use Rattle.bc_rules_defs.specs.declared.derivation.Derivation.{Derivation, out-Derivation}
use Rattle.bc_rules_defs.specs.declared.rule.Rule.{Rule}
use Rattle.bc_rules_defs.specs.Rules.{Tree, by}
use Rattle.bc_rules_defs.specs.View.{derivation, derivations}
use Rattle.bc_cert_write.specs.declared.slot.Slot.{Slot}
use Rattle.bc_select.proofs.Trees.{tree_view}
use Rattle.bc_cert_write.specs.Walked.{tree_of, first, rest, parts, top_of, following, at_slot, placed, after_arguments, chain_of, chain_of_value}

seen : Option Derivation → Option Tree
seen None = None
seen (Some d) = Some (derivation d)

seen_copied : (r : Option (Bor Derivation)) → tree_of r ≡ seen (option_copied r)
unfolding seen
seen_copied None = refl
seen_copied (Some d) = refl

seen_get : (xs : List Derivation) (i : ℕ) → seen (slice_get xs i) ≡ first (derivations (drop i xs))
unfolding seen
seen_get [] zero = refl
seen_get [] (suc i) = refl
seen_get (x ∷ xs) zero = refl
seen_get (x ∷ xs) (suc i) = seen_get xs i

pub tree_at : (r : Option (Bor Derivation)) (xs : List Derivation) (i : ℕ) → option_copied r ≡ slice_get xs i → tree_of r ≡ first (derivations (drop i xs))
tree_at r xs i h = seen_copied r ∙ ap seen h ∙ seen_get xs i

pub parts_seen : (d : Derivation) → derivations (out-Derivation d).parts.items ≡ parts (Some (derivation d))
parts_seen d = sym (ap (λ x. parts (Some x)) (tree_view d))

pub top_seen : (d : Derivation) → top_of (Some (derivation d)) ≡ Some (out-Derivation d).rule
top_seen d = ap (λ x. top_of (Some x)) (tree_view d)

pub after_seen : (skips : Rule → Bool) (d : Derivation) → following skips (Some (derivation d)) ≡ cond (skips (out-Derivation d).rule) (first (derivations (out-Derivation d).parts.items)) (Some (derivation d))
after_seen skips d =
    ap (λ x. following skips (Some x)) (tree_view d)
    ∙ ap (λ x. cond (skips (out-Derivation d).rule) (first (derivations (out-Derivation d).parts.items)) (Some x)) (sym (tree_view d))

pub rest_seen : (xs : List Derivation) → derivations (drop 1 xs) ≡ rest (derivations xs)
rest_seen [] = refl
rest_seen (x ∷ xs) = refl

pub value_seen : (d : Derivation) → chain_of_value (Some (derivation d)) ≡ chain_of_value (Some (by (out-Derivation d).rule (derivations (out-Derivation d).parts.items)))
value_seen d = ap (λ x. chain_of_value (Some x)) (tree_view d)

pub chain_seen : (d : Derivation) → chain_of (Some (derivation d)) ≡ chain_of (Some (by (out-Derivation d).rule (derivations (out-Derivation d).parts.items)))
chain_seen d = ap (λ x. chain_of (Some x)) (tree_view d)

pub placed_seen : (slot : Rule → Slot) (d : Derivation) → placed slot (Some (derivation d)) ≡ at_slot (slot (out-Derivation d).rule) (derivations (out-Derivation d).parts.items)
placed_seen slot d = ap (λ x. placed slot (Some x)) (tree_view d)

-- the trees and arguments from the i-th on
drop_none : (n : ℕ) → ◌≡◌ {A = List Derivation} (drop n []) []
drop_none zero = refl
drop_none (suc n) = refl

after_trees : (xs : List Derivation) (i : ℕ) → derivations (drop (suc i) xs) ≡ rest (derivations (drop i xs))
after_trees [] i = ap derivations (drop_none (suc i)) ∙ sym (ap (λ l. rest (derivations l)) (drop_none i))
after_trees (x ∷ xs) zero = refl
after_trees (x ∷ xs) (suc i) = after_trees xs i

pub next_trees : (xs : List Derivation) (i : ℕ) → derivations (drop (i + 1) xs) ≡ rest (derivations (drop i xs))
next_trees xs i = ap (λ n. derivations (drop n xs)) (add-one i) ∙ after_trees xs i

pub after_seen_all : (es : List CoreExp) (xs : List Derivation) → after_arguments (args es) (derivations xs) ≡ derivations (drop (length es) xs)
after_seen_all [] xs = refl
after_seen_all (e ∷ es) [] = after_seen_all es [] ∙ ap derivations (drop_none (length es) ∙ sym (drop_none (suc (length es))))
after_seen_all (e ∷ es) (x ∷ xs) = after_seen_all es xs
