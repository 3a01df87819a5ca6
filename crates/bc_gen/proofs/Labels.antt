-- Tables of labels.
use Rattle.std.proofs.Common.{ℕ, ◌+◌, ◌≡◌, ◌==◌, cond, List, ◌++◌, Option, Some, None, refl, ap}
use Rattle.bc_core.specs.Commands.{Items, no_item, command, case, default, label}
use Rattle.bc_gen_defs.specs.Emit.{labelled}
use Rattle.bc_gen.specs.declared.context.Numbered.{Numbered}
use Rattle.bc_gen.specs.Surroundings.{label_in, label_pairs}

labels_at : (is : Items) (f : ℕ) (outer : List Numbered) (n : ℕ) → label_in (label_pairs is f ++ outer) n 0 ≡ labelled is f (λ m. label_in outer m 0) n
labels_at no_item f outer n = refl
labels_at (command c is) f outer n = labels_at is f outer n
labels_at (case k is) f outer n = labels_at is f outer n
labels_at (default is) f outer n = labels_at is f outer n
labels_at (label k is) f outer n = ap (cond (k == n) f) (labels_at is (f + 1) outer n)

-- the labels in the form that the exits have
pub labelled_is : (is : Items) (f : ℕ) (outer : List Numbered) → (λ n. label_in (label_pairs is f ++ outer) n 0) ≡ labelled is f (λ m. label_in outer m 0)
labelled_is is f outer = λ i. λ n. labels_at is f outer n i

-- the first DEFAULT, or else the end
abbrev pub default_then : Option ℕ → ℕ → ℕ
default_then None following = following
default_then (Some l) following = l
