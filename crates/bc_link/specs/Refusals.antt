-- What linking rejects, and in which order.
use Rattle.std.specs.Prelude.{ℕ, ◌+◌, ◌==◌, ◌≡◌, List, [], ◌∷◌, ◌++◌, not, cond, Option, Some, None, nat_le, find, refl}
use Rattle.std.specs.Option.{option_map}
use Rattle.std.specs.List.{list_any, flat_map}
use Rattle.bc_text_items.specs.declared.item.Item.{Item}
use Rattle.bc_text_items.specs.declared.item.Item.TheVariants.{Label, Data, DataLabel, Global}
use Rattle.bc_link.specs.declared.link_error.LinkError.{LinkError}
use Rattle.bc_link.specs.declared.link_error.LinkError.TheVariants.{LabelUnset, LabelTwice, GlobalTwice, TooLarge}
use Rattle.bc_link.specs.Labels.{labels_of, uses_of}
use Rattle.bc_link.specs.Layout.{stack_base_of}

-- the first of two results, if there is one
abbrev pub first_of : {X : Type 0} → Option X → Option X → Option X
first_of None second = second
first_of (Some x) second = Some x

-- the first number that occurs earlier in the list or in `before`
abbrev pub repeated_after : List ℕ → List ℕ → Option ℕ
repeated_after before [] = None
repeated_after before (x ∷ xs) = cond (list_any (λ y. x == y) before) (Some x) (repeated_after (before ++ x ∷ []) xs)

-- the first number that occurs earlier in the list
abbrev pub first_repeated : List ℕ → Option ℕ
first_repeated xs = repeated_after [] xs

-- the numbers of the globals that items set, in order
abbrev pub globals_set : List Item → List ℕ
globals_set [] = []
globals_set (Global number label ∷ items) = number ∷ globals_set items
globals_set (item ∷ items) = globals_set items

-- the first label of `uses` that isn't in `labels`
abbrev pub first_unset : List ℕ → List ℕ → Option ℕ
first_unset labels uses = find (λ m. not (list_any (λ y. m == y) labels)) uses

-- the first label that a segment sets twice, in the order of segments and of the items that repeat; `k` is the number of the first of these
-- segments
abbrev pub label_twice_from : ℕ → List (List Item) → Option LinkError
label_twice_from k [] = None
label_twice_from k (segment ∷ segments) = first_of (option_map (LabelTwice k) (first_repeated (labels_of segment))) (label_twice_from (k + 1) segments)

-- the first global that is set twice, in one segment or in two, in the order of the items that repeat
abbrev pub repeated_global_of : List (List Item) → Option ℕ
repeated_global_of segments = first_repeated (flat_map globals_set segments)

abbrev pub global_twice : List (List Item) → Option LinkError
global_twice segments = option_map GlobalTwice (repeated_global_of segments)

-- a stack base that leaves fewer than 64 cells for the stack
abbrev pub too_large : List (List Item) → Option LinkError
too_large segments = cond (nat_le (stack_base_of segments) 65472) None (Some TooLarge)

-- the first label that a segment refers to but doesn't set
abbrev pub label_unset_from : ℕ → List (List Item) → Option LinkError
label_unset_from k [] = None
label_unset_from k (segment ∷ segments) = first_of (option_map (LabelUnset k) (first_unset (labels_of segment) (uses_of segment)))
    (label_unset_from (k + 1) segments)

-- the error of linking these segments, if there is one
abbrev pub refusal_of : List (List Item) → Option LinkError
refusal_of segments = first_of (label_twice_from 0 segments) (first_of (global_twice segments) (first_of (too_large segments) (label_unset_from 0 segments)))

-- ---- Worked examples

-- `1 1 DL7`: the repeated label takes precedence over the one that isn't set
pub twice_before_unset : refusal_of ((Label 1 ∷ Label 1 ∷ DataLabel 7 ∷ []) ∷ []) ≡ Some (LabelTwice 0 1)
twice_before_unset = refl

pub unset : refusal_of ((Data 1 ∷ []) ∷ (DataLabel 7 ∷ []) ∷ []) ≡ Some (LabelUnset 1 7)
unset = refl

-- a global that two segments set; the same label in two segments isn't an error
pub global_of_two : refusal_of ((Label 1 ∷ Global 14 1 ∷ []) ∷ (Label 1 ∷ Global 14 1 ∷ []) ∷ []) ≡ Some (GlobalTwice 14)
global_of_two = refl

pub none_refused : refusal_of ((Label 1 ∷ Global 14 1 ∷ []) ∷ (Label 1 ∷ Global 15 1 ∷ []) ∷ []) ≡ None
none_refused = refl
