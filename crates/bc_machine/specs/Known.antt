-- The bytes that readers and writers say they hold.
use Rattle.std.specs.Prelude.{ℕ, List, [], ◌∷◌, Option, Some, None}

-- every one of these devices says which bytes it holds
abbrev pub AllKnown : List (Option (List ℕ)) → Type 0
AllKnown [] = Unit {0}
AllKnown (None ∷ told_bytes) = ⊥
AllKnown (Some bytes ∷ told_bytes) = AllKnown told_bytes
