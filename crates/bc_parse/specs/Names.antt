-- For proofs: lists of names as the definitions see them.
use Rattle.std.specs.Prelude.{ℕ, List, map}
use Rattle.std.specs.Borrow.{Bor}

-- the names as lists of bytes
abbrev pub names_view : List (Bor (List ℕ)) → List (List ℕ)
names_view ns = map (λ n. n.now) ns
