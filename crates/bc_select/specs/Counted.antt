-- For proofs: a count that saturates at 2^64 - 1: it is at most the number, and equal to it below that bound.
use Rattle.std.specs.Prelude.{◌≡◌, ℕ, ◌+◌, ◌<◌, ◌≤◌, ◌^◌}

-- `counted` is the saturating count of `number`
pub record Counts (counted : ℕ) (number : ℕ) : Type 0 where
  pub most : counted ≤ number
  pub exact : counted + 1 < 2 ^ 64 → counted ≡ number
