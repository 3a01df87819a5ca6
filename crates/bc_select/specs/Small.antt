-- For proofs: numbers of words that are far below the limit of 64 bits.
use Rattle.std.specs.Prelude.{ℕ, ◌<◌, ◌≤◌, ◌^◌, Option, Some, None}
use Rattle.bc_select_defs.specs.declared.choice.Choices.{Choices}
use Rattle.bc_select_defs.specs.Options.{words_of}

-- the words, if there are any, are below 2^60
abbrev pub Small : Option ℕ → Type 0
Small None = Unit {0}
Small (Some n) = n < 2 ^ 60

-- the words, if there are any, are at most k
abbrev pub UpTo : Option ℕ → ℕ → Type 0
UpTo None k = Unit {0}
UpTo (Some n) k = n ≤ k

-- the words of all choices are below 2^60
pub record AreSmall (c : Choices) : Type 0 where
  pub any : Small (words_of c.any)
  pub push : Small (words_of c.push)
  pub on_false : Small (words_of c.on_false)
  pub on_true : Small (words_of c.on_true)
