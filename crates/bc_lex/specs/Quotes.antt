-- The text between the quotes of a string or character constant. `close` is the closing quote.
use Rattle.std.specs.Prelude.{◌≡◌, ◌≢◌, ℕ, List, [], ◌∷◌, ◌++◌, Some, None}
use Rattle.bc_lex.specs.Bytes.{escaped}

-- a text spells one character: an escape, or any byte but a line break, the closing quote and *, which denotes itself
pub data IsCharacter (close : ℕ) : List ℕ → ℕ → Type 0 where
  Plain : (b : ℕ) → b ≢ 10 → b ≢ close → b ≢ 42 → IsCharacter close (b ∷ []) b
  Escape : (b c : ℕ) → escaped b ≡ Some c → IsCharacter close (42 ∷ b ∷ []) c

-- a text spells a list of characters
pub data Spells (close : ℕ) : List ℕ → List ℕ → Type 0 where
  Empty : Spells close [] []
  More : (first rest : List ℕ) (c : ℕ) (cs : List ℕ) → IsCharacter close first c → Spells close rest cs → Spells close (first ++ rest) (c ∷ cs)

-- instead of a character there is a line break or the end of the file, possibly after a *
pub data IsCut : List ℕ → Type 0 where
  End : IsCut []
  Break : (rest : List ℕ) → IsCut (10 ∷ rest)
  EndAfter : IsCut (42 ∷ [])
  BreakAfter : (rest : List ℕ) → IsCut (42 ∷ 10 ∷ rest)

-- a * followed by a byte that makes no escape
pub data IsBadEscape : List ℕ → Type 0 where
  Bad : (b : ℕ) (rest : List ℕ) → b ≢ 10 → escaped b ≡ None → IsBadEscape (42 ∷ b ∷ rest)
