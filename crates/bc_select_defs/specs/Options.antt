-- For proofs: arithmetic on numbers of words that are missing if there is no derivation.
use Rattle.std.specs.Prelude.{ℕ, ◌+◌, ◌==◌, Bool, true, false, cond, nat_lt, List, [], ◌∷◌, Option, Some, None}
use Rattle.bc_word.specs.declared.operator.Op.{Op}
use Rattle.bc_word.specs.Words.{number_of}
use Rattle.bc_core.specs.declared.operands.Operand.{Operand}
use Rattle.bc_rules_defs.specs.declared.rule.Rule.{Rule}
use Rattle.bc_rules_defs.specs.Piece.{operand_words}
use Rattle.bc_select_defs.specs.declared.choice.Choice.{Choice}
use Rattle.bc_select_defs.specs.declared.choice.Candidate.{Candidate}

-- k words more
unfoldable pub plus : Option ℕ → ℕ → Option ℕ
plus None k = None
plus (Some x) k = Some (x + k)

-- the same with the sum in the other order
unfoldable pub more : ℕ → Option ℕ → Option ℕ
more k None = None
more k (Some x) = Some (k + x)

-- the sum of both words
unfoldable pub sum : Option ℕ → Option ℕ → Option ℕ
sum None y = None
sum (Some x) None = None
sum (Some x) (Some y) = Some (x + y)

-- the words, if the condition holds
unfoldable pub given : Bool → Option ℕ → Option ℕ
given true x = x
given false x = None

-- the words, if the operator is this one
abbrev pub only : Op → Op → Option ℕ → Option ℕ
only wanted op x = given (number_of op == number_of wanted) x

-- the words of an instruction with this operand
unfoldable pub operand_cost : Option Operand → Option ℕ
operand_cost None = None
operand_cost (Some o) = Some (operand_words o)

-- the words of a choice
abbrev pub words_of : Option Choice → Option ℕ
words_of None = None
words_of (Some c) = Some c.words

-- the rule of a choice
abbrev pub rule_of : Option Choice → Option Rule
rule_of None = None
rule_of (Some c) = Some c.rule

abbrev pub choice : Rule → ℕ → Choice
choice r n = record { words = n; rule = r }

-- a candidate of a rule and its words
abbrev pub candidate : Rule → Option ℕ → Candidate
candidate r x = record { rule = r; words = x }

-- the better of a choice and a rule's words; the choice if they are equal
unfoldable pub better : Option Choice → Rule → Option ℕ → Option Choice
better best r None = best
better None r (Some n) = Some (choice r n)
better (Some b) r (Some n) = Some (cond (nat_lt n b.words) (choice r n) b)

-- the best of a choice and these candidates
unfoldable pub least_from : Option Choice → List Candidate → Option Choice
least_from best [] = best
least_from best (c ∷ cs) = least_from (better best c.rule c.words) cs
