-- If the tokens that are left have the same marks, all have.
use Rattle.std.proofs.Common.{◌≡◌, ◌≤◌, drop, length}
use Rattle.bc_lex_tokens.specs.Token.{lexemes_of}
use Rattle.bcpl_format.specs.Kept.{marks, marks_after}
use Rattle.bcpl_format.proofs.same.has_same_tokens.Given as goal

abbrev pub invariant-loop-token : goal.invariant-loop-token
invariant-loop-token l =
    (l.at ≤ length l.right) ×
    (marks_after l.is_after_end (lexemes_of (drop l.token-index l.left)) ≡ marks_after l.is_after_end (lexemes_of (drop l.at l.right)) →
    marks (lexemes_of l.left) ≡ marks (lexemes_of l.right))
