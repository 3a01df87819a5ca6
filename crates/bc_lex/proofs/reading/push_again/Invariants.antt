use Rattle.std.proofs.Common.{◌≡◌, take, length}
use Rattle.bc_lex_tokens.specs.Token.{lexemes_of}
use Rattle.bc_lex.specs.Repeated.{pushed_all, between}
use Rattle.bc_lex.proofs.reading.push_again.Given as goal

-- what was in the list before the loop is still there, and what is done with the remaining tokens of the part is done with all of it
abbrev pub invariant-loop-index : goal.invariant-loop-index
invariant-loop-index l = record {
  kept : take (length (lexemes_of l.initial.tokens.items)) (lexemes_of l.tokens.items) ≡ lexemes_of l.initial.tokens.items;
  read : pushed_all (between (lexemes_of l.initial.tokens.items) l.index l.end) (lexemes_of l.tokens.items)
      ≡ pushed_all (between (lexemes_of l.initial.tokens.items) l.start l.end) (lexemes_of l.initial.tokens.items);
}
