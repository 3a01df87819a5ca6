-- The tokens read up to here, with tokens and gaps from the position on, make up the text. Each iteration reads a byte or more.
use Rattle.std.proofs.Common.{◌≤◌, List, ◌++◌, length}
use Rattle.bc_convert.specs.declared.source.Token.{Token}
use Rattle.bc_convert.specs.Spans.{TokensFrom}
use Rattle.bc_convert.proofs.lexing.lex.Given as goal

abbrev pub invariant-loop : goal.invariant-loop
invariant-loop l = record {
  within : l.at ≤ length l.text;
  moves : l.counter ≤ l.at;
  before : (ts : List Token) → TokensFrom l.text l.at ts → TokensFrom l.text 0 (l.tokens.items ++ ts);
}
