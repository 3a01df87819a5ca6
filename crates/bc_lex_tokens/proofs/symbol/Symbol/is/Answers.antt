use Rattle.bc_lex_tokens.proofs.Symbols.{same-≡}
use Rattle.bc_lex_tokens.proofs.symbol.Symbol.is.Goals as goal

pub returns-clause-equal : goal.returns-clause-equal
returns-clause-equal c = rw (c.number.ensures, c.number-2.ensures) (same-≡ c.args.self c.args.other)
