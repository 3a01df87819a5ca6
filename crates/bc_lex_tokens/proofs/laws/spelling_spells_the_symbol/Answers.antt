use Rattle.bc_lex_tokens.proofs.Symbols.{symbol_of-spelling_of}
use Rattle.bc_lex_tokens.proofs.laws.spelling_spells_the_symbol.Goals as goal

pub returns : goal.returns
returns c = symbol_of-spelling_of
