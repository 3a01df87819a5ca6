use Rattle.std.proofs.Common.{◌≡◌, drop}
use Rattle.bc_lex_tokens.specs.Spelling.{symbol_in}
use Rattle.bc_lex_tokens.specs.Table.{rows}
use Rattle.bc_lex_tokens.proofs.symbol.symbol_in.Given as goal

abbrev pub invariant-loop-spelling : goal.invariant-loop-spelling
invariant-loop-spelling l = symbol_in (rows (drop l.spelling-index l.table)) l.text ≡ symbol_in (rows l.table) l.text
