use Rattle.std.proofs.Common.{sym}
use Rattle.bc_lex.proofs.Loops.{lexeme_in_front-word}
use Rattle.bc_lex.proofs.lexeme.lexeme.Goals as goal

pub returns-then-is_letter-clause-value : goal.returns-then-is_letter-clause-value
returns-then-is_letter-clause-value c = lexeme_in_front-word c.args.bytes.now _ c.requires (sym c.if-is_letter.ensures) c.word.ensures.value
