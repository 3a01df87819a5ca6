use Rattle.std.proofs.Common.{refl, sym, ◌∙◌}
use Rattle.bc_lex.proofs.Spelled.{alone, none_spelled}
use Rattle.bc_lex.proofs.symbols.spelled.Goals as goal

pub returns-then-text-eq1 : goal.returns-then-text-eq1
returns-then-text-eq1 c = c.one.ensures ∙ alone c.args.text.now _ _ c.if-text-eq1.true refl

pub returns-else-fits : goal.returns-else-fits
returns-else-fits c = sym (none_spelled c.args.text.now (sym c.if-fits.ensures))
