use Rattle.bc_scope_laws.proofs.AlikeWidths.{widths_ask_no_numbers}
use Rattle.bc_scope_laws.proofs.laws.widths_ask_no_numbers.Goals as goal

pub returns : goal.returns
returns c = widths_ask_no_numbers
