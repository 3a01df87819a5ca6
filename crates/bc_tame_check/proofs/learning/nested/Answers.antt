use Rattle.std.proofs.Common.{ap, ◌∙◌}
use Rattle.bc_core.specs.View.{command}
use Rattle.bc_core.proofs.Rows.{nested_view}
use Rattle.bc_tame_check.proofs.learning.nested.Goals as goal

pub returns-in-Nested-clause-found : goal.returns-in-Nested-clause-found
returns-in-Nested-clause-found c = ap command c.in-Nested.is ∙ nested_view c.in-Nested.block
