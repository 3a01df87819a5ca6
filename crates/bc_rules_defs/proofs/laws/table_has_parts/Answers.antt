use Rattle.bc_rules_defs.proofs.TableParts.{has_parts}
use Rattle.bc_rules_defs.proofs.laws.table_has_parts.Goals as goal

pub returns : goal.returns
returns c = has_parts
