-- The test is that of the definition.
use Rattle.bc_core.specs.View.{root}
use Rattle.bc_rules_defs.specs.View.{derivation}
use Rattle.bc_cert.proofs.Fitting.{fits_is}
use Rattle.bc_cert.proofs.code.derives.Goals as goal

pub returns : goal.returns
returns c = fits_is c.args.table (root c.args.root.now) (derivation c.args.derivation.now) c.is_derivation_by.result c.is_derivation_by.ensures
