use Rattle.bc_cert_laws.proofs.Said.{reaches_says}
use Rattle.bc_cert_laws.proofs.Listing.{says_reaches}
use Rattle.bc_cert_laws.proofs.laws.says_is_reached.Goals as goal

pub returns : goal.returns
returns c = λ bytes v. (says_reaches bytes v, reaches_says bytes v.table v.entries)
