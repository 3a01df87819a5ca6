use Rattle.bc_scope_laws.proofs.Decoding.{source_decoded}
use Rattle.bc_scope_laws.proofs.string_laws.strings_are_decoded.Goals as goal

pub returns : goal.returns
returns c = source_decoded
