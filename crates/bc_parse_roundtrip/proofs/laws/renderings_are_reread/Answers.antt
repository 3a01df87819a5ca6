use Rattle.bc_parse_roundtrip.proofs.Rereading.{reread}
use Rattle.bc_parse_roundtrip.proofs.laws.renderings_are_reread.Goals as goal

pub returns : goal.returns
returns c = reread
