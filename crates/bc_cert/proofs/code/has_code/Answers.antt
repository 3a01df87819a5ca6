-- Codes of different lengths differ.
use Rattle.std.proofs.Common.{arith}
use Rattle.bc_cert.proofs.Lengths.{other_length}
use Rattle.bc_cert.proofs.code.has_code.Goals as goal

pub returns-then-code-right : goal.returns-then-code-right
returns-then-code-right c = other_length c.args.code.now c.args.right.now (λ e. omega (arith, e))
