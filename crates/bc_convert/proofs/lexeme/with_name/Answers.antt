use Rattle.std.proofs.Common.{◌≡◌, ◌≤◌, drop, arith}
use Rattle.bc_convert.specs.Tokens.{names_of}
use Rattle.bc_convert.proofs.Solid.{solid_then}
use Rattle.bc_convert.proofs.lexeme.with_name.Goals as goal

pub returns-clause-solid : goal.returns-clause-solid
returns-clause-solid c =
    let e : c.name_bytes.result ≡ names_of (drop c.args.head c.args.bytes.now) = rw c.following.ensures.rest at c.name_bytes.ensures.value in
    solid_then c.args.head c.name_bytes.result c.args.bytes.now c.requires.solid (omega arith)
