use Rattle.std.proofs.Common.{◌≡◌, ◌≤◌, ◌==◌, ◌||◌, drop, arith}
use Rattle.std.specs.Char.{is_ascii_digit, is_ascii_hexdigit}
use Rattle.std.specs.List.{prefix_len}
use Rattle.bc_convert.specs.Tokens.{names_of}
use Rattle.bc_convert.proofs.Solid.{solid_then, digits_are_names}
use Rattle.bc_convert.proofs.lexeme.with_digits.Goals as goal

pub returns-clause-solid : goal.returns-clause-solid
returns-clause-solid c =
    let e = rw c.following.ensures.rest at c.digit_bytes.ensures.value in
    let le : c.digit_bytes.result ≤ names_of (drop c.args.head c.args.bytes.now) = omega (arith, e, digits_are_names (drop c.args.head c.args.bytes.now)) in
    solid_then c.args.head c.digit_bytes.result c.args.bytes.now c.requires.solid le
