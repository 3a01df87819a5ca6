use Rattle.std.proofs.Common.{◌≡◌, ◌∷◌, ◌-◌, ◌≤◌, length, take, drop, rules, arith}
use Rattle.std.proofs.lemmas.Grind.{common_steps}
use Rattle.bc_tame_check.proofs.Lists.{apart}
use Rattle.bc_tame_check.proofs.Formats.{formatted_with}
use Rattle.bc_tame_check.proofs.format.are_formatted.Goals as goal

pub returns-then-rest-le4 : goal.returns-then-rest-le4
returns-then-rest-le4 c fits =
    let following = take (length c.args.values.now - 1) (drop 1 c.args.values.now) in
    let split : c.args.values.now ≡ c.first-item.result ∷ following = first_of (search (rules, apart), grind (arith, common_steps, apart)) in
    let few : length following ≤ 4 = first_of (omega (arith, c.if-rest-le4.true), grind (arith, common_steps, c.if-rest-le4.true)) in
    formatted_with c.args.at c.args.values.now c.first-item.result following c.in-Some.label c.in-Some-text_of.bytes.now split c.in-Some.ensures c.in-Some-text_of.ensures.found few (c.fits_format.ensures fits)
