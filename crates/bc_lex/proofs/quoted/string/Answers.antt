use Rattle.std.proofs.Common.{◌≡◌, ◌-◌, arith}
use Rattle.bc_lex.specs.declared.quoted.Quoted.TheVariants as quoted
use Rattle.bc_lex.proofs.Strings.{string_turn, string_goes_on}
use Rattle.bc_lex.proofs.quoted.string.Goals as goal

pub returns-in-Closed-clause-value : goal.returns-in-Closed-clause-value
returns-in-Closed-clause-value c = string_turn c.loop.counter c.loop.at _ quoted.Closed _ c.loop-test.true (rw c.following.ensures.rest at c.in-Closed.ensures.value) c.loop.invariant.2

pub returns-in-Cut-clause-value : goal.returns-in-Cut-clause-value
returns-in-Cut-clause-value c = rw c.here.ensures (string_turn c.loop.counter c.loop.at _ quoted.Cut _ c.loop-test.true (rw c.following.ensures.rest at c.in-Cut.ensures.value) c.loop.invariant.2)

pub returns-in-BadEscape-clause-value : goal.returns-in-BadEscape-clause-value
returns-in-BadEscape-clause-value c = string_turn c.loop.counter c.loop.at _ quoted.BadEscape _ c.loop-test.true (rw c.following.ensures.rest at c.in-BadEscape.ensures.value) c.loop.invariant.2

pub loop-preserved : goal.loop-preserved
loop-preserved c =
    (omega arith, omega (arith, c.in-Character.ensures.fits), string_goes_on c.loop.counter c.loop.at _ c.in-Character.field-0 c.in-Character.count _ c.loop-test.true (rw c.following.ensures.rest at c.in-Character.ensures.value) c.loop.invariant.2)

pub returns-clause-value : goal.returns-clause-value
returns-clause-value c =
    let zero : 256 - c.loop.counter ≡ 0 = omega arith in
    rw c.here-2.ensures (rw zero at c.loop.invariant.2)
