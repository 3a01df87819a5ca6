-- What is left after the constant is the same from the position on.
use Rattle.std.proofs.Common.{◌≡◌, drop}
use Rattle.bc_convert.specs.declared.quotes.Place.TheVariants.{Ordinary}
use Rattle.bc_convert.specs.Tokens.{after_quote}
use Rattle.bc_convert.proofs.quotes.closing_quote.Given as goal

abbrev pub invariant-loop-at : goal.invariant-loop-at
invariant-loop-at l = after_quote l.quote l.place (drop l.at l.bytes) ≡ after_quote l.quote Ordinary l.bytes
