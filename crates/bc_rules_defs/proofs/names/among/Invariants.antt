-- None of the rules visited so far has the name.
use Rattle.std.proofs.Common.{◌≡◌, drop}
use Rattle.bc_rules_defs.specs.Names.{found}
use Rattle.bc_rules_defs.proofs.names.among.Given as goal

abbrev pub invariant-loop-rule : goal.invariant-loop-rule
invariant-loop-rule l = found l.letter l.number (drop l.rule-index l.rules) ≡ found l.letter l.number l.rules
