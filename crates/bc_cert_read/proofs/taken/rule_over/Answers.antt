-- The tree from the list of its parts.
use Rattle.std.proofs.Common.{rules}
use Rattle.bc_rules_defs.specs.declared.derivation.Derivation.{roll-Derivation, the_lemmas}
use Rattle.bc_cert_read.proofs.Derived.{tree_view}
use Rattle.bc_cert_read.proofs.taken.rule_over.Goals as goal

pub returns : goal.returns
returns c = let h = tree_view (roll-Derivation (record { rule = c.args.rule; parts = c.args.parts })) in search (rules, the_lemmas)
