-- The same list of parts.
use Rattle.std.proofs.Common.{ap, ◌∙◌}
use Rattle.bc_rules_defs.specs.Rules.{by}
use Rattle.bc_cert_read.proofs.Derived.{trees_seen}
use Rattle.bc_cert_read.proofs.taken.by_rule.Goals as goal

pub returns : goal.returns
returns c = c.rule_over.ensures ∙ ap (λ ds. by c.args.rule ds) (trees_seen c.args.parts.items)
