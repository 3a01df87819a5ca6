use Rattle.std.proofs.Common.{sym, ◌∙◌}
use Rattle.bc_core.specs.View.{root}
use Rattle.bc_rules_defs.specs.declared.rule.Table.TheVariants.{Two}
use Rattle.bc_select_defs.specs.Chosen.{chosen_reads}
use Rattle.bc_select.proofs.Vectors.{words_are, rows_of_root}
use Rattle.bc_select.proofs.selection.select.Goals as goal

pub returns-clause-derivation : goal.returns-clause-derivation
returns-clause-derivation c = c.in_ok-derivation.ensures.derivation ∙ sym (chosen_reads Two (root c.args.root.now))

pub returns-clause-words : goal.returns-clause-words
returns-clause-words c = c.in_ok-derivation.ensures.words ∙ words_are (root c.args.root.now)

pub returns-clause-table : goal.returns-clause-table
returns-clause-table c = rows_of_root (root c.args.root.now) _ _ c.into_rows.ensures c.in_ok-table.ensures
