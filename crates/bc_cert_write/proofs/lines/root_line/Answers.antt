use Rattle.std.proofs.Common.{◌++◌, ◌∷◌, [], ap, sym, ◌∙◌}
use Rattle.std.specs.Fmt.{decimal}
use Rattle.bc_core.specs.View.{root}
use Rattle.bc_core.specs.Tree.{Assign}
use Rattle.bc_core.specs.View.{exp}
use Rattle.bc_rules_defs.specs.View.{derivation}
use Rattle.bc_rules_defs.specs.declared.derivation.Derivation.{out-Derivation}
use Rattle.bc_cert_write.specs.Lines.{rule_name}
use Rattle.bc_select.proofs.Trees.{tree_view}
use Rattle.bc_cert_write.specs.Printed.{line_of_root}
use Rattle.bc_cert_write.proofs.Steps.{on_ok}
use Rattle.bc_cert_write.proofs.Joined.{of_two}
use Rattle.bc_cert_write.proofs.lines.root_line.Goals as goal

pub returns-in_ok-lettered-in-Assign : goal.returns-in_ok-lettered-in-Assign
returns-in_ok-lettered-in-Assign c =
    let d = c.args.derivation.now in
    on_ok c.push-in-Assign.result (λ h.
    of_two _ _ _ _ (82 ∷ 32 ∷ rule_name (out-Derivation d).rule) (32 ∷ decimal c.from.result) (10 ∷ []) c.in_ok-named-in-Assign.ensures c.in_ok-lettered-in-Assign.ensures h
    ∙ ap (λ n. c.args.text.now.bytes.items ++ 82 ∷ 32 ∷ (rule_name (out-Derivation d).rule ++ 32 ∷ (decimal n ++ 10 ∷ []))) c.from.ensures
    ∙ ap (λ l. c.args.text.now.bytes.items ++ l)
    (sym (ap (λ r. line_of_root (root r) (derivation c.args.derivation.now)) c.in-Assign.is ∙ ap (line_of_root (Assign c.in-Assign.level (exp c.in-Assign.value) (exp c.in-Assign.address))) (tree_view c.args.derivation.now)))) c.push-in-Assign.ensures
