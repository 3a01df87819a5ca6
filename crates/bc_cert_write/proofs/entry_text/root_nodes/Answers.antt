use Rattle.std.proofs.Common.{ap, ◌∙◌, ◌++◌}
use Rattle.std.proofs.Math.Logic.{∥∥₁_elim}
use Rattle.std.specs.Coded.{Coded-set, coded_list, coded_ℕ}
use Rattle.bc_core.specs.View.{root}
use Rattle.bc_rules_defs.specs.View.{derivation}
use Rattle.bc_cert_write.specs.Printed.{mark_lines}
use Rattle.bc_cert_write.proofs.Steps.{on_ok}
use Rattle.bc_cert_write.proofs.Texts.{nodes_added}
use Rattle.bc_cert_write.proofs.entry_text.root_nodes.Goals as goal

pub returns : goal.returns
returns c =
    on_ok c.node_lines.result (λ h. record {
      exact = λ T d e.
          ∥∥₁_elim c.requires (Coded-set (coded_list coded_ℕ) _ _) (λ rows.
          (nodes_added (root c.args.root.now) (derivation c.args.derivation.now) c.args.rows.now c.in_ok-marks.marks.items _ _ rows c.in_ok-marks.ensures
          (h ∙ ap (λ m. c.args.text.now.bytes.items ++ mark_lines m c.args.rows.now) c.as_slice.ensures.value)).exact T d e);
    }) c.node_lines.ensures
