use Rattle.std.proofs.Common.{◌≡◌, ◌++◌, ap, sym, subst, ◌∙◌}
use Rattle.std.proofs.Math.Logic.{∥∥₁_elim, ∥∥₁_map}
use Rattle.std.specs.Coded.{Coded-set, coded_list, coded_ℕ}
use Rattle.std.specs.List.{AllZip}
use Rattle.bc_core.specs.View.{root}
use Rattle.bc_rules_defs.specs.Piece.{words}
use Rattle.bc_rules_defs.specs.View.{entry}
use Rattle.bc_select_defs.specs.Nodes.{root_in_order}
use Rattle.bc_select.specs.Rows.{IsRowOf}
use Rattle.bc_cert_write.specs.Lines.{code_line}
use Rattle.bc_cert_write.proofs.Steps.{on_ok}
use Rattle.bc_cert_write.proofs.Texts.{text_of_entry}
use Rattle.bc_cert_write.proofs.entry_text.entry_text.Goals as goal

pub returns : goal.returns
returns c =
    on_ok c.code_line.result (λ h.
    let e = entry c.args.entry.now in
    let pieces = c.args.workings.now.code.items in
    let n : c.words-words.result ≡ words pieces = c.words-words.ensures ∙ ap words c.as_slice-code.ensures.value in
    let t3 = c.root_line.new.text.bytes.items in
    let k : c.code_line.new.text.bytes.items ≡ t3 ++ code_line pieces c.args.entry.now.bodies.items =
    h ∙ ap (λ p. t3 ++ code_line p c.as_slice.result.now) c.as_slice-code.ensures.value ∙ ap (λ b. t3 ++ code_line pieces b) c.as_slice.ensures.value in
    record {
      exact = λ d same.
          ∥∥₁_elim c.requires (Coded-set (coded_list coded_ℕ) _ _) (λ w.
          (text_of_entry e pieces c.words-words.result _ c.entry_line.new.text.bytes.items c.root_nodes.new.text.bytes.items t3 c.code_line.new.text.bytes.items
          w.code n c.clear.ensures c.in_ok-entry_line.ensures c.in_ok-root_nodes.ensures c.in_ok-root_line.ensures k).exact d same);
    }) c.code_line.ensures

pub root_nodes-requires : goal.root_nodes-requires
root_nodes-requires c = ∥∥₁_map c.requires (λ w. subst (AllZip IsRowOf (root_in_order (root c.args.entry.now.root))) (sym c.as_slice-rows.ensures.value) w.rows)
