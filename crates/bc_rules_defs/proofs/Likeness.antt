-- Derivations with the same tree of rule names have the same labels, cost and code.
use Rattle.std.proofs.Common.{◌≡◌, ℕ, sym, ap, ◌∙◌}
use Rattle.bc_core.specs.Tree.{Root}
use Rattle.bc_rules_defs.specs.declared.rule.Table.{Table}
use Rattle.bc_rules_defs.specs.declared.rule.Table.TheVariants.{Two}
use Rattle.bc_rules_defs.specs.Piece.{words}
use Rattle.bc_rules_defs.specs.Rules.{RootDerives, root_shape}
use Rattle.bc_rules_defs.specs.Code.{root_code}
use Rattle.bc_rules_defs.specs.ByShape.{root_labels_by, root_code_by}
use Rattle.bc_rules_defs.specs.Laws.{ShapeTells, TwoHasAll}
use Rattle.bc_rules_defs.proofs.ByShape.{root_labels_same, root_code_same}
use Rattle.bc_rules_defs.proofs.Words.{root_words}
use Rattle.bc_rules_defs.proofs.Tables.{root_by_two, root_shape_by_two}

same_code : {T U : Table} {r : Root} (d : RootDerives T r) (e : RootDerives U r) → root_shape d ≡ root_shape e → (t f : ℕ) → root_code d t f ≡ root_code e t f
same_code {r = r} d e h t f = root_code_same d t f ∙ ap (λ x. root_code_by r x t f) h ∙ sym (root_code_same e t f)

pub alike : ShapeTells
alike T U r d e h = record {
  labels = root_labels_same d ∙ ap (root_labels_by r) h ∙ sym (root_labels_same e);
  cost = sym (root_words d 0 0) ∙ ap words (same_code d e h 0 0) ∙ root_words e 0 0;
  code = same_code d e h;
}

pub two_has_all : TwoHasAll
two_has_all T r d = (root_by_two d, root_shape_by_two d, alike Two T r (root_by_two d) d (root_shape_by_two d))
