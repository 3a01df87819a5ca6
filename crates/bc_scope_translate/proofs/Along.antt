-- A list from some element on is this element followed by the rest.
use Rattle.std.proofs.Common.{◌≡◌, ℕ, ◌+◌, ◌<◌, ap, ◌∙◌, sym, List, length, drop, get_or}
use Rattle.std.proofs.lemmas.List.{at_drop_more}
use Rattle.bc_parse_tree.specs.declared.tree.Constant as code_constant
use Rattle.bc_parse_tree.specs.declared.tree.Exp as code
use Rattle.bc_parse_tree.specs.declared.tree.Declaration as code_declaration
use Rattle.bc_parse_tree.specs.declared.tree.Definition as code_definition
use Rattle.bc_parse_tree.specs.declared.tree.Item as code_item
use Rattle.bc_parse_tree.specs.Tree.{more, entry, declaration, definition, item}
use Rattle.bc_parse_tree.specs.View.{exp_view, exps_view, constant_view, entries_view, declaration_view, declarations_view, definition_view, definitions_view, item_view, items_view}

pub exps_on : (es : List code.Exp) (i : ℕ) (e : code.Exp) → i < length es → e ≡ get_or es i e → exps_view (drop i es) ≡ more (exp_view e) (exps_view (drop (i + 1) es))
exps_on es i e h q = at_drop_more exps_view es i e h ∙ ap (λ x. more (exp_view x) (exps_view (drop (i + 1) es))) (sym q)

pub declarations_on : (ds : List code_declaration.Declaration) (i : ℕ) (d : code_declaration.Declaration) → i < length ds → d ≡ get_or ds i d → declarations_view (drop i ds) ≡ declaration (declaration_view d) (declarations_view (drop (i + 1) ds))
declarations_on ds i d h q = at_drop_more declarations_view ds i d h ∙ ap (λ x. declaration (declaration_view x) (declarations_view (drop (i + 1) ds))) (sym q)

pub definitions_on : (ds : List code_definition.Definition) (i : ℕ) (d : code_definition.Definition) → i < length ds → d ≡ get_or ds i d → definitions_view (drop i ds) ≡ definition (definition_view d) (definitions_view (drop (i + 1) ds))
definitions_on ds i d h q = at_drop_more definitions_view ds i d h ∙ ap (λ x. definition (definition_view x) (definitions_view (drop (i + 1) ds))) (sym q)

pub items_on : (is : List code_item.Item) (n : ℕ) (i : code_item.Item) → n < length is → i ≡ get_or is n i → items_view (drop n is) ≡ item (item_view i) (items_view (drop (n + 1) is))
items_on is n i h q = at_drop_more items_view is n i h ∙ ap (λ x. item (item_view x) (items_view (drop (n + 1) is))) (sym q)

pub entries_on : (cs : List code_constant.Constant) (i : ℕ) (c : code_constant.Constant) → i < length cs → c ≡ get_or cs i c → entries_view (drop i cs) ≡ entry (constant_view c).0 (constant_view c).1 (entries_view (drop (i + 1) cs))
entries_on cs i c h q = at_drop_more entries_view cs i c h ∙ ap (λ x. entry (constant_view x).0 (constant_view x).1 (entries_view (drop (i + 1) cs))) (sym q)
