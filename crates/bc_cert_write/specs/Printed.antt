-- For proofs: the lines of an entry, from the program's own types `Form`, `Chain`, `NodeMark` and `Row`.
use Rattle.std.specs.Prelude.{ℕ, None, List, [], ◌∷◌, ◌++◌, get_or}
use Rattle.std.specs.Fmt.{decimal}
use Rattle.bc_core.specs.Tree.{Root, Value, Test, Assign}
use Rattle.bc_rules_defs.specs.Rules.{Tree, by}
use Rattle.bc_select.specs.declared.row.Row.{Row}
use Rattle.bc_cert_write.specs.declared.chain.Chain.{Chain}
use Rattle.bc_cert_write.specs.declared.chain.Chain.TheVariants as chains
use Rattle.bc_cert_write.specs.declared.form.Form.{Form}
use Rattle.bc_cert_write.specs.declared.form.Form.TheVariants as forms
use Rattle.bc_cert_write.specs.declared.mark.NodeMark.{NodeMark}
use Rattle.bc_cert_write.specs.Lines.{line, rule_name, words_field, sense_field}

abbrev pub form_text : Form → List ℕ
form_text (forms.Num n) = 78 ∷ decimal n
form_text (forms.Frame k) = 80 ∷ decimal k
form_text (forms.Glob n) = 71 ∷ decimal n
form_text (forms.Place m) = 76 ∷ decimal m
form_text forms.Load = 33 ∷ []
form_text forms.Neg = 77 ∷ []
form_text forms.Not = 126 ∷ []
form_text (forms.Operator n) = 88 ∷ decimal n
form_text forms.Cond = 63 ∷ []
form_text (forms.Call n) = 75 ∷ decimal n
form_text (forms.Valof n) = 86 ∷ decimal n

abbrev pub chain_text : Chain → List ℕ
chain_text chains.Nothing = 45 ∷ []
chain_text (chains.One r) = rule_name r
chain_text (chains.Two r q) = rule_name r ++ 46 ∷ rule_name q
chain_text (chains.Three r q p) = (rule_name r ++ 46 ∷ rule_name q) ++ 46 ∷ rule_name p

abbrev pub cost_text : ℕ → Row → List ℕ
cost_text i row = words_field (get_or row.costs i None)

abbrev pub mark_line : NodeMark → Row → List ℕ
mark_line m row = line (decimal m.level) (form_text m.form ∷ cost_text 0 row ∷ cost_text 1 row ∷ cost_text 2 row ∷ cost_text 3 row ∷ chain_text m.rules ∷ [])

abbrev pub mark_lines : List NodeMark → List Row → List ℕ
mark_lines [] rows = []
mark_lines (m ∷ ms) [] = []
mark_lines (m ∷ ms) (row ∷ rows) = mark_line m row ++ mark_lines ms rows

abbrev pub line_of_root : Root → Tree → List ℕ
line_of_root (Value s e) x = line (82 ∷ []) ((86 ∷ []) ∷ [])
line_of_root (Test s sense e) x = line (82 ∷ []) (sense_field sense ∷ [])
line_of_root (Assign s v a) (by r xs) = line (82 ∷ []) (rule_name r ∷ decimal s ∷ [])
