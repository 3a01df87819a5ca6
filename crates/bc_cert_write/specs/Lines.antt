-- The lines of an entry as bytes: fields separated by one blank, and LF.
use Rattle.std.specs.Prelude.{ℕ, Bool, true, false, List, [], ◌∷◌, ◌++◌, Option, Some, None}
use Rattle.std.specs.Fmt.{decimal}
use Rattle.bc_word.specs.Words.{number_of}
use Rattle.bc_core.specs.Tree.{Exp, Num, Frame, Glob, Place, Load, Neg, Not, Bin, Cond, Call, Valof, count, Root}
use Rattle.bc_rules_defs.specs.declared.rule.Table.{Table}
use Rattle.bc_rules_defs.specs.declared.rule.Mode.TheVariants.{Any, Push}
use Rattle.bc_rules_defs.specs.declared.rule.Aim.{Aim}
use Rattle.bc_rules_defs.specs.declared.rule.Aim.TheVariants.{Gets, Jumps}
use Rattle.bc_rules_defs.specs.declared.rule.Rule.{Rule}
use Rattle.bc_rules_defs.specs.declared.rule.Rule.TheVariants.{A1, A2, A3}
use Rattle.bc_rules_defs.specs.declared.piece.Piece.{Piece}
use Rattle.bc_rules_defs.specs.declared.piece.Piece.TheVariants.{Item, Body}
use Rattle.bc_rules_defs.specs.Rules.{RootDerives, value, test, a1, a2, a3}
use Rattle.bc_rules_defs.specs.Names.{rule_letter, rule_number}
use Rattle.bc_select_defs.specs.LeastDerivation.{least_words_of}
use Rattle.bc_text.specs.Printed.{printed}
use Rattle.bc_cert_write.specs.Shown.{Shown}

-- the rest of a line after a field: each further field preceded by a blank, then LF
abbrev pub line_end : List (List ℕ) → List ℕ
line_end [] = 10 ∷ []
line_end (f ∷ fs) = 32 ∷ (f ++ line_end fs)

-- a line with these fields
abbrev pub line : (first : List ℕ) → List (List ℕ) → List ℕ
line f fs = f ++ line_end fs

-- the name of a rule: its letter and number
abbrev pub rule_name : Rule → List ℕ
rule_name r = rule_letter r ∷ decimal (rule_number r)

-- the names joined by dots, or `-` for none
abbrev pub further_rules : List Rule → List ℕ
further_rules [] = []
further_rules (r ∷ rs) = 46 ∷ (rule_name r ++ further_rules rs)

abbrev pub rules_field : List Rule → List ℕ
rules_field [] = 45 ∷ []
rules_field (r ∷ rs) = rule_name r ++ further_rules rs

-- The form of a node: a letter or sign, followed by its number if it has one. N is a number; P, G and L are the addresses of a
-- cell of the frame, of a global and of a place; V is a VALOF, `!` the content of a cell, M minus, `~` NOT, X a dyadic operator,
-- the question mark is `->`, K a call with its number of arguments.
abbrev pub form_field : Exp → List ℕ
form_field (Num n) = 78 ∷ decimal n
form_field (Frame k) = 80 ∷ decimal k
form_field (Glob n) = 71 ∷ decimal n
form_field (Place m) = 76 ∷ decimal m
form_field (Valof n) = 86 ∷ decimal n
form_field (Load e) = 33 ∷ []
form_field (Neg e) = 77 ∷ []
form_field (Not e) = 126 ∷ []
form_field (Bin op a b) = 88 ∷ decimal (number_of op)
form_field (Cond c x y) = 63 ∷ []
form_field (Call es f) = 75 ∷ decimal (count es)

-- a number, or `-` for none
abbrev pub words_field : Option ℕ → List ℕ
words_field None = 45 ∷ []
words_field (Some n) = decimal n

-- the fewest words of a node's derivations for an aim, if it has any
abbrev pub least_words : Table → Aim → Shown → Option ℕ
least_words T aim n = least_words_of T n.expression aim n.level

-- `level form any push false true rules`
abbrev pub node_line : Table → Shown → List ℕ
node_line T n =
    line (decimal n.level)
    (form_field n.expression
    ∷ words_field (least_words T (Gets Any) n) ∷ words_field (least_words T (Gets Push) n)
    ∷ words_field (least_words T (Jumps false) n) ∷ words_field (least_words T (Jumps true) n)
    ∷ rules_field n.rules ∷ [])

-- `E segment item target first words`
abbrev pub entry_line : (segment item target first words : ℕ) → List ℕ
entry_line segment item target first words = line (69 ∷ []) (decimal segment ∷ decimal item ∷ decimal target ∷ decimal first ∷ decimal words ∷ [])

-- T for a test that jumps on true, F for one that jumps on false
abbrev pub sense_field : Bool → List ℕ
sense_field true = 84 ∷ []
sense_field false = 70 ∷ []

-- `R V`, `R T`, `R F`, and `R A1 s` to `R A3 s` with the level s
abbrev pub root_line : {T : Table} {r : Root} → RootDerives T r → List ℕ
root_line (value d) = line (82 ∷ []) ((86 ∷ []) ∷ [])
root_line (test {sense = sense} d) = line (82 ∷ []) (sense_field sense ∷ [])
root_line (a1 {s = s} h v) = line (82 ∷ []) (rule_name A1 ∷ decimal s ∷ [])
root_line (a2 {s = s} h free a v) = line (82 ∷ []) (rule_name A2 ∷ decimal s ∷ [])
root_line (a3 {s = s} h v a) = line (82 ∷ []) (rule_name A3 ∷ decimal s ∷ [])

-- the items as they are printed, and `?n` for a body of n items; each body takes the next number, or 0 if none remains
abbrev pub code_fields : List Piece → (bodies : List ℕ) → List (List ℕ)
code_fields [] bodies = []
code_fields (Item i ∷ ps) bodies = printed i ∷ code_fields ps bodies
code_fields (Body k ∷ ps) [] = (63 ∷ decimal 0) ∷ code_fields ps []
code_fields (Body k ∷ ps) (n ∷ bodies) = (63 ∷ decimal n) ∷ code_fields ps bodies

-- `C` and the fields of the code
abbrev pub code_line : List Piece → (bodies : List ℕ) → List ℕ
code_line ps bodies = line (67 ∷ []) (code_fields ps bodies)
