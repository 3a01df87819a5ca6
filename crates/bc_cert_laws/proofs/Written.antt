-- The node lines of the writer have the form that the relations require.
use Rattle.std.proofs.Common.{◌≡◌, ℕ, ◌≤◌, true, false, List, [], ◌∷◌, ◌++◌, map, refl, ap, sym, subst, arith}
use Rattle.std.specs.List.{AllByRecursion}
use Rattle.std.specs.Fmt.{decimal}
use Rattle.bc_word.specs.Words.{number_of}
use Rattle.bc_core.specs.Tree.{Exp, Num, Frame, Glob, Place, Load, Neg, Not, Bin, Cond, Call, Valof, count}
use Rattle.bc_rules_defs.specs.declared.rule.Table.{Table}
use Rattle.bc_rules_defs.specs.declared.rule.Mode.TheVariants.{Any, Push}
use Rattle.bc_rules_defs.specs.declared.rule.Aim.{Aim}
use Rattle.bc_rules_defs.specs.declared.rule.Aim.TheVariants.{Gets, Jumps}
use Rattle.bc_rules_defs.specs.declared.rule.Rule.{Rule}
use Rattle.bc_rules_defs.specs.declared.rule.Rule.TheVariants.{J1, J2, J3, J4, J5, J6, J7, J8, J9, A1, A2, A3}
use Rattle.bc_cert_write.specs.Shown.{Shown}
use Rattle.bc_cert_write.specs.Lines.{rule_name, further_rules, rules_field, form_field, words_field, least_words, node_line}
use Rattle.bc_cert_laws.specs.Entries.{IsSmall, HasSmallNumber, NodeHasRoom}
use Rattle.bc_cert_laws.specs.Faults.{name, IsName, v, j, a, further_names, names_field}
use Rattle.bc_cert_laws.proofs.Fields.{Above, lower, IsOneLine, line_ends}
use Rattle.bc_cert_laws.proofs.Forms.{op_small, number_above, number_bytes, words_above}
use Rattle.bc_cert_laws.proofs.Names.{names_above}

-- rules are written by their names
pub rule_is_name : (r : Rule) → IsName (name r)
rule_is_name J1 = j (omega arith)
rule_is_name J2 = j (omega arith)
rule_is_name J3 = j (omega arith)
rule_is_name J4 = j (omega arith)
rule_is_name J5 = j (omega arith)
rule_is_name J6 = j (omega arith)
rule_is_name J7 = j (omega arith)
rule_is_name J8 = j (omega arith)
rule_is_name J9 = j (omega arith)
rule_is_name A1 = a (omega arith)
rule_is_name A2 = a (omega arith)
rule_is_name A3 = a (omega arith)
rule_is_name _ = v (omega arith)

pub rules_are_names : (rs : List Rule) → AllByRecursion IsName (map name rs)
rules_are_names [] = tt
rules_are_names (r ∷ rs) = (rule_is_name r, rules_are_names rs)

further_is : (rs : List Rule) → further_rules rs ≡ further_names (map name rs)
further_is [] = refl
further_is (r ∷ rs) = ap (λ t. 46 ∷ (rule_name r ++ t)) (further_is rs)

pub rules_field_is : (rs : List Rule) → rules_field rs ≡ names_field (map name rs)
rules_field_is [] = refl
rules_field_is (r ∷ rs) = ap (λ t. rule_name r ++ t) (further_is rs)

-- a node line as it is written is one line
small_above : (n : ℕ) → IsSmall n → Above 32 (decimal n)
small_above n h = number_above 32 n (omega arith) (omega arith)

field_above : (e : Exp) → HasSmallNumber e → Above 32 (form_field e)
field_above (Num n) h = (omega arith, small_above n h)
field_above (Frame k) h = (omega arith, small_above k h)
field_above (Glob n) h = (omega arith, small_above n h)
field_above (Place m) h = (omega arith, small_above m h)
field_above (Valof n) h = (omega arith, small_above n h)
field_above (Load e) h = (omega arith, tt)
field_above (Neg e) h = (omega arith, tt)
field_above (Not e) h = (omega arith, tt)
field_above (Bin op x y) h = (omega arith, small_above (number_of op) (op_small op))
field_above (Cond c x y) h = (omega arith, tt)
field_above (Call es f) h = (omega arith, small_above (count es) h)

words_bytes : (T : Table) (n : Shown) → NodeHasRoom T n → (aim : Aim) → Above 10 (words_field (least_words T aim n))
words_bytes T n h aim = lower (words_field (least_words T aim n)) (words_above (least_words T aim n) (h.words aim))

abbrev node_fields : Table → Shown → List (List ℕ)
node_fields T n =
    form_field n.expression
    ∷ words_field (least_words T (Gets Any) n) ∷ words_field (least_words T (Gets Push) n)
    ∷ words_field (least_words T (Jumps false) n) ∷ words_field (least_words T (Jumps true) n)
    ∷ rules_field n.rules ∷ []

pub node_ends : (T : Table) (n : Shown) → NodeHasRoom T n → IsOneLine (node_line T n)
node_ends T n h =
    let level : n.level ≤ 32768 = h.level in
    line_ends (decimal n.level) (node_fields T n) (
      number_bytes n.level (omega arith),
      (
        lower (form_field n.expression) (field_above n.expression h.number),
        (
          words_bytes T n h (Gets Any),
          (
            words_bytes T n h (Gets Push),
            (
              words_bytes T n h (Jumps false),
              (
                words_bytes T n h (Jumps true),
                (subst (Above 10) (sym (rules_field_is n.rules)) (lower (names_field (map name n.rules)) (names_above (map name n.rules) (rules_are_names n.rules))), tt),
              ),
            ),
          ),
        ),
      ),
    )
