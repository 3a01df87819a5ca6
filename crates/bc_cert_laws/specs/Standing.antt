-- For proofs: when the checker's marks, facts, expressions and derivations are true of the trees that the lines show.
use Rattle.std.specs.Prelude.{◌≡◌, ℕ, ◌≤◌, Bool, true, false, List, [], ◌∷◌, map, Some}
use Rattle.std.specs.Fmt.{decimal}
use Rattle.bc_word.specs.Words.{number_of}
use Rattle.bc_core.specs.Tree.{Exp}
use Rattle.bc_rules_defs.specs.declared.rule.Table.{Table}
use Rattle.bc_rules_defs.specs.declared.rule.Mode.TheVariants.{Any}
use Rattle.bc_rules_defs.specs.declared.rule.Aim.{Aim}
use Rattle.bc_rules_defs.specs.declared.rule.Aim.TheVariants.{Gets}
use Rattle.bc_rules_defs.specs.declared.rule.Rule.{Rule}
use Rattle.bc_rules_defs.specs.declared.rule.Rule.TheVariants.{V0, J6}
use Rattle.bc_rules_defs.specs.Takes.{takes}
use Rattle.bc_rules_defs.specs.Rules.{Derives, Tree, by, shape}
use Rattle.bc_rules_defs.specs.Code.{cost}
use Rattle.bc_select_defs.specs.Nodes.{in_order}
use Rattle.bc_cert_read.specs.declared.facts.Facts.{Facts}
use Rattle.bc_cert_read.specs.declared.form.Form.{Form}
use Rattle.bc_cert_read.specs.declared.form.Form.TheVariants as forms
use Rattle.bc_cert_read.specs.Parts.{AreLeast, IsPart}
use Rattle.bc_cert_read.specs.declared.chain.Chain.{Chain}
use Rattle.bc_cert_read.specs.declared.chain.Rules.{Rules}
use Rattle.bc_cert_read.specs.declared.chain.Rules.TheVariants.{Taken, Named, Wrong}
use Rattle.bc_cert_read.specs.declared.lines.NodeLine.{NodeLine}
use Rattle.bc_cert_read.specs.declared.lines.RootLine.{RootLine}
use Rattle.bc_cert_read.specs.declared.lines.RootLine.TheVariants as lines
use Rattle.bc_rules_defs.specs.Names.{rule_letter}
use Rattle.bc_cert_read.specs.declared.mark.TreeFacts.{TreeFacts}
use Rattle.bc_cert_read.specs.Marks.{has_aim, levels_fit}
use Rattle.bc_cert_read.specs.Wholes.{whole}
use Rattle.bc_cert_read.specs.Derived.{taken, trees}
use Rattle.bc_cert_read.specs.Stacks.{second_zero}
use Rattle.bc_cert_write.specs.Shown.{Shown, shown, bare, rules_at, below}
use Rattle.bc_cert_write.specs.Lines.{line, rule_name, sense_field}
use Rattle.bc_cert_laws.specs.Entries.{IsSmall, IsLevel, nested}
use Rattle.bc_cert_laws.specs.Faults.{Grown, Name, name, IsAssignment}

-- the rules of a chain, the outermost first
abbrev pub over_if : Bool → Rule → List Rule → List Rule
over_if true r rs = r ∷ rs
over_if false r rs = rs

abbrev pub chain_rules : Chain → List Rule
chain_rules c = over_if c.is_tested J6 (over_if c.is_freed V0 (c.rule ∷ []))

-- a chain with J6 or V0 ends in a rule of values, and its last rule is neither V0 nor J6
pub record IsChain (c : Chain) : Type 0 where
  pub tested : c.is_tested ≡ true → rule_letter c.rule ≡ 86
  pub freed : c.is_freed ≡ true → rule_letter c.rule ≡ 86
  pub not_freed_again : ¬ (c.rule ≡ V0)
  pub not_tested_again : ¬ (c.rule ≡ J6)

-- these names in a line mean these rules
pub data AreNamed : List Name → Rules → Type 0 where
  no_name : AreNamed [] Taken
  named : {c : Chain} → IsChain c → AreNamed (map name (chain_rules c)) (Named c)
  wrong : {names : List Name} → ¬ (names ≡ []) → ((c : Chain) → IsChain c → ¬ (names ≡ map name (chain_rules c))) → AreNamed names Wrong

-- a form as a field
abbrev pub form_text : Form → List ℕ
form_text (forms.Num n) = 78 ∷ decimal n
form_text (forms.Frame k) = 80 ∷ decimal k
form_text (forms.Glob n) = 71 ∷ decimal n
form_text (forms.Place m) = 76 ∷ decimal m
form_text (forms.Valof n) = 86 ∷ decimal n
form_text forms.Load = 33 ∷ []
form_text forms.Neg = 77 ∷ []
form_text forms.Not = 126 ∷ []
form_text (forms.Bin op) = 88 ∷ decimal (number_of op)
form_text forms.Cond = 63 ∷ []
form_text (forms.Call n) = 75 ∷ decimal n

abbrev pub FormIsSmall : Form → Type 0
FormIsSmall (forms.Num n) = IsSmall n
FormIsSmall (forms.Frame n) = IsSmall n
FormIsSmall (forms.Glob n) = IsSmall n
FormIsSmall (forms.Place n) = IsSmall n
FormIsSmall (forms.Valof n) = IsSmall n
FormIsSmall (forms.Call n) = IsSmall n
FormIsSmall _ = Unit {0}

-- a root line with its LF
abbrev pub root_text : RootLine → List ℕ
root_text lines.Value = line (82 ∷ []) ((86 ∷ []) ∷ [])
root_text (lines.Test sense) = line (82 ∷ []) (sense_field sense ∷ [])
root_text (lines.Assign r s) = line (82 ∷ []) (rule_name r ∷ decimal s ∷ [])

abbrev pub RootLineIsSmall : RootLine → Type 0
RootLineIsSmall (lines.Assign r s) = IsAssignment r × IsLevel s
RootLineIsSmall _ = Unit {0}

-- no derivation of the expression for this aim has fewer words
abbrev pub IsFewest : {T : Table} {e : Exp} {aim : Aim} → Derives T e aim → ℕ → Type 0
IsFewest {T = T} {e = e} {aim = aim} d s = (other : Derives T e aim) → cost d s ≤ cost other s

-- the tree's lines show a derivation that has the fewest words for this aim
pub record Shows (T : Table) (t : Grown) (aim : Aim) : Type 0 where
  pub derivation : Derives T t.expression aim
  pub shown : t.shown ≡ shown derivation t.level
  pub fewest : IsFewest derivation t.level

-- the mark, the facts, the expression and the derivation that the checker keeps are true of this tree
pub record Stands (T : Table) (t : Grown) (m : TreeFacts) (f : Facts) (e : Exp) (x : Tree) : Type 0 where
  pub expression : e ≡ t.expression
  pub level : m.level ≡ t.level
  pub depth : m.depth ≡ nested t.expression
  pub part : IsPart T t.expression t.level f
  pub order : map (λ n. (n.expression, n.level)) t.shown ≡ in_order t.expression t.level
  pub bare_to : m.is_bare ≡ true → t.shown ≡ bare t.expression t.level
  pub bare_from : t.shown ≡ bare t.expression t.level → m.is_bare ≡ true
  pub shows : (aim : Aim) → has_aim m.shown aim ≡ true → Shows T t aim
  pub has : (aim : Aim) (d : Derives T t.expression aim) → t.shown ≡ shown d t.level → IsFewest d t.level → (has_aim m.shown aim ≡ true) × (shape d ≡ x)

abbrev pub AllStand : Table → List Grown → List TreeFacts → List Facts → List Exp → List Tree → Type 0
AllStand T [] [] [] [] [] = Unit {0}
AllStand T (t ∷ ts) (m ∷ ms) (f ∷ fs) (e ∷ es) (x ∷ xs) = Stands T t m f e x × AllStand T ts ms fs es xs
AllStand T _ _ _ _ _ = ⊥

-- the node line has these trees as the parts of its expression, and states the least words
pub record IsOver (T : Table) (n : NodeLine) (ts : List Grown) (ms : List TreeFacts) (fs : List Facts) (es : List Exp) (xs : List Tree) (e : Exp) : Type 0 where
  pub parts : AllStand T ts ms fs es xs
  pub levels : levels_fit n.level n.form ms ≡ true
  pub whole : whole n.form es ≡ Some e
  pub costs : AreLeast T e n.level n.costs

-- the line shows these rules
pub data ShowsRules : Rules → List Rule → Type 0 where
  no_rule : ShowsRules Taken []
  by_chain : {c : Chain} → IsChain c → ShowsRules (Named c) (chain_rules c)

-- There is a derivation that has only this rule at its node, without V0 or J6 before it, with these words, and the nodes below it are
-- these.
pub record Begins (T : Table) (e : Exp) (aim : Aim) (s : ℕ) (r : Rule) (words : ℕ) (nodes : List Shown) : Type 0 where
  pub derivation : Derives T e aim
  pub first : rules_at derivation ≡ r ∷ []
  pub counted : cost derivation s ≡ words
  pub parts : below derivation s ≡ nodes

-- the derivation that the checker builds for such a rule
abbrev pub begun : Rule → List Facts → List Tree → Tree
begun r fs xs = by r (trees (taken (takes r (Gets Any) (second_zero fs)) xs))
