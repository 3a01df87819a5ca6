-- For proofs: that facts are true of the parts of an expression.
use Rattle.std.specs.Prelude.{◌≡◌, ℕ, ◌+◌, List, [], ◌∷◌}
use Rattle.bc_core.specs.Tree.{Exp, Num, Frame, Glob, Place, Load, Neg, Not, Bin, Cond, Call, Valof, Args, no_argument, argument}
use Rattle.bc_core.specs.Value.{has_call}
use Rattle.bc_rules_defs.specs.declared.rule.Table.{Table}
use Rattle.bc_rules_defs.specs.declared.rule.Aim.{Aim}
use Rattle.bc_select_defs.specs.Choices.{choices, words_for}
use Rattle.bc_cert_defs.specs.declared.costs.Costs.{Costs}
use Rattle.bc_cert_read.specs.declared.facts.Facts.{Facts}
use Rattle.bc_cert_read.specs.declared.form.Form.{Form}
use Rattle.bc_cert_read.specs.declared.form.Form.TheVariants as forms
use Rattle.bc_cert_read.specs.Costs.{cost_of}
use Rattle.bc_cert_read.specs.Recipe.{facts_of, words_of_operand_of}
use Rattle.bc_cert_read.specs.Node.{Node}

-- the costs are the least words of the expression at this level
pub record AreLeast (T : Table) (e : Exp) (s : ℕ) (c : Costs) : Type 0 where
  pub words : (aim : Aim) → words_for aim (choices T e s) ≡ cost_of aim c

-- the facts are those of the expression, with its least words
pub record IsPart (T : Table) (e : Exp) (s : ℕ) (p : Facts) : Type 0 where
  pub facts : p ≡ facts_of e (has_call e) p.costs
  pub costs : AreLeast T e s p.costs

-- the facts are those of a call's arguments, the first of them at this level, followed by those of its routine
abbrev pub AreCallParts : Table → Args → Exp → ℕ → List Facts → Type 0
AreCallParts T no_argument f s (p ∷ []) = IsPart T f s p
AreCallParts T no_argument f s ps = ⊥
AreCallParts T (argument e es) f s (p ∷ ps) = IsPart T e s p × AreCallParts T es f (s + 1) ps
AreCallParts T (argument e es) f s [] = ⊥

abbrev pub IsOnePart : Table → Exp → ℕ → List Facts → Type 0
IsOnePart T e s (p ∷ []) = IsPart T e s p
IsOnePart T e s ps = ⊥

abbrev pub AreTwoParts : Table → Exp → Exp → ℕ → List Facts → Type 0
AreTwoParts T a b s (p ∷ ps) = IsPart T a s p × IsOnePart T b s ps
AreTwoParts T a b s [] = ⊥

abbrev pub AreThreeParts : Table → Exp → Exp → Exp → ℕ → List Facts → Type 0
AreThreeParts T a b c s (p ∷ ps) = IsPart T a s p × AreTwoParts T b c s ps
AreThreeParts T a b c s [] = ⊥

abbrev pub NoParts : List Facts → Type 0
NoParts [] = Unit {0}
NoParts _ = ⊥

-- the facts are those of the expression's parts
abbrev pub AreParts : Table → Exp → ℕ → List Facts → Type 0
AreParts T (Load e) s ps = IsOnePart T e s ps
AreParts T (Neg e) s ps = IsOnePart T e s ps
AreParts T (Not e) s ps = IsOnePart T e s ps
AreParts T (Bin op a b) s ps = AreTwoParts T a b (s + 1) ps
AreParts T (Cond c x y) s ps = AreThreeParts T c x y s ps
AreParts T (Call es f) s ps = AreCallParts T es f (s + 2) ps
AreParts T e s ps = NoParts ps

abbrev pub form_of : Exp → ℕ → Form
form_of (Num n) k = forms.Num n
form_of (Frame n) k = forms.Frame n
form_of (Glob n) k = forms.Glob n
form_of (Place n) k = forms.Place n
form_of (Load e) k = forms.Load
form_of (Neg e) k = forms.Neg
form_of (Not e) k = forms.Not
form_of (Bin op a b) k = forms.Bin op
form_of (Cond c x y) k = forms.Cond
form_of (Call es f) k = forms.Call k
form_of (Valof n) k = forms.Valof n

-- the node of the expression with these facts; the number of arguments that a call's form states doesn't matter to the rules
abbrev pub node_over : Table → Exp → ℕ → ℕ → List Facts → Node
node_over T e k s ps = record { table = T; level = s; form = form_of e k; operand = words_of_operand_of e; parts = ps }
