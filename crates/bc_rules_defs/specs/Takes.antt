-- For proofs: which of a node's parts a rule takes, in which order and for which aim. `src/takes.rt` has the same table.
use Rattle.std.specs.Prelude.{ℕ, ◌==◌, Bool, true, false, not, cond, Option, Some, None}
use Rattle.bc_core.specs.Tree.{Exp, Load, Neg, Not, Bin, Cond, Call, Valof, Args}
use Rattle.bc_rules_defs.specs.declared.rule.Mode.TheVariants.{Any, Push}
use Rattle.bc_rules_defs.specs.declared.rule.Aim.{Aim}
use Rattle.bc_rules_defs.specs.declared.rule.Aim.TheVariants.{Gets, Jumps}
use Rattle.bc_rules_defs.specs.declared.rule.Rule.{Rule}
use Rattle.bc_rules_defs.specs.declared.rule.Rule.TheVariants.{V0, V1, V2, V3, V4, V6, V7, V8, V9, V10, V11, V12, V13, V14, V15, V16, V17, V18, V19, V20, V21, V22, J1, J2, J3, J4, J5, J6, J7, J8, J9, A1, A2, A3}
use Rattle.bc_rules_defs.specs.declared.takes.Takes.{Takes}
use Rattle.bc_rules_defs.specs.declared.takes.Takes.TheVariants as all
use Rattle.bc_rules_defs.specs.declared.takes.Takes.TheVariants.{Nothing, First, Second, InOrder, Turned, Choice}
use Rattle.bc_rules_defs.specs.Free.{is_zero}
use Rattle.bc_rules_defs.specs.Parts.{Parts, no_rule, leaf, single, pair, triple, called, parts_of, assignment_parts}

-- the part that remains when a 0 is dropped; `zero` says whether the second part is 0
abbrev pub beside : Aim → (zero : Bool) → Takes
beside aim true = First aim
beside aim false = Second aim

-- the aim of the part of NOT
abbrev pub turned : Aim → Aim
turned (Gets m) = Gets m
turned (Jumps sense) = Jumps (not sense)

-- The parts that a rule takes. V0 and J6 continue with the node itself. Whether the rule applies isn't decided here.
abbrev pub takes : Rule → Aim → (zero : Bool) → Takes
takes V0 aim zero = Nothing
takes V1 aim zero = Nothing
takes V2 aim zero = First aim
takes V3 aim zero = First aim
takes V4 aim zero = First aim
takes V6 aim zero = First aim
takes V7 aim zero = Second aim
takes V8 aim zero = beside aim zero
takes V9 aim zero = First aim
takes V10 aim zero = First aim
takes V11 aim zero = Second aim
takes V12 aim zero = InOrder (Gets Any) (Gets Push)
takes V13 aim zero = Turned (Gets Push) (Gets Any)
takes V14 aim zero = Turned (Gets Push) (Gets Any)
takes V15 aim zero = InOrder (Gets Any) (Gets Any)
takes V16 aim zero = Turned (Gets Any) (Gets Any)
takes V17 aim zero = InOrder (Gets Any) (Gets Any)
takes V18 aim zero = InOrder (Gets Any) (Gets Any)
takes V19 aim zero = InOrder (Gets Any) (Gets Any)
takes V20 aim zero = Choice false
takes V21 aim zero = Choice true
takes V22 aim zero = all.Call
takes J1 aim zero = First (turned aim)
takes J2 aim zero = InOrder (Jumps false) (Jumps false)
takes J3 aim zero = InOrder (Jumps false) (Jumps true)
takes J4 aim zero = InOrder (Jumps true) (Jumps true)
takes J5 aim zero = InOrder (Jumps true) (Jumps false)
takes J6 aim zero = Nothing
takes J7 aim zero = Nothing
takes J8 aim zero = beside (Gets Any) zero
takes J9 aim zero = beside (Gets Any) zero
takes A1 aim zero = First (Gets Any)
takes A2 aim zero = Turned (Gets Any) (Gets Any)
takes A3 aim zero = InOrder (Gets Any) (Gets Any)

abbrev pub first_or : {A : Type 0} → ℕ → A → A → A
first_or part x y = cond (part == 0) x y

-- the aim of the part with this number, if the rule takes it
abbrev pub aim_at : Takes → ℕ → Option Aim
aim_at Nothing part = None
aim_at (First aim) part = first_or part (Some aim) None
aim_at (Second aim) part = first_or part None (Some aim)
aim_at (InOrder a b) part = first_or part (Some a) (Some b)
aim_at (Turned a b) part = first_or part (Some a) (Some b)
aim_at (Choice sense) part = first_or part (Some (Jumps sense)) (Some (Gets Any))
aim_at all.Call part = Some (Gets Any)

-- the parts taken, in the order of the code: at a node with one part, with two, at a condition with two values, at a call
abbrev pub of_one : Takes → Exp → Parts
of_one (First aim) e = single aim e
of_one t e = leaf false

-- at a node with two parts
abbrev pub of_two : Takes → Exp → Exp → Parts
of_two (First aim) a b = single aim a
of_two (Second aim) a b = single aim b
of_two (InOrder f g) a b = pair f a g b
of_two (Turned f g) a b = pair g b f a
of_two t a b = leaf false

-- at a condition with two values
abbrev pub of_choice : Takes → (condition this that : Exp) → Parts
of_choice (Choice false) c x y = triple (Jumps false) c (Gets Any) x (Gets Any) y
of_choice (Choice true) c x y = triple (Jumps true) c (Gets Any) y (Gets Any) x
of_choice t c x y = leaf false

-- at a call
abbrev pub of_call : Takes → Args → Exp → Parts
of_call all.Call es f = called 0 es f
of_call t es f = leaf false

-- the parts that a rule has at an expression according to the table, if it applies
abbrev pub own_by_table : Rule → Aim → Exp → Parts
own_by_table r aim (Load e) = of_one (takes r aim false) e
own_by_table r aim (Neg e) = of_one (takes r aim false) e
own_by_table r aim (Not e) = of_one (takes r aim false) e
own_by_table r aim (Bin op a b) = of_two (takes r aim (is_zero b)) a b
own_by_table r aim (Cond c x y) = of_choice (takes r aim false) c x y
own_by_table r aim (Call es f) = of_call (takes r aim false) es f
own_by_table r aim (Valof n) = leaf true
own_by_table r aim _ = leaf false

-- the same with V0 and J6
abbrev pub by_table : Rule → Aim → Exp → Parts
by_table V0 aim e = single (Gets Push) e
by_table J6 aim e = single (Gets Any) e
by_table r aim e = own_by_table r aim e

-- the parts are equal, or the rule doesn't apply
pub data Agrees : Parts → Parts → Type 0 where
  elsewhere : {q : Parts} → Agrees no_rule q
  alike : {p : Parts} → Agrees p p

-- At each expression and each assignment to which a rule applies, the table gives the rule's parts.
pub record TableHasParts : Type 0 where
  pub expressions : (r : Rule) (aim : Aim) (e : Exp) → Agrees (parts_of r aim e) (by_table r aim e)
  pub assignments : (r : Rule) (value address : Exp) → Agrees (assignment_parts r value address) (of_two (takes r (Gets Any) false) value address)
