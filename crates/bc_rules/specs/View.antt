-- For proofs: the views of the program's parts.
use Rattle.std.specs.Prelude.{Option, Some, None}
use Rattle.std.specs.Borrow.{Bor}
use Rattle.bc_core.specs.declared.expression.CoreExp.{CoreExp}
use Rattle.bc_core.specs.Tree.{Exp}
use Rattle.bc_core.specs.View.{exp, args}
use Rattle.bc_rules.specs.declared.parts.Parts as code
use Rattle.bc_rules.specs.declared.parts.Parts.TheVariants as forms
use Rattle.bc_rules_defs.specs.Parts.{Parts, no_rule, leaf, single, pair, triple, called}

-- the parts of a rule
abbrev pub parts : code.Parts → Parts
parts forms.NoRule = no_rule
parts (forms.Leaf valof) = leaf valof
parts (forms.Single a) = single a.aim (exp a.of.now)
parts (forms.Pair a b) = pair a.aim (exp a.of.now) b.aim (exp b.of.now)
parts (forms.Triple a b c) = triple a.aim (exp a.of.now) b.aim (exp b.of.now) c.aim (exp c.of.now)
parts (forms.Call es e) = called 0 (args es.now) (exp e.now)

-- an expression, if there is one
abbrev pub expression : Option (Bor CoreExp) → Option Exp
expression None = None
expression (Some e) = Some (exp e.now)
