-- For proofs: the program's trees as those of the definitions, and when a call returns what a definition computes.
use Rattle.std.specs.Prelude.{◌≡◌, map, Option, Some, None, Result, Ok, Err}
use Rattle.bc_core.specs.declared.expression.CoreExp.{CoreExp}
use Rattle.bc_core.specs.Tree.{Exp}
use Rattle.bc_core.specs.View.{exp, root}
use Rattle.bc_cert_defs.specs.declared.check_fault.CheckFault.{CheckFault}
use Rattle.bc_cert_defs.specs.declared.check_fault.CheckFault.TheVariants.{Memory}
use Rattle.bc_rules_defs.specs.View.{derivation}
use Rattle.bc_cert_read.specs.declared.one.One as code_one
use Rattle.bc_cert_read.specs.declared.rooted.Rooted as code_rooted
use Rattle.bc_cert_read.specs.declared.stack.Stack as code_stack
use Rattle.bc_cert_read.specs.Stacks.{Stack, One, Rooted}

abbrev pub found : Option CoreExp → Option Exp
found None = None
found (Some e) = Some (exp e)

abbrev pub stack : code_stack.Stack → Stack
stack s = record { marks = s.marks.items; facts = s.facts.items; expressions = map exp s.expressions.items; derivations = map derivation s.derivations.items }

abbrev pub one : code_one.One → One
one o = record { mark = o.mark; facts = o.facts; expression = exp o.expression; derivation = derivation o.derivation }

abbrev pub only : Option code_one.One → Option One
only None = None
only (Some o) = Some (one o)

abbrev pub both : Option (code_one.One × code_one.One) → Option (One × One)
both None = None
both (Some p) = Some (one p.0, one p.1)

abbrev pub rooted : code_rooted.Rooted → Rooted
rooted r = record { root = root r.root; derivation = derivation r.derivation; words = r.words }

-- the definition computes this fault, and so the call returns it; if the fault is `Memory` the call may return anything
abbrev pub Fails : {X : Type 0} → CheckFault → Result X CheckFault → Type 0
Fails Memory r = Unit {0}
Fails f r = r ≡ Err f

-- the definition computes the view of what the call returns
abbrev pub Gives : {X Y : Type 0} → (X → Y) → Result X CheckFault → Result Y CheckFault → Type 0
Gives view (Ok x) r = r ≡ Ok (view x)
Gives view (Err f) r = Fails f r

-- the definition computes the new state
abbrev pub Steps : {X Y : Type 0} → Y → Result X CheckFault → Result Y CheckFault → Type 0
Steps new (Ok x) r = r ≡ Ok new
Steps new (Err f) r = Fails f r
