-- For proofs: the derivation that the rules of a node line make from those of the node's parts, computed as the program does it.
use Rattle.std.specs.Prelude.{Bool, true, false, take, List, [], ◌∷◌}
use Rattle.bc_rules_defs.specs.declared.rule.Mode.TheVariants.{Any}
use Rattle.bc_rules_defs.specs.declared.rule.Aim.TheVariants.{Gets}
use Rattle.bc_rules_defs.specs.declared.rule.Rule.{Rule}
use Rattle.bc_rules_defs.specs.declared.rule.Rule.TheVariants.{V0, V1, J6}
use Rattle.bc_rules_defs.specs.declared.takes.Takes.{Takes}
use Rattle.bc_rules_defs.specs.declared.takes.Takes.TheVariants as kinds
use Rattle.bc_rules_defs.specs.Takes.{takes}
use Rattle.bc_rules_defs.specs.Rules.{Tree, Trees, by, no_part, part, one}
use Rattle.bc_cert_read.specs.declared.chain.Chain.{Chain}
use Rattle.bc_cert_read.specs.declared.chain.Rules.{Rules}
use Rattle.bc_cert_read.specs.declared.chain.Rules.TheVariants.{Taken, Named, Wrong}

abbrev pub two_turned : List Tree → List Tree
two_turned (a ∷ b ∷ []) = b ∷ a ∷ []
two_turned ds = ds

abbrev pub last_turned : List Tree → List Tree
last_turned (c ∷ x ∷ y ∷ []) = c ∷ y ∷ x ∷ []
last_turned ds = ds

-- the parts that the rule derives, in the order of the code
abbrev pub taken : Takes → List Tree → List Tree
taken kinds.Nothing ds = []
taken (kinds.First aim) ds = take 1 ds
taken (kinds.Second aim) ds = take 1 (two_turned ds)
taken (kinds.InOrder f g) ds = ds
taken (kinds.Turned f g) ds = two_turned ds
taken (kinds.Choice false) ds = ds
taken (kinds.Choice true) ds = last_turned ds
taken kinds.Call ds = ds

abbrev pub trees : List Tree → Trees
trees [] = no_part
trees (d ∷ ds) = part d (trees ds)

abbrev pub over_if : Bool → Rule → Tree → Tree
over_if true r d = by r (one d)
over_if false r d = d

abbrev pub chained : Chain → List Tree → Tree
chained c ds = over_if c.is_tested J6 (over_if c.is_freed V0 (by c.rule (trees ds)))

abbrev pub derived : Rules → Bool → List Tree → Tree
derived (Named c) zero ds = chained c (taken (takes c.rule (Gets Any) zero) ds)
derived Taken zero ds = by V1 no_part
derived Wrong zero ds = by V1 no_part
