-- Meanings of names in the code as those of the definitions.
use Rattle.bc_scope_names.specs.declared.scope.Meant.{Meant}
use Rattle.bc_scope_names.specs.declared.scope.Meant.TheVariants as code
use Rattle.bc_scope_defs.specs.Scope as scoping

-- a meaning of the code, as the definitions have it
abbrev pub meant_view : Meant → scoping.Meant
meant_view (code.Constant w) = scoping.Constant w
meant_view code.Pending = scoping.Pending
meant_view (code.Static m) = scoping.Static m
meant_view (code.Global n) = scoping.Global n
meant_view (code.Routine m) = scoping.Routine m
meant_view (code.Variable k) = scoping.Variable k
meant_view (code.Label l) = scoping.Label l
meant_view code.OuterVariable = scoping.OuterVariable
meant_view code.OuterLabel = scoping.OuterLabel
meant_view code.StrayVariable = scoping.StrayVariable
meant_view code.StrayLabel = scoping.StrayLabel
meant_view code.LabelOutside = scoping.LabelOutside
meant_view code.Undeclared = scoping.Undeclared
