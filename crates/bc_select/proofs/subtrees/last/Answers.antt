use Rattle.std.proofs.Common.{◌∷◌, [], ◌++◌, sym, ◌∙◌, append_assoc}
use Rattle.bc_select.specs.Vector.{node, before}
use Rattle.bc_select.proofs.subtrees.last.Goals as goal

pub returns : goal.returns
returns c = λ xs e s h. c.last.ensures (xs ++ before e s) (node e s) (h ∙ sym (append_assoc xs (before e s) (node e s ∷ [])))
