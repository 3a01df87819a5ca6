-- The law of candidates.
use Rattle.std.specs.Prelude.{◌≡◌, ℕ, [], ◌∷◌}
use Rattle.bc_core.specs.Tree.{Exp}
use Rattle.bc_select.specs.declared.row.Row.{Row}
use Rattle.bc_select.specs.Rows.{IsRowOf}
use Rattle.bc_candidates.specs.Beginnings.{least_words}
use Rattle.bc_candidates.specs.Aims.{ForAims, AreCandidatesOf}

-- For each aim, the least words among the candidates of a node are those of its row.
abbrev pub LeastAreTheRows : Type 0
LeastAreTheRows =
    (node : Exp × ℕ) (row : Row) (f : ForAims) → IsRowOf node row → AreCandidatesOf node f
    → row.costs ≡ least_words f.any ∷ least_words f.push ∷ least_words f.on_false ∷ least_words f.on_true ∷ []
