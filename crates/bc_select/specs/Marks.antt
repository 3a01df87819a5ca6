-- For proofs: trees as a list of rules, wholes before parts and the last part first, each with the number of its parts.
use Rattle.std.specs.Prelude.{ℕ, zero, suc, ◌+◌, ◌-◌, List, [], ◌∷◌, ◌++◌}
use Rattle.bc_rules_defs.specs.Rules.{Tree, Trees, by, no_part, part, end_with}
use Rattle.bc_select.specs.declared.derivations.RuleMark.{RuleMark}

-- the number of trees
abbrev pub size : Trees → ℕ
size no_part = 0
size (part t ts) = size ts + 1

abbrev mutual
  -- the marks of a tree
  pub marks : Tree → List RuleMark
  marks (by r ts) = record { rule = r; parts = size ts } ∷ marks_of_all ts

  -- the marks of trees
  pub marks_of_all : Trees → List RuleMark
  marks_of_all no_part = []
  marks_of_all (part t ts) = marks_of_all ts ++ marks t

-- the first n trees
abbrev pub first : ℕ → Trees → Trees
first zero ts = no_part
first (suc n) no_part = no_part
first (suc n) (part t ts) = part t (first n ts)

-- the trees after the first n
abbrev pub rest : ℕ → Trees → Trees
rest zero ts = ts
rest (suc n) no_part = no_part
rest (suc n) (part t ts) = rest n ts

-- a mark takes the last trees as its parts; and the effect of all marks, from the last to the first
abbrev pub close : RuleMark → Trees → Trees
close m ts = let k = size ts - m.parts in end_with (first k ts) (by m.rule (rest k ts))

-- building from all marks
abbrev pub unwind : List RuleMark → Trees → Trees
unwind [] ts = ts
unwind (m ∷ ms) ts = close m (unwind ms ts)
