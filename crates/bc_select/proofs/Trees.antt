-- Trees of rule names as the program has them.
use Rattle.std.proofs.Common.{◌≡◌, refl, ap, rules}
use Rattle.bc_rules_defs.specs.declared.derivation.Derivation.{Derivation, Derivation', Row_of-Derivation, end_of-Derivation, more_of-Derivation, items-the_row-Derivation, out-Derivation, the_lemmas}
use Rattle.bc_rules_defs.specs.Rules.{by, part}
use Rattle.bc_rules_defs.specs.View.{derivation, derivations, derivations_of_row}

rows_seen : {n : _} (r : Row_of-Derivation n) → derivations_of_row r ≡ derivations (items-the_row-Derivation n r)
rows_seen end_of-Derivation = refl
rows_seen (more_of-Derivation d ds) = ap (part (derivation d)) (rows_seen ds)

-- the view of a tree, from the list of its parts
pub tree_view : (d : Derivation) → derivation d ≡ by (out-Derivation d).rule (derivations (out-Derivation d).parts.items)
tree_view (Derivation' r shape ps) = let h = rows_seen ps in search (rules, the_lemmas)
