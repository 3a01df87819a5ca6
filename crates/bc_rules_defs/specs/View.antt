-- Views: what the program's derivations and entries are in the definitions.
use Rattle.std.specs.Prelude.{List, [], ◌∷◌}
use Rattle.bc_core.specs.View.{root}
use Rattle.bc_rules_defs.specs.declared.derivation.Derivation.{Derivation, Derivation', Row_of-Derivation, end_of-Derivation, more_of-Derivation}
use Rattle.bc_rules_defs.specs.declared.entry.Entry as code
use Rattle.bc_rules_defs.specs.Rules.{Tree, Trees, by, no_part, part}
use Rattle.bc_rules_defs.specs.Entry.{Entry}

abbrev mutual
  -- the view of a derivation
  pub derivation : Derivation → Tree
  derivation (Derivation' r shape ps) = by r (derivations_of_row ps)

  -- the views of a derivation's parts
  pub derivations_of_row : {n : _} → Row_of-Derivation n → Trees
  derivations_of_row end_of-Derivation = no_part
  derivations_of_row (more_of-Derivation d ds) = part (derivation d) (derivations_of_row ds)

-- the views of a list of derivations
abbrev pub derivations : List Derivation → Trees
derivations [] = no_part
derivations (d ∷ ds) = part (derivation d) (derivations ds)

-- the view of an entry
abbrev pub entry : code.Entry → Entry
entry e = record {
  segment = e.segment;
  item = e.item;
  target = e.target;
  first = e.first;
  root = root e.root;
  derivation = derivation e.derivation;
  bodies = e.bodies.items;
}
