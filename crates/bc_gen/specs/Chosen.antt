-- The choice of the roots' code: each root has the derivation with the fewest words by table 2.
use Rattle.bc_rules_defs.specs.declared.rule.Table.TheVariants.{Two}
use Rattle.bc_select_defs.specs.LeastDerivation.{least_derivation}
use Rattle.bc_gen_defs.specs.Bodies.{Coding, coding_of}

-- Proofs know it only by its name; `proofs/Choosing.antt` unfolds it.
unfoldable pub coding : Coding
coding = coding_of (least_derivation Two)
