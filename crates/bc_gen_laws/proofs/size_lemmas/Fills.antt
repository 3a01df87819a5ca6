-- The words of a root's code with the bodies of its VALOFs filled in.
use Rattle.std.proofs.Common.{ℕ, ◌+◌, List, [], ◌∷◌, arith}
use Rattle.bc_text_items.specs.declared.item.Item as code_item
use Rattle.bc_text_items.specs.declared.item.Item.TheVariants.{Operation, Label}
use Rattle.bc_core.specs.Tree.{Root}
use Rattle.bc_rules_defs.specs.declared.rule.Table.{Table}
use Rattle.bc_rules_defs.specs.declared.piece.Piece.{Piece}
use Rattle.bc_rules_defs.specs.declared.piece.Piece.TheVariants.{Item, Body}
use Rattle.bc_rules_defs.specs.Piece as piece
use Rattle.bc_rules_defs.specs.Rules.{RootDerives}
use Rattle.bc_rules_defs.specs.Code.{root_cost, root_code}
use Rattle.bc_rules_defs.proofs.Words.{root_words}
use Rattle.bc_rules_defs.proofs.Bodies.{of_bodies, root_weighs}
use Rattle.bc_rules_defs.proofs.Plain.{ArePlain, root_plain}
use Rattle.bc_gen_defs.specs.Bodies.{BodiesCode, fill, label_ahead}
use Rattle.bc_gen_defs.specs.Size.{words_within_root}
use Rattle.bc_gen_laws.proofs.size_lemmas.Takes.{Takes, takes_none, takes_both, takes_as, takes_operation, takes_label}
use Rattle.bc_gen_laws.proofs.size_lemmas.Within.{within, root_within}

-- the bodies of VALOFs, and the words of each
pub record Filling : Type 0 where
  pub levels : ℕ → ℕ
  pub bodies : BodiesCode code_item.Item
  pub words : ℕ → ℕ
  pub take : (n l f : ℕ) → Takes (bodies n (levels n) l f).0 (words n)

abbrev pub filled : Filling → List Piece → ℕ → List code_item.Item
filled F ps f = (fill (λ i. i) F.levels F.bodies ps f).0

-- pieces without bytes take their own words, and those of the bodies among them
plain_takes : (F : Filling) (ps : List Piece) → ArePlain ps → (g : ℕ) → Takes (filled F ps g) (piece.words ps + of_bodies (within F.words) ps)
plain_takes F [] h g = takes_as takes_none (omega arith)
plain_takes F (Item (Operation f i b k) ∷ ps) h g = takes_as (takes_operation f i b k (plain_takes F ps h.1 g)) (omega arith)
plain_takes F (Item (Label k) ∷ ps) h g = takes_as (takes_label k (plain_takes F ps h.1 g)) (omega arith)
plain_takes F (Item i ∷ ps) h g = absurd h.0
plain_takes F (Body n ∷ ps) h g =
    let l = label_ahead ps in takes_as (takes_both (F.take n l g) (plain_takes F ps h.1 (F.bodies n (F.levels n) l g).1)) (omega arith)

-- a root's code takes its words, and those of its bodies
pub root_takes : (F : Filling) {T : Table} {r : Root} (d : RootDerives T r) (t f g : ℕ) → Takes (filled F (root_code d t f) g) (root_cost d + words_within_root F.words r)
root_takes F {r = r} d t f g =
    let own = root_words d t f in let inner = root_weighs (within F.words) d t f in let same = root_within F.words r in
    takes_as (plain_takes F (root_code d t f) (root_plain d t f) g) (omega (arith, own, inner, same))
