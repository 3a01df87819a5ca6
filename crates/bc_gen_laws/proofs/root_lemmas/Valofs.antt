-- The VALOFs of a derivation in the order of its code, which doesn't depend on where the code is placed. Their words are those of
-- the bodies within the expression.
use Rattle.std.proofs.Common.{◌≡◌, ◌∙◌, ℕ, List, [], ◌∷◌, refl, ap, sym, arith}
use Rattle.std.specs.Prelude.{sum_by}
use Rattle.std.proofs.lemmas.List.Sums.{sum_by-append}
use Rattle.bc_core.specs.Tree.{Root}
use Rattle.bc_rules_defs.specs.declared.rule.Table.{Table}
use Rattle.bc_rules_defs.specs.declared.piece.Piece.{Piece}
use Rattle.bc_rules_defs.specs.declared.piece.Piece.TheVariants.{Item, Body}
use Rattle.bc_rules_defs.specs.Rules.{RootDerives}
use Rattle.bc_rules_defs.specs.Code.{root_code}
use Rattle.bc_rules_defs.proofs.Bodies.{bodies, same_bodies as same_in_code, of_bodies, root_weighs}
use Rattle.bc_gen_defs.specs.Size.{words_within_root}
use Rattle.bc_gen_laws.proofs.size_lemmas.Within.{within, root_within}
use Rattle.bc_gen_laws.specs.roots.Roots.{bodies_in}

are_bodies : (ps : List Piece) → bodies_in ps ≡ bodies ps
are_bodies [] = refl
are_bodies (Item i ∷ ps) = are_bodies ps
are_bodies (Body n ∷ ps) = ap (λ ns. n ∷ ns) (are_bodies ps)

-- wherever the code is placed
pub same_bodies : {T : Table} {r : Root} (d : RootDerives T r) (t f : ℕ) → bodies_in (root_code d t f) ≡ bodies_in (root_code d 0 0)
same_bodies d t f = are_bodies (root_code d t f) ∙ same_in_code d t f ∙ sym (are_bodies (root_code d 0 0))

words_of_bodies : (W : ℕ → ℕ) (ps : List Piece) → of_bodies (within W) ps ≡ sum_by W (bodies_in ps)
words_of_bodies W [] = refl
words_of_bodies W (Item i ∷ ps) = words_of_bodies W ps
words_of_bodies W (Body n ∷ ps) = let h = sum_by-append W (n ∷ []) (bodies_in ps) in let i = words_of_bodies W ps in omega (arith, h, i)

-- the words within a root are those of the bodies in its code
pub words_of_root : (W : ℕ → ℕ) {T : Table} {r : Root} (d : RootDerives T r) → words_within_root W r ≡ sum_by W (bodies_in (root_code d 0 0))
words_of_root W {r = r} d = sym (root_within W r) ∙ root_weighs (within W) d 0 0 ∙ words_of_bodies W (root_code d 0 0)
