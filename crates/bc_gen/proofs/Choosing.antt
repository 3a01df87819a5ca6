-- The choice opened: its derivations are those that the selector returns.
use Rattle.std.proofs.Common.{ℕ, ◌+◌, ◌<◌, ◌≤◌, ◌≡◌, Bool, true, false, List, Some, refl, sym}
use Rattle.std.specs.Prelude.{nat_le}
use Rattle.std.proofs.lemmas.Bool.{leb-true, leb-false}
use Rattle.bc_core.specs.Tree.{Root}
use Rattle.bc_rules_defs.specs.declared.rule.Table.TheVariants.{Two}
use Rattle.bc_rules_defs.specs.declared.piece.Piece.{Piece}
use Rattle.bc_rules_defs.specs.Rules.{Tree, root_shape}
use Rattle.bc_select_defs.specs.Chosen.{chosen}
use Rattle.bc_rules.specs.Code.{IsCodeOf, IsNextLabel, LacksRoom, cells_of_root}
use Rattle.bc_gen.specs.Chosen.{coding}

pub derivation_is : (r : Root) (x : Tree) → x ≡ root_shape (chosen Two r) → x ≡ coding.derivation r
unfolding coding
derivation_is r x h = h

pub code_is : (r : Root) (x : Tree) (t f : ℕ) (ps : List Piece) → IsCodeOf r x t f ps → x ≡ coding.derivation r → ps ≡ coding.pieces r t f
unfolding coding
code_is r x t f ps h e = h.exact Two (chosen Two r) (sym e)

-- the first label after those of a derivation
pub next_is : (r : Root) (x : Tree) (f m : ℕ) → IsNextLabel r x f (Some m) → x ≡ coding.derivation r → m ≡ f + coding.labels r
unfolding coding
next_is r x f m h e = (h.exact Two (chosen Two r) (sym e)).1

-- if a number doesn't fit, but all offsets do, then labels ran out
pub labels_lack : (r : Root) (x : Tree) (f : ℕ) → LacksRoom r x f → x ≡ coding.derivation r → cells_of_root r ≤ 65536 → 65536 < f + coding.labels r
unfolding coding
labels_lack r x f h e c = by (nat_le (f + coding.labels r) 65536) refl
  where
    by : (t : Bool) → nat_le (f + coding.labels r) 65536 ≡ t → 65536 < f + coding.labels r
    by true k = absurd (h.exact Two (chosen Two r) (sym e) (leb-true _ _ k) c)
    by false k = leb-false _ _ k
