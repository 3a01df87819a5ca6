-- The code of a derivation is the code of its layers.
use Rattle.std.proofs.Common.{◌≡◌, ℕ, ◌+◌, Bool, true, false, cond, List, [], ◌∷◌, ◌++◌, refl, sym, ap, ◌∙◌, append_assoc, append-nil}
use Rattle.bc_core.specs.Tree.{Exp, Args, count, Root}
use Rattle.bc_rules_defs.specs.declared.rule.Table.{Table}
use Rattle.bc_rules_defs.specs.declared.rule.Aim.{Aim}
use Rattle.bc_rules_defs.specs.Free.{jumps_at}
use Rattle.bc_rules_defs.specs.Piece.{SP, K, J}
use Rattle.bc_rules_defs.specs.Rules.{Derives, v22, j7, DerivesAll, no_more, one_more, RootDerives, value, test}
use Rattle.bc_rules_defs.specs.Code.{labels, all_labels, code, all_code, root_code}
use Rattle.bc_rules_defs.specs.Layers.{Layer, own, part, layers, argument_layers, root_layers, code_of}
use Rattle.bc_rules_defs.specs.LayerLaws.{CodeIsThatOfLayers}

arguments_code : {T : Table} {es : Args} (ds : DerivesAll T es) (ls : List (Layer T)) (s t f : ℕ) → all_code ds s t f ++ code_of ls ≡ code_of (argument_layers ds s t f ++ ls)
arguments_code no_more ls s t f = refl
arguments_code (one_more d ds) ls s t f =
    append_assoc (code d s t f) (SP s ∷ all_code ds (s + 1) t (f + labels d)) (code_of ls)
    ∙ ap (λ z. code d s t f ++ SP s ∷ z) (arguments_code ds ls (s + 1) t (f + labels d))

jump_layer : (T : Table) (jumps : Bool) (t : ℕ) → cond jumps (J t ∷ []) [] ≡ code_of (cond jumps (own {T = T} (J t) ∷ []) [])
jump_layer T true t = refl
jump_layer T false t = refl

pub code_is : {T : Table} {e : Exp} {aim : Aim} (d : Derives T e aim) (s t f : ℕ) → code d s t f ≡ code_of (layers d s t f)
code_is (v22 {es = es} ds r) s t f =
    append_assoc (all_code ds (s + 2) t f) (code r (s + 2 + count es) t (f + all_labels ds)) (K s ∷ [])
    ∙ arguments_code ds (part r (s + 2 + count es) t (f + all_labels ds) ∷ own (K s) ∷ []) (s + 2) t f
code_is (j7 {T = T} {n = n} {sense = sense}) s t f = jump_layer T (jumps_at sense n) t
code_is d s t f = first_of (simp (append_assoc, append-nil), cc)

pub root_code_is : {T : Table} {r : Root} (d : RootDerives T r) (t f : ℕ) → root_code d t f ≡ code_of (root_layers d t f)
root_code_is (value {s = s} d) t f = sym (append-nil (code d s t f))
root_code_is (test {s = s} d) t f = sym (append-nil (code d s t f))
root_code_is d t f = first_of (simp append_assoc, cc)

pub code_is_that_of_layers : CodeIsThatOfLayers
code_is_that_of_layers = ((λ T e aim d s t f. code_is d s t f), (λ T r d t f. root_code_is d t f))
