-- The layers of each derivation's code, in the order of the code: its rule's own pieces, bodies of VALOFs, and its parts.
use Rattle.std.specs.Prelude.{ℕ, ◌+◌, not, cond, List, [], ◌∷◌, ◌++◌}
use Rattle.bc_word.specs.Words.{number_of, negated}
use Rattle.bc_core.specs.Tree.{Exp, Args, count, Root}
use Rattle.bc_rules_defs.specs.declared.rule.Table.{Table}
use Rattle.bc_rules_defs.specs.declared.rule.Aim.{Aim}
use Rattle.bc_rules_defs.specs.declared.piece.Piece.{Piece}
use Rattle.bc_rules_defs.specs.declared.piece.Piece.TheVariants.{Body}
use Rattle.bc_rules_defs.specs.Free.{jumps_at}
use Rattle.bc_rules_defs.specs.Piece.{L, S, A, A_number, SP, LIP, AIP, SIP, X, K, J, jump_if, label}
use Rattle.bc_rules_defs.specs.Rules.{Derives, v0, v1, v2, v3, v4, v6, v7, v8, v9, v10, v11, v12, v13, v14, v15, v16, v17, v18, v19, v20, v21, v22, v22_valof, j1, j2, j3, j4, j5, j6, j7, j8, j9, DerivesAll, no_more, one_more, RootDerives, value, test, a1, a2, a3}
use Rattle.bc_rules_defs.specs.Code.{labels, all_labels, code}

pub data Layer : Table → Type 0 where
  -- a piece that the rule itself has
  own : {T : Table} → Piece → Layer T
  -- the body of the VALOF with the number n, and the label f after it
  body : {T : Table} → (n f : ℕ) → Layer T
  -- a part at level s, with target t, and with labels from f on
  part : {T : Table} {e : Exp} {aim : Aim} → Derives T e aim → (s t f : ℕ) → Layer T

-- the arguments of a call from level s on, each stored into its cell of the new frame
abbrev pub argument_layers : {T : Table} {es : Args} → DerivesAll T es → (s t f : ℕ) → List (Layer T)
argument_layers no_more s t f = []
argument_layers (one_more d ds) s t f = part d s t f ∷ own (SP s) ∷ argument_layers ds (s + 1) t (f + labels d)

-- the layers of a derivation at level s, with target t, and with labels from f on
abbrev pub layers : {T : Table} {e : Exp} {aim : Aim} → Derives T e aim → (s t f : ℕ) → List (Layer T)
layers (v0 d) s t f = part d s t f ∷ []
layers (v1 {o = o} h) s t f = own (L o) ∷ []
layers (v2 d) s t f = part d s t f ∷ own (X 1) ∷ []
layers (v3 d) s t f = part d s t f ∷ own (X 2) ∷ []
layers (v4 d) s t f = part d s t f ∷ own (X 3) ∷ []
layers (v6 {o = o} h a) s t f = part a (s + 1) t f ∷ own (A o) ∷ []
layers (v7 {o = o} h free b) s t f = part b (s + 1) t f ∷ own (A o) ∷ []
layers (v8 h c) s t f = part c (s + 1) t f ∷ []
layers (v9 {n = n} a) s t f = part a (s + 1) t f ∷ own (A_number (negated n)) ∷ []
layers (v10 {o = o} h a) s t f = part a (s + 1) t f ∷ own (X 2) ∷ own (A o) ∷ own (X 2) ∷ []
layers (v11 {o = o} h free b) s t f = part b (s + 1) t f ∷ own (X 2) ∷ own (A o) ∷ []
layers (v12 {op = op} a b) s t f = part a (s + 1) t f ∷ part b (s + 1) t (f + labels a) ∷ own (X (number_of op)) ∷ []
layers (v13 {q = q} h free b a) s t f = part b (s + 1) t f ∷ part a (s + 1) t (f + labels b) ∷ own (X (number_of q)) ∷ []
layers (v14 free b a) s t f = part b (s + 1) t f ∷ part a (s + 1) t (f + labels b) ∷ own (X 9) ∷ own (X 2) ∷ []
layers (v15 {q = q} h a b) s t f = part a (s + 1) t f ∷ own (SP s) ∷ part b (s + 1) t (f + labels a) ∷ own (LIP s) ∷ own (X (number_of q)) ∷ []
layers (v16 {op = op} free b a) s t f = part b (s + 1) t f ∷ own (SP s) ∷ part a (s + 1) t (f + labels b) ∷ own (LIP s) ∷ own (X (number_of op)) ∷ []
layers (v17 {op = op} a b) s t f =
    part a (s + 1) t f ∷ own (SP s) ∷ part b (s + 1) t (f + labels a) ∷ own (SP (s + 1)) ∷ own (LIP s) ∷ own (LIP (s + 1)) ∷ own (X (number_of op)) ∷ []
layers (v18 a b) s t f = part a (s + 1) t f ∷ own (SP s) ∷ part b (s + 1) t (f + labels a) ∷ own (AIP s) ∷ []
layers (v19 a b) s t f = part a (s + 1) t f ∷ own (SP s) ∷ part b (s + 1) t (f + labels a) ∷ own (X 2) ∷ own (AIP s) ∷ []
layers (v20 c x y) s t f =
    part c s f (f + 2) ∷ part x s t (f + 2 + labels c) ∷ own (J (f + 1)) ∷ own (label f) ∷ part y s t (f + 2 + labels c + labels x) ∷ own (label (f + 1)) ∷ []
layers (v21 c y x) s t f =
    part c s f (f + 2) ∷ part y s t (f + 2 + labels c) ∷ own (J (f + 1)) ∷ own (label f) ∷ part x s t (f + 2 + labels c + labels y) ∷ own (label (f + 1)) ∷ []
layers (v22 {es = es} ds r) s t f = argument_layers ds (s + 2) t f ++ part r (s + 2 + count es) t (f + all_labels ds) ∷ own (K s) ∷ []
layers (v22_valof {n = n}) s t f = body n f ∷ []
layers (j1 d) s t f = part d s t f ∷ []
layers (j2 a b) s t f = part a (s + 1) t f ∷ part b (s + 1) t (f + labels a) ∷ []
layers (j3 a b) s t f = part a (s + 1) f (f + 1) ∷ part b (s + 1) t (f + 1 + labels a) ∷ own (label f) ∷ []
layers (j4 a b) s t f = part a (s + 1) t f ∷ part b (s + 1) t (f + labels a) ∷ []
layers (j5 a b) s t f = part a (s + 1) f (f + 1) ∷ part b (s + 1) t (f + 1 + labels a) ∷ own (label f) ∷ []
layers (j6 {sense = sense} h d) s t f = part d s t f ∷ own (jump_if sense t) ∷ []
layers (j7 {n = n} {sense = sense}) s t f = cond (jumps_at sense n) (own (J t) ∷ []) []
layers (j8 {sense = sense} h k c) s t f = part c (s + 1) t f ∷ own (jump_if (not sense) t) ∷ []
layers (j9 {sense = sense} h k c) s t f = part c (s + 1) t f ∷ own (jump_if sense t) ∷ []

-- the layers of a root's derivation
abbrev pub root_layers : {T : Table} {r : Root} → RootDerives T r → (t f : ℕ) → List (Layer T)
root_layers (value {s = s} d) t f = part d s t f ∷ []
root_layers (test {s = s} d) t f = part d s t f ∷ []
root_layers (a1 {s = s} {o = o} h v) t f = part v s t f ∷ own (S o) ∷ []
root_layers (a2 {s = s} h free a v) t f = part a (s + 1) t f ∷ own (SP s) ∷ part v (s + 1) t (f + labels a) ∷ own (SIP s) ∷ []
root_layers (a3 {s = s} h v a) t f = part v (s + 1) t f ∷ own (SP s) ∷ part a (s + 1) t (f + labels v) ∷ own (SP (s + 1)) ∷ own (LIP s) ∷ own (SIP (s + 1)) ∷ []

-- the code that layers make
abbrev pub code_of : {T : Table} → List (Layer T) → List Piece
code_of [] = []
code_of (own p ∷ ls) = p ∷ code_of ls
code_of (body n f ∷ ls) = Body n ∷ label f ∷ code_of ls
code_of (part d s t f ∷ ls) = code d s t f ++ code_of ls
