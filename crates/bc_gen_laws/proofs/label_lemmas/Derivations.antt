-- The code of a derivation sets its own labels, each once.
use Rattle.std.proofs.Common.{◌≡◌, ap, ℕ, ◌+◌, List, ◌∷◌, arith}
use Rattle.bc_core.specs.Tree.{Exp, Root}
use Rattle.bc_rules_defs.specs.declared.rule.Table.{Table}
use Rattle.bc_rules_defs.specs.declared.rule.Aim.{Aim}
use Rattle.bc_rules_defs.specs.declared.piece.Piece.{Piece}
use Rattle.bc_rules_defs.specs.Rules.{Derives, RootDerives}
use Rattle.bc_rules_defs.specs.Code.{labels, code, root_labels, root_code}
use Rattle.bc_rules_defs.specs.Layers.{Layer, code_of}
use Rattle.bc_rules_defs.specs.Made.{Here, Own, number, Claim, Stand, done, piece, own_label, a_body, a_part, Made}
use Rattle.bc_rules_defs.proofs.Layers.{code_is, root_code_is}
use Rattle.bc_rules_defs.proofs.Made.{by_parts, root_stands}
use Rattle.bc_gen_laws.proofs.label_lemmas.Counts.{below, next_below, standing, standing_both}

-- the pieces set the labels from f to g - 1, each once, and no others
abbrev pub Standing : (f g : ℕ) → List Piece → Type 0
Standing f g ps = (k : ℕ) → standing k ps + below k f ≡ below k g

abbrev Each : (T : Table) → Claim T
Each T e aim d s t f = Standing f (f + labels d) (code d s t f)

no_label : {H : Here} {p : Piece} → Own H p → (n : ℕ) (ps : List Piece) → standing n (p ∷ ps) ≡ standing n ps
no_label (number h) n ps = omega arith
no_label o n ps = omega arith

-- k is the next own label, m that of a part
layers_standing : {T : Table} {H : Here} {k m : ℕ} {ls : List (Layer T)} → Stand (Each T) H k m ls → (n : ℕ) → standing n (code_of ls) + below n k + below n m ≡ below n H.parts + below n H.end
layers_standing (done h i) n = let a = ap (below n) h in let b = ap (below n) i in omega (arith, a, b)
layers_standing (piece {ls = ls} o h) n = let a = no_label o n (code_of ls) in let b = layers_standing h n in omega (arith, a, b)
layers_standing (own_label {k = k} h) n = let a = next_below n k in let b = layers_standing h n in omega (arith, a, b)
layers_standing (a_body {k = k} o h) n = let a = next_below n k in let b = layers_standing h n in omega (arith, a, b)
layers_standing (a_part {d = d} {u = u} {v = v} {m = m} {ls = ls} o a c h) n =
    let x = standing_both n (code d u v m) (code_of ls) in let y = c n in let b = layers_standing h n in omega (arith, x, y, b)

step : {T : Table} (e : Exp) (aim : Aim) (d : Derives T e aim) → ((s t f : ℕ) → Made (Each T) e aim d s t f) → (s t f : ℕ) → Each T e aim d s t f
step e aim d all s t f n = let h = all s t f in let a = layers_standing h.stand n in let b = ap (standing n) (code_is d s t f) in omega (arith, a, b)

pub code_standing : {T : Table} (e : Exp) (aim : Aim) (d : Derives T e aim) (s t f : ℕ) → Standing f (f + labels d) (code d s t f)
code_standing {T = T} e aim d s t f = by_parts (Each T) (λ e aim d all s t f. step e aim d all s t f) d s t f

pub root_standing : {T : Table} {r : Root} (d : RootDerives T r) (t f : ℕ) → Standing f (f + root_labels d) (root_code d t f)
root_standing {T = T} d t f n =
    let a = layers_standing (root_stands (Each T) code_standing d t f) n in let b = ap (standing n) (root_code_is d t f) in omega (arith, a, b)
