-- The code of derivations consists of operations, labels and bodies. It has no bytes and no data, and sets no global.
use Rattle.std.proofs.Common.{ℕ, List, [], ◌∷◌, ◌++◌, sym, subst}
use Rattle.bc_text_items.specs.declared.item.Item.TheVariants as items
use Rattle.bc_core.specs.Tree.{Exp, Root}
use Rattle.bc_rules_defs.specs.declared.rule.Table.{Table}
use Rattle.bc_rules_defs.specs.declared.rule.Aim.{Aim}
use Rattle.bc_rules_defs.specs.declared.piece.Piece.{Piece}
use Rattle.bc_rules_defs.specs.declared.piece.Piece.TheVariants.{Item, Body}
use Rattle.bc_rules_defs.specs.Rules.{Derives, RootDerives}
use Rattle.bc_rules_defs.specs.Code.{code, root_code}
use Rattle.bc_rules_defs.specs.Layers.{Layer, code_of}
use Rattle.bc_rules_defs.specs.Made.{Here, Own, number, Claim, Stand, done, piece, own_label, a_body, a_part, Made}
use Rattle.bc_rules_defs.proofs.Layers.{code_is, root_code_is}
use Rattle.bc_rules_defs.proofs.Made.{by_parts, root_stands}

abbrev pub IsPlain : Piece → Type 0
IsPlain (Item (items.Operation f i b n)) = Unit {0}
IsPlain (Item (items.Label n)) = Unit {0}
IsPlain (Item i) = ⊥
IsPlain (Body n) = Unit {0}

abbrev pub ArePlain : List Piece → Type 0
ArePlain [] = Unit {0}
ArePlain (p ∷ ps) = IsPlain p × ArePlain ps

both : (xs ys : List Piece) → ArePlain xs → ArePlain ys → ArePlain (xs ++ ys)
both [] ys h i = i
both (x ∷ xs) ys h i = (h.0, both xs ys h.1 i)

own_plain : {H : Here} {p : Piece} → Own H p → IsPlain p
own_plain (number h) = tt
own_plain o = tt

abbrev Plain : (T : Table) → Claim T
Plain T e aim d s t f = ArePlain (code d s t f)

layers_plain : {T : Table} {H : Here} {k m : ℕ} {ls : List (Layer T)} → Stand (Plain T) H k m ls → ArePlain (code_of ls)
layers_plain (done h i) = tt
layers_plain (piece o h) = (own_plain o, layers_plain h)
layers_plain (own_label h) = (tt, layers_plain h)
layers_plain (a_body o h) = (tt, (tt, layers_plain h))
layers_plain (a_part {d = d} {u = u} {v = v} {m = m} {ls = ls} o a c h) = both (code d u v m) (code_of ls) c (layers_plain h)

step : {T : Table} (e : Exp) (aim : Aim) (d : Derives T e aim) → ((s t f : ℕ) → Made (Plain T) e aim d s t f) → (s t f : ℕ) → Plain T e aim d s t f
step e aim d all s t f = let h = all s t f in subst ArePlain (sym (code_is d s t f)) (layers_plain h.stand)

pub code_plain : {T : Table} (e : Exp) (aim : Aim) (d : Derives T e aim) (s t f : ℕ) → ArePlain (code d s t f)
code_plain {T = T} e aim d s t f = by_parts (Plain T) (λ e aim d all s t f. step e aim d all s t f) d s t f

pub root_plain : {T : Table} {r : Root} (d : RootDerives T r) (t f : ℕ) → ArePlain (root_code d t f)
root_plain {T = T} d t f = subst ArePlain (sym (root_code_is d t f)) (layers_plain (root_stands (Plain T) code_plain d t f))
