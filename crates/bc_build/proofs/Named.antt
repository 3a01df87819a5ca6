-- The bodies in the code of a derivation belong to VALOFs of its root.
use Rattle.std.proofs.Common.{ℕ, ◌≤◌, List, [], ◌∷◌, ◌++◌, sym, subst}
use Rattle.bc_text_items.specs.declared.item.Item.{Item}
use Rattle.bc_core.specs.Tree.{Exp, Args, Root}
use Rattle.bc_core.specs.Layout.{Bodies}
use Rattle.bc_rules_defs.specs.declared.rule.Table.{Table}
use Rattle.bc_rules_defs.specs.declared.rule.Aim.{Aim}
use Rattle.bc_rules_defs.specs.declared.piece.Piece.{Piece}
use Rattle.bc_rules_defs.specs.declared.piece.Piece.TheVariants as pieces
use Rattle.bc_rules_defs.specs.Rules.{Derives, RootDerives}
use Rattle.bc_rules_defs.specs.Code.{code, root_code}
use Rattle.bc_rules_defs.specs.Layers.{Layer, code_of}
use Rattle.bc_rules_defs.specs.Made.{Among, first, later, Within, itself, loaded, negated, inverted, left, right, condition, this, that, an_argument, routine, Side, the_value, the_test, assigned, address, Here, Own, number, Claim, Stand, done, piece, own_label, a_body, a_part, Made}
use Rattle.bc_rules_defs.proofs.Layers.{code_is, root_code_is}
use Rattle.bc_rules_defs.proofs.Made.{by_parts, root_stands}
use Rattle.bc_build.proofs.Frames.{most, Fits, AllFit, RootFits}

abbrev pub AllNamed : (ℕ → Type 0) → List Piece → Type 0
AllNamed P [] = Unit {0}
AllNamed P (pieces.Item i ∷ ps) = AllNamed P ps
AllNamed P (pieces.Body n ∷ ps) = P n × AllNamed P ps

-- a record, so that a call shows which pieces are meant
pub record Names (P : ℕ → Type 0) (ps : List Piece) : Type 0 where
  pub all : AllNamed P ps

following : (P : ℕ → Type 0) (ps qs : List Piece) → AllNamed P ps → AllNamed P qs → AllNamed P (ps ++ qs)
following P [] qs h k = k
following P (pieces.Item i ∷ ps) qs h k = following P ps qs h k
following P (pieces.Body n ∷ ps) qs h k = (h.0, following P ps qs h.1 k)

both : {P : ℕ → Type 0} {ps qs : List Piece} → Names P ps → Names P qs → Names P (ps ++ qs)
both {P = P} {ps = ps} {qs = qs} h k = record { all = following P ps qs h.all k.all }

nothing : {P : ℕ → Type 0} → Names P []
nothing = record { all = tt }

item : {P : ℕ → Type 0} {i : Item} {ps : List Piece} → Names P ps → Names P (pieces.Item i ∷ ps)
item h = record { all = h.all }

body : {P : ℕ → Type 0} {n : ℕ} {ps : List Piece} → P n → Names P ps → Names P (pieces.Body n ∷ ps)
body p h = record { all = (p, h.all) }

own_names : {P : ℕ → Type 0} {H : Here} {p : Piece} {ps : List Piece} → Own H p → Names P ps → Names P (p ∷ ps)
own_names (number h) i = item i
own_names o i = item i

argument_fits : (V : Bodies) {es : Args} {e : Exp} {s u : ℕ} → Among es s e u → AllFit V es s → Fits V e u
argument_fits V first h = h.0
argument_fits V (later o) h = argument_fits V o h.1

part_fits : (V : Bodies) {a e : Exp} {s u : ℕ} → Within a s e u → Fits V a s → Fits V e u
part_fits V itself h = h
part_fits V loaded h = h.1
part_fits V negated h = h.1
part_fits V inverted h = h.1
part_fits V left h = h.1
part_fits V right h = h.2
part_fits V condition h = h.1
part_fits V this h = h.2
part_fits V that h = h.3
part_fits V (an_argument o) h = argument_fits V o h.1
part_fits V routine h = h.2

side_fits : (V : Bodies) {r : Root} {e : Exp} {u : ℕ} → Side r e u → RootFits V r → Fits V e u
side_fits V the_value h = h
side_fits V the_test h = h
side_fits V (assigned {v = v} i) h = subst (λ k. Fits V v k) i h.0
side_fits V (address {a = a} i) h = subst (λ k. Fits V a k) i h.1

-- P is known of each VALOF that fits
module _ (V : Bodies) (P : ℕ → Type 0) (known : (n s : ℕ) → s ≤ most → V n s ≤ most → P n) where
  abbrev AreNamed : (T : Table) → Claim T
  AreNamed T e aim d s t f = Fits V e s → Names P (code d s t f)

  layers_name : {T : Table} {H : Here} {k m : ℕ} {ls : List (Layer T)} → ((e : Exp) (u : ℕ) → H.sees e u → Fits V e u) → Stand (AreNamed T) H k m ls → Names P (code_of ls)
  layers_name fits (done h i) = nothing
  layers_name fits (piece o h) = own_names o (layers_name fits h)
  layers_name fits (own_label h) = item (layers_name fits h)
  layers_name {H = H} fits (a_body {n = n} o h) = let k = fits _ _ o in body (known n H.level k.0 k.1) (item (layers_name fits h))
  layers_name fits (a_part {e = e} {u = u} o a c h) = both (c (fits e u o)) (layers_name fits h)

  step : {T : Table} (e : Exp) (aim : Aim) (d : Derives T e aim) → ((s t f : ℕ) → Made (AreNamed T) e aim d s t f) → (s t f : ℕ) → AreNamed T e aim d s t f
  step e aim d all s t f h = let made = all s t f in subst (Names P) (sym (code_is d s t f)) (layers_name (λ a u o. part_fits V o h) made.stand)

  names : {T : Table} (e : Exp) (aim : Aim) (d : Derives T e aim) (s t f : ℕ) → AreNamed T e aim d s t f
  names {T = T} e aim d s t f = by_parts (AreNamed T) (λ e aim d all s t f. step e aim d all s t f) d s t f

  pub root_names : {T : Table} {r : Root} (d : RootDerives T r) (t f : ℕ) → RootFits V r → Names P (root_code d t f)
  root_names {T = T} d t f h = subst (Names P) (sym (root_code_is d t f)) (layers_name (λ a u o. side_fits V o h) (root_stands (AreNamed T) names d t f))
