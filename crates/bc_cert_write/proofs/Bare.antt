-- Nodes that show no rule, form by form: those of the expression's parts, followed by its own.
use Rattle.std.proofs.Common.{◌≡◌, ℕ, ◌+◌, ◌-◌, List, [], ◌∷◌, ◌++◌, map, take, length, length-append, refl, ap, ◌∙◌, arith}
use Rattle.std.proofs.lemmas.List.{length-map, map-append}
use Rattle.std.proofs.Math.Seq.{take-append_seam}
use Rattle.bc_core.specs.Tree.{Exp, Num, Frame, Glob, Place, Load, Neg, Not, Bin, Cond, Call, Valof, Args, no_argument, argument, count}
use Rattle.bc_core.specs.WellFormed.{nodes}
use Rattle.bc_select_defs.specs.Nodes.{in_order, all_in_order}
use Rattle.bc_cert_write.specs.Shown.{Shown, ended, bare, below_bare}
use Rattle.bc_cert_write.proofs.Counted.{length_in_order}

abbrev pub all_bare : Args → ℕ → List Shown
all_bare no_argument s = []
all_bare (argument e es) s = bare e s ++ all_bare es (s + 1)

abbrev pub bare_parts : Exp → ℕ → List Shown
bare_parts (Load e) s = bare e s
bare_parts (Neg e) s = bare e s
bare_parts (Not e) s = bare e s
bare_parts (Bin op a b) s = bare a (s + 1) ++ bare b (s + 1)
bare_parts (Cond c x y) s = (bare c s ++ bare x s) ++ bare y s
bare_parts (Call es f) s = all_bare es (s + 2) ++ bare f (s + 2 + count es)
bare_parts _ s = []

abbrev no_rule : Exp × ℕ → Shown
no_rule n = record { expression = n.0; level = n.1; rules = [] }

all_is : (es : Args) (s : ℕ) → map no_rule (all_in_order es s) ≡ all_bare es s
all_is no_argument s = refl
all_is (argument e es) s = map-append no_rule (in_order e s) (all_in_order es (s + 1)) ∙ ap (λ l. bare e s ++ l) (all_is es (s + 1))

pub bare_is : (e : Exp) (s : ℕ) → bare e s ≡ ended (bare_parts e s) e s []
bare_is (Num n) s = refl
bare_is (Frame k) s = refl
bare_is (Glob n) s = refl
bare_is (Place m) s = refl
bare_is (Valof n) s = refl
bare_is (Load e) s = map-append no_rule (in_order e s) ((Load e, s) ∷ [])
bare_is (Neg e) s = map-append no_rule (in_order e s) ((Neg e, s) ∷ [])
bare_is (Not e) s = map-append no_rule (in_order e s) ((Not e, s) ∷ [])
bare_is (Bin op a b) s =
    map-append no_rule (in_order a (s + 1) ++ in_order b (s + 1)) ((Bin op a b, s) ∷ [])
    ∙ ap (λ l. ended l (Bin op a b) s []) (map-append no_rule (in_order a (s + 1)) (in_order b (s + 1)))
bare_is (Cond c x y) s =
    map-append no_rule ((in_order c s ++ in_order x s) ++ in_order y s) ((Cond c x y, s) ∷ [])
    ∙ ap (λ l. ended l (Cond c x y) s []) (map-append no_rule (in_order c s ++ in_order x s) (in_order y s))
    ∙ ap (λ l. ended (l ++ bare y s) (Cond c x y) s []) (map-append no_rule (in_order c s) (in_order x s))
bare_is (Call es f) s =
    let at = s + 2 + count es in
    map-append no_rule (all_in_order es (s + 2) ++ in_order f at) ((Call es f, s) ∷ [])
    ∙ ap (λ l. ended l (Call es f) s []) (map-append no_rule (all_in_order es (s + 2)) (in_order f at))
    ∙ ap (λ l. ended (l ++ bare f at) (Call es f) s []) (all_is es (s + 2))

how_many : (e : Exp) (s : ℕ) → nodes e - 1 ≡ length (bare_parts e s)
how_many e s =
    omega (
      arith,
      ap length (bare_is e s),
      length-append (bare_parts e s) (no_rule (e, s) ∷ []),
      length-map (in_order e s) no_rule,
      length_in_order e s,
    )

pub below_is : (e : Exp) (s : ℕ) → below_bare e s ≡ bare_parts e s
below_is e s =
    ap (take (nodes e - 1)) (bare_is e s)
    ∙ ap (λ n. take n (ended (bare_parts e s) e s [])) (how_many e s)
    ∙ take-append_seam (bare_parts e s) (no_rule (e, s) ∷ [])
