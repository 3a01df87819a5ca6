-- The workings of the i-th entry, from those of all entries.
use Rattle.std.proofs.Common.{◌≡◌, ℕ, zero, suc, ◌<◌, List, [], ◌∷◌, length, get_or, map, refl, ap, sym, subst, arith}
use Rattle.std.specs.List.{AllZip}
use Rattle.bc_rules_defs.specs.declared.entry.Entry as code
use Rattle.bc_rules_defs.specs.View.{entry}
use Rattle.bc_cert_write.specs.Workings.{WorkedOut}
use Rattle.bc_cert_write.specs.declared.workings.Workings.{Workings}

pub worked_at : (es : List code.Entry) (ws : List Workings) (i : ℕ) (e : code.Entry) (w : Workings) → AllZip WorkedOut (map entry es) ws → i < length es
    → e ≡ get_or es i e → w ≡ get_or ws i w → WorkedOut (entry e) w
worked_at [] ws i e w h k p q = absurd (omega arith)
worked_at (x ∷ xs) [] i e w h k p q = absurd h
worked_at (x ∷ xs) (y ∷ ys) zero e w h k p q = subst (λ v. WorkedOut (entry e) v) (sym q) (subst (λ d. WorkedOut (entry d) y) (sym p) h.0)
worked_at (x ∷ xs) (y ∷ ys) (suc i) e w h k p q = worked_at xs ys i e w h.1 (omega arith) p q

pub as_many : (es : List code.Entry) (ws : List Workings) → AllZip WorkedOut (map entry es) ws → length es ≡ length ws
as_many [] [] h = refl
as_many [] (y ∷ ys) h = absurd h
as_many (x ∷ xs) [] h = absurd h
as_many (x ∷ xs) (y ∷ ys) h = ap suc (as_many xs ys h.1)
