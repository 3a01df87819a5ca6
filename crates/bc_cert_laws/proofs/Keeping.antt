-- A stack whose trees are true: cut at an index, and with one more tree.
use Rattle.std.proofs.Common.{◌≡◌, ℕ, zero, suc, List, [], ◌∷◌, ◌++◌, length, take, drop, refl, ap}
use Rattle.bc_core.specs.Tree.{Exp}
use Rattle.bc_rules_defs.specs.declared.rule.Table.{Table}
use Rattle.bc_rules_defs.specs.Rules.{Tree}
use Rattle.bc_cert_read.specs.declared.facts.Facts.{Facts}
use Rattle.bc_cert_read.specs.declared.mark.TreeFacts.{TreeFacts}
use Rattle.bc_cert_read.specs.Stacks.{Stack}
use Rattle.bc_cert_laws.specs.Faults.{Grown}
use Rattle.bc_cert_laws.specs.Standing.{Stands, AllStand}

-- the trees that are kept mean these
abbrev pub StackStands : Table → List Grown → Stack → Type 0
StackStands T ts x = AllStand T ts x.marks x.facts x.expressions x.derivations

-- the same, from the first one on
pub data Kept (T : Table) : List Grown → List TreeFacts → List Facts → List Exp → List Tree → Type 0 where
  nothing : Kept T [] [] [] [] []
  further : {t : Grown} {m : TreeFacts} {f : Facts} {e : Exp} {x : Tree} {ts : List Grown} {ms : List TreeFacts} {fs : List Facts} {es : List Exp} {xs : List Tree} → Stands T t m f e x → Kept T ts ms fs es xs → Kept T (t ∷ ts) (m ∷ ms) (f ∷ fs) (e ∷ es) (x ∷ xs)

pub kept : (T : Table) (ts : List Grown) (ms : List TreeFacts) (fs : List Facts) (es : List Exp) (xs : List Tree) → AllStand T ts ms fs es xs → Kept T ts ms fs es xs
kept T [] [] [] [] [] h = nothing
kept T [] [] [] [] (x ∷ xs) h = absurd h
kept T [] [] [] (e ∷ es) xs h = absurd h
kept T [] [] (f ∷ fs) es xs h = absurd h
kept T [] (m ∷ ms) fs es xs h = absurd h
kept T (t ∷ ts) [] fs es xs h = absurd h
kept T (t ∷ ts) (m ∷ ms) [] es xs h = absurd h
kept T (t ∷ ts) (m ∷ ms) (f ∷ fs) [] xs h = absurd h
kept T (t ∷ ts) (m ∷ ms) (f ∷ fs) (e ∷ es) [] h = absurd h
kept T (t ∷ ts) (m ∷ ms) (f ∷ fs) (e ∷ es) (x ∷ xs) h = further h.0 (kept T ts ms fs es xs h.1)

pub all_stand : {T : Table} {ts : List Grown} {ms : List TreeFacts} {fs : List Facts} {es : List Exp} {xs : List Tree} → Kept T ts ms fs es xs → AllStand T ts ms fs es xs
all_stand nothing = tt
all_stand (further a rest) = (a, all_stand rest)

pub kept_front : {T : Table} {ts : List Grown} {ms : List TreeFacts} {fs : List Facts} {es : List Exp} {xs : List Tree} (n : ℕ) → Kept T ts ms fs es xs → Kept T (take n ts) (take n ms) (take n fs) (take n es) (take n xs)
kept_front zero h = nothing
kept_front (suc n) nothing = nothing
kept_front (suc n) (further a rest) = further a (kept_front n rest)

pub kept_after : {T : Table} {ts : List Grown} {ms : List TreeFacts} {fs : List Facts} {es : List Exp} {xs : List Tree} (n : ℕ) → Kept T ts ms fs es xs → Kept T (drop n ts) (drop n ms) (drop n fs) (drop n es) (drop n xs)
kept_after zero h = h
kept_after (suc n) nothing = nothing
kept_after (suc n) (further a rest) = kept_after n rest

pub kept_more : {T : Table} {ts : List Grown} {ms : List TreeFacts} {fs : List Facts} {es : List Exp} {xs : List Tree} {t : Grown} {m : TreeFacts} {f : Facts} {e : Exp} {x : Tree} → Kept T ts ms fs es xs → Stands T t m f e x
    → Kept T (ts ++ t ∷ []) (ms ++ m ∷ []) (fs ++ f ∷ []) (es ++ e ∷ []) (xs ++ x ∷ [])
kept_more nothing b = further b nothing
kept_more (further a rest) b = further a (kept_more rest b)

-- as many expressions and trees as facts
pub kept_lengths : {T : Table} {ts : List Grown} {ms : List TreeFacts} {fs : List Facts} {es : List Exp} {xs : List Tree} → Kept T ts ms fs es xs → (length es ≡ length fs) × (length ts ≡ length fs)
kept_lengths nothing = (refl, refl)
kept_lengths (further a rest) = let h = kept_lengths rest in (ap suc h.0, ap suc h.1)
