-- The operations of the store on lists of cells.
use Rattle.std.proofs.Common.{◌≡◌, ℕ, zero, suc, ◌+◌, ◌≤◌, ◌<◌, List, [], ◌∷◌, ◌++◌, length, reverse, slice_index_or, slice_set, map, refl, sym, ap, subst, ◌∙◌, arith}
use Rattle.std.proofs.Math.ListN.{get_or-map}
use Rattle.std.proofs.Math.Seq.{set_out}
use Rattle.std.proofs.lemmas.List.{map-set, reverse-append, length-map}
use Rattle.bc_core.specs.Store as store
use Rattle.bc_core.specs.Store.{cell_at, filled}
use Rattle.bc_core.specs.Meaning.{passed}
use Rattle.bc_interpret_store.specs.declared.cell.Cell.{Cell}
use Rattle.bc_interpret_store.specs.declared.cell.Cell.TheVariants.{Dead}
use Rattle.bc_interpret_store.specs.Cells.{cell_view, IsNext}

pub cell_seen : (cells : List Cell) (a : ℕ) → cell_at (map cell_view cells) a ≡ cell_view (slice_index_or cells a Dead)
cell_seen cells a = get_or-map cell_view cells a Dead

pub cell_put : (cells : List Cell) (a : ℕ) (c : Cell) → map cell_view (slice_set cells a c) ≡ slice_set (map cell_view cells) a (cell_view c)
cell_put cells a c = map-set cell_view cells a c

-- writing past the last cell changes nothing
pub put_beyond : (cells : List store.Cell) (a : ℕ) (c : store.Cell) → length cells ≤ a → slice_set cells a c ≡ cells
put_beyond cells a c h = set_out cells a c h

pub filled_beyond : (n a : ℕ) (c : store.Cell) (cells : List store.Cell) → length cells ≤ a → filled n a c cells ≡ cells
filled_beyond zero a c cells h = refl
filled_beyond (suc n) a c cells h =
    ap (filled n (a + 1) c) (put_beyond cells a c h) ∙ filled_beyond n (a + 1) c cells (omega arith)

pub passed_beyond : (n a : ℕ) (vs : List ℕ) (cells : List store.Cell) → length cells ≤ a → passed n a vs cells ≡ cells
passed_beyond zero a vs cells h = refl
passed_beyond (suc n) a [] cells h =
    ap (passed n (a + 1) []) (put_beyond cells a store.Unset h) ∙ passed_beyond n (a + 1) [] cells (omega arith)
passed_beyond (suc n) a (v ∷ vs) cells h =
    ap (passed n (a + 1) vs) (put_beyond cells a (store.Set v) h) ∙ passed_beyond n (a + 1) vs cells (omega arith)

-- the same of the cells of the code
pub beyond : (cells : List Cell) (a : ℕ) (c : store.Cell) → length cells ≤ a → slice_set (map cell_view cells) a c ≡ map cell_view cells
beyond cells a c h = put_beyond (map cell_view cells) a c (omega (arith, length-map cells cell_view))

reversed_last : (vs : List ℕ) (v : ℕ) → reverse (vs ++ v ∷ []) ≡ v ∷ reverse vs
reversed_last vs v = reverse-append vs (v ∷ [])

pub passed_last : (old new : List ℕ) (v : ℕ) → old ≡ new ++ v ∷ [] → IsNext old (store.Set v) new
passed_last old new v e n a cells =
    ap (λ vs. passed (suc n) a vs cells) (ap reverse e ∙ reversed_last new v)

pub passed_none : (old new : List ℕ) → old ≡ [] → new ≡ [] → IsNext old store.Unset new
passed_none old new e f n a cells =
    ap (λ vs. passed (suc n) a (reverse vs) cells) e ∙ sym (ap (λ vs. passed n (a + 1) (reverse vs) (slice_set cells a store.Unset)) f)

pub as_many : (cells : List Cell) → length (map cell_view cells) ≡ length cells
as_many cells = length-map cells cell_view
