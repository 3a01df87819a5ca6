-- Lemmas on a log that grows as cells change.
use Rattle.std.proofs.Common.{◌≡◌, ℕ, List, [], ◌∷◌, ◌++◌, get_or, slice_set, refl, sym, subst, ◌∙◌}
use Rattle.std.proofs.lemmas.List.{get_or-set_other}
use Rattle.bc_interpret_store.specs.declared.cell.Cell.{Cell}
use Rattle.bc_interpret_store.specs.declared.cell.Cell.TheVariants.{Dead}
use Rattle.bc_interpret_store.specs.Recorded.{Misses, Agrees, AgreesBut, Differs}

pub misses_first : (a : ℕ) (log more : List ℕ) → Misses a (log ++ more) → Misses a log
misses_first a [] more m = tt
misses_first a (b ∷ log) more m = (m.0, misses_first a log more m.1)

pub misses_last : (a : ℕ) (log more : List ℕ) → Misses a (log ++ more) → Misses a more
misses_last a [] more m = m
misses_last a (b ∷ log) more m = misses_last a log more m.1

-- the log grows by the address whose cell changes
pub but_more : (address : ℕ) (log new : List ℕ) (now before after : List Cell) → new ≡ log ++ address ∷ [] → AgreesBut log now before → Differs address before after
    → AgreesBut new now after
but_more address log new now before after e g d =
    let P : List ℕ → Type 0 = λ l. AgreesBut l now after in
    subst P (sym e) (record {
      each = λ a m l k. g.each a (misses_first a log (address ∷ []) m) l k ∙ sym (d a (misses_last a log (address ∷ []) m).0);
    })

pub put_differs : (cells : List Cell) (address : ℕ) (cell : Cell) → Differs address cells (slice_set cells address cell)
put_differs cells address cell = λ a n. get_or-set_other cells address a cell Dead n

-- the cells of the past are those of the store
pub but_same : (log : List ℕ) (now cells : List Cell) → now ≡ cells → AgreesBut log now cells
but_same log now cells e = record { each = λ a m l k. subst (λ (s : List Cell). get_or now a Dead ≡ get_or s a Dead) e refl }

pub but_agrees : (log : List ℕ) (now cells : List Cell) → Agrees 65536 now cells → AgreesBut log now cells
but_agrees log now cells g = record { each = λ a m l k. g.each a k l }
