use Rattle.std.proofs.Common.{◌≡◌, ◌+◌, Some, None, map, drop, slice_get, slice_set, sym, ap, subst, ◌∙◌, arith}
use Rattle.bc_core.specs.Store.{Set}
use Rattle.bc_core.specs.View.{place_of}
use Rattle.bc_core.specs.Words.{data_words}
use Rattle.bc_interpret_store.specs.Cells.{cell_view}
use Rattle.bc_interpret.specs.Starting.{written}
use Rattle.bc_interpret.proofs.Starting.{word_left, word_more, words_done}
use Rattle.bc_interpret.proofs.start.put_place.Goals as goal

pub loop-word-smaller : goal.loop-word-smaller
loop-word-smaller c =
    let ws = data_words (place_of c.args.place.now) in
    let e : Some c.in-Some.word ≡ slice_get ws c.loop-word.index = cc (c.in_ok-word.ensures, c.in-Some.is) in
    omega (arith, word_left ws c.loop-word.index c.in-Some.word e, c.in_ok-index.ensures)

pub loop-word-preserved : goal.loop-word-preserved
loop-word-preserved c =
    let ws = data_words (place_of c.args.place.now) in
    let from = c.args.from in
    let w = c.in-Some.word in
    let now = map cell_view c.loop-word.cells.items in
    let new = map cell_view c.put.new.cells.items in
    let whole = written ws from (map cell_view c.args.cells.now.items) in
    let e : Some w ≡ slice_get ws c.loop-word.index = cc (c.in_ok-word.ensures, c.in-Some.is) in
    let put = c.put.ensures ∙ ap (λ a. slice_set now a (Set w)) c.address_within-address.ensures in
    subst (λ k. written (drop k ws) (from + k) new ≡ whole) (sym c.in_ok-index.ensures)
    (word_more ws c.loop-word.index from w now new whole e put c.loop-word.invariant)

pub returns : goal.returns
returns c =
    let ws = data_words (place_of c.args.place.now) in
    let e : None ≡ slice_get ws c.loop-word.index = sym c.in_default.is ∙ c.in_ok-word.ensures in
    words_done ws c.loop-word.index c.args.from _ _ e c.loop-word.invariant
