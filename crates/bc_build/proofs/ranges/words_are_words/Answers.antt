use Rattle.std.proofs.Common.{ℕ, ◌<◌, List, subst}
use Rattle.std.specs.Prelude.{All, slice_index}
use Rattle.std.proofs.lemmas.List.{take_all}
use Rattle.std.proofs.lemmas.List.Elements.{All-more}
use Rattle.bc_build.proofs.Small.{small_words}
use Rattle.bc_build.proofs.ranges.words_are_words.Goals as goal

pub loop-word-preserved : goal.loop-word-preserved
loop-word-preserved c =
    All-more (λ w. w < 65536) c.as_slice-all.result.now c.loop-word.word-index c.word-item.result c.loop-word-test.true c.loop-word.invariant (subst (λ w. w < 65536) c.word-item.is c.get-number.ensures.below)

pub returns : goal.returns
returns c =
    subst (λ (xs : List ℕ). (i : ℕ) → slice_index xs i < 65536) c.as_slice-all.ensures.words
    (small_words c.as_slice-all.result.now (subst (All (λ w. w < 65536)) (take_all c.loop-word.word-index c.as_slice-all.result.now c.loop-word-test.false) c.loop-word.invariant))
