use Rattle.std.proofs.Common.{◌≡◌, ◌+◌, ◌*◌, ◌<◌, ◌∷◌, suc, length, Some, sym, ap, ◌∙◌, arith}
use Rattle.std.specs.Prelude.{slice_index}
use Rattle.bc_interpret.proofs.Starting.{packed_word}
use Rattle.bc_interpret.proofs.start.word_of_string.Goals as goal

pub returns : goal.returns
returns c =
    let at : c.from-at.result ≡ c.args.index = c.from-at.ensures in
    let xs = length c.args.bytes.now ∷ c.args.bytes.now in
    let l : 2 * c.args.index < suc (length c.args.bytes.now) = omega (arith, at, c.if-at-bytes.false) in
    ap Some (c.in_ok-word.ensures
    ∙ ((λ i. c.byte_of.ensures i * 256 + c.byte_of-2.ensures i)
    ∙ (λ i. slice_index xs (2 * at i) * 256 + slice_index xs (2 * at i + 1))))
    ∙ sym (packed_word xs c.args.index l)
