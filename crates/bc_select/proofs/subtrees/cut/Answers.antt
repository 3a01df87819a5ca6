use Rattle.std.proofs.Common.{◌≡◌, ◌+◌, ◌++◌, ◌∷◌, [], length, take, drop, ap, sym, ◌∙◌, arith, append_assoc, length-append}
use Rattle.bc_core.specs.WellFormed.{nodes}
use Rattle.bc_select.specs.Vector.{node, before, vector}
use Rattle.bc_select.proofs.Cuts.{vector_length, take_front, drop_front}
use Rattle.bc_select.proofs.subtrees.cut.Goals as goal

pub returns : goal.returns
returns c = λ xs e s h.
    let k : c.last_count-count.result ≡ nodes e = c.last_count-count.ensures (xs ++ before e s) (node e s) (h ∙ sym (append_assoc xs (before e s) (node e s ∷ []))) in
    let l : length c.args.nodes.now ≡ length xs + nodes e = ap length h ∙ length-append xs (vector e s) ∙ ap (λ n. length xs + n) (vector_length e s) in
    let i = c.len.ensures in
    let m : c.saturating_sub.result ≡ length xs = omega arith in
    record {
      first_is = c.split_at.ensures.front ∙ ap (take c.saturating_sub.result) h ∙ take_front xs (vector e s) c.saturating_sub.result m;
      second_is = c.split_at.ensures.back ∙ ap (drop c.saturating_sub.result) h ∙ drop_front xs (vector e s) c.saturating_sub.result m;
    }
