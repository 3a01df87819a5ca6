use Rattle.std.proofs.Common.{◌≡◌, sym, ℕ, suc, ◌+◌, ◌<◌, Bool, false, List, ◌∷◌, length, get_or, drop, drop-cons, add-one}
use Rattle.bc_convert.specs.Plain.{begins_sign, has_sign}
use Rattle.bc_convert.proofs.plain.has_sign.Goals as goal

sign_later : (at : ℕ) (text : List ℕ) (found : Bool) → at < length text → begins_sign (drop at text) ≡ false → has_sign (drop at text) ≡ found → has_sign (drop (at + 1) text) ≡ found
sign_later at text found h none e =
    let cut = drop-cons text at 0 h in
    let none' : begins_sign (get_or text at 0 ∷ drop (suc at) text) ≡ false = rw cut at none in
    rw add-one (rw none' at (rw cut at e))

pub loop-at-preserved : goal.loop-at-preserved
loop-at-preserved c =
    sign_later c.loop-at.at c.args.text.now (has_sign c.args.text.now) c.loop-at-test.true (rw c.following.ensures.rest at (sym c.if-begins_sign.ensures)) c.loop-at.invariant
