use Rattle.std.proofs.Common.{◌≡◌, sym, true, false, arith}
use Rattle.std.proofs.lemmas.Grind.{common_steps}
use Rattle.bc_convert.specs.Confined.{is_confined}
use Rattle.bc_convert.proofs.Confining.{skips_again}
use Rattle.bc_convert.proofs.confined.confine.Goals as goal

pub loop-candidate-preserved-in-Continue-1 : goal.loop-candidate-preserved-in-Continue-1
loop-candidate-preserved-in-Continue-1 c =
    let yes : is_confined c.args.tokens.now c.in-Some.candidate ≡ true = rw c.skipped_from-rest.ensures at (sym c.if-second_begins.ensures) in
    record {
      skips = λ to le. rw c.skipped_from-rest.ensures (skips_again c.in-Some.candidate.start to c.args.tokens.now le);
      kept = grind (arith, common_steps, yes);
    }

pub loop-candidate-preserved : goal.loop-candidate-preserved
loop-candidate-preserved c =
    let no : is_confined c.args.tokens.now c.in-Some.candidate ≡ false = rw c.skipped_from-rest.ensures at (sym c.if-second_begins.ensures) in
    record {
      skips = λ to le. rw c.skipped_from-rest.ensures (skips_again c.in-Some.candidate.start to c.args.tokens.now le);
      kept = grind (arith, common_steps, no);
    }
