-- Each iteration cuts off one field.
use Rattle.std.proofs.Common.{sym, ◌∙◌, ap, subst, arith}
use Rattle.bc_cert_read.specs.Lines.{piece, Adds}
use Rattle.bc_cert_read.specs.View.{cut as seen_cut, slice}
use Rattle.bc_cert_read.proofs.Cuts.{pieces_none, pieces_last, pieces_more}
use Rattle.bc_cert_read.proofs.codes.pieces.Goals as goal

pub returns-then-not-branch : goal.returns-then-not-branch
returns-then-not-branch c = sym (pieces_none c.loop-turn.pieces.items c.add_piece.new.pieces.items c.loop-turn.rest.now (seen_cut c.cut.result) c.cut.ensures.exact (subst (λ t. Adds t (piece c.cut.result.0.now) c.loop-turn.pieces.items c.add_piece.new.pieces.items) c.if-not-branch.true (c.in_ok-add_piece.ensures {u = tt}))) ∙ c.loop-turn.invariant.same

pub returns-in-None : goal.returns-in-None
returns-in-None c = sym (pieces_last c.loop-turn.pieces.items c.add_piece.new.pieces.items c.loop-turn.rest.now (seen_cut c.cut.result) c.cut.ensures.exact (subst (λ t. Adds t (piece c.cut.result.0.now) c.loop-turn.pieces.items c.add_piece.new.pieces.items) c.if-not-branch.false (c.in_ok-add_piece.ensures {u = tt})) (ap slice c.in-None.is)) ∙ c.loop-turn.invariant.same

pub loop-turn-preserved : goal.loop-turn-preserved
loop-turn-preserved c =
    let shorter = rw c.in-Some.is at c.cut.ensures.shorter in
    record {
      same = sym (pieces_more c.loop-turn.pieces.items c.add_piece.new.pieces.items c.loop-turn.rest.now (seen_cut c.cut.result) c.in-Some.following.now c.cut.ensures.exact (subst (λ t. Adds t (piece c.cut.result.0.now) c.loop-turn.pieces.items c.add_piece.new.pieces.items) c.if-not-branch.false (c.in_ok-add_piece.ensures {u = tt})) (ap slice c.in-Some.is)) ∙ c.loop-turn.invariant.same;
      shorter = omega (arith, shorter, c.loop-turn.invariant.shorter);
    }
