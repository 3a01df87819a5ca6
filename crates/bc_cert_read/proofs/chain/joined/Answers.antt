-- Each iteration cuts off one field.
use Rattle.std.proofs.Common.{sym, ◌∙◌, ap, Some, arith}
use Rattle.bc_cert_read.specs.Fields.{fields}
use Rattle.bc_cert_read.specs.Chains.{names_from, ended}
use Rattle.bc_cert_read.specs.View.{cut as seen_cut, slice}
use Rattle.bc_cert_read.proofs.Cuts.{names_none, names_last, names_more}
use Rattle.bc_cert_read.proofs.chain.joined.Goals as goal

pub returns-in-None : goal.returns-in-None
returns-in-None c = sym (names_none c.loop-turn.names c.loop-turn.rest.now (seen_cut c.cut.result) c.cut.ensures.exact (sym c.named.ensures ∙ c.in-None.is)) ∙ c.loop-turn.invariant.same

pub returns-in-None-following : goal.returns-in-None-following
returns-in-None-following c =
    ap Some (c.ended.ensures ∙ ap ended c.longer-names.ensures)
    ∙ sym (names_last c.loop-turn.names c.loop-turn.rest.now (seen_cut c.cut.result) c.in-Some.rule c.cut.ensures.exact (sym c.named.ensures ∙ c.in-Some.is) (ap slice c.in-None-following.is))
    ∙ c.loop-turn.invariant.same

pub loop-turn-preserved : goal.loop-turn-preserved
loop-turn-preserved c =
    let shorter = rw c.in-Some-following.is at c.cut.ensures.shorter in
    record {
      same =
          ap (λ n. names_from n (fields 46 c.in-Some-following.following.now)) c.longer-names.ensures
          ∙ sym (names_more c.loop-turn.names c.loop-turn.rest.now (seen_cut c.cut.result) c.in-Some.rule c.in-Some-following.following.now c.cut.ensures.exact (sym c.named.ensures ∙ c.in-Some.is) (ap slice c.in-Some-following.is))
          ∙ c.loop-turn.invariant.same;
      shorter = omega (arith, shorter, c.loop-turn.invariant.shorter);
    }
