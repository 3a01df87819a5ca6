use Rattle.std.proofs.Common.{arith, ap, ◌∙◌, length-set}
use Rattle.bc_machine_defs.specs.StreamCalls.{find_stream}
use Rattle.bc_machine_defs.specs.Text.{bytes_from}
use Rattle.bc_machine.proofs.Copied.{copied_more, copied_all}
use Rattle.bc_machine.proofs.store.find_named.Goals as goal

pub loop-k-preserved : goal.loop-k-preserved
loop-k-preserved g c = record {
  copied = copied_more c.loop-k.name c.byte_at-length.result c.loop-k.k c.args.address c.byte_at.result c.args.store.now _ (omega arith) (omega arith) c.byte_at.ensures c.loop-k.invariant.copied;
  long = omega (arith, length-set c.loop-k.name c.loop-k.k c.byte_at.result);
}

pub returns : goal.returns
returns g c = λ known.
    let same = copied_all c.loop-k.name c.byte_at-length.result c.loop-k.k c.args.address c.args.store.now _ (omega arith) (omega arith) c.loop-k.invariant.copied in
    c.get.ensures.same
    ∙ c.find.ensures known
    ∙ ap (λ name. find_stream c.args.side name (g.S.Streams.content c.args.streams.now)) same
    ∙ ap (λ n. find_stream c.args.side (bytes_from n 1 c.args.address c.args.store.now) (g.S.Streams.content c.args.streams.now)) c.byte_at-length.ensures
