use Rattle.bc_cert_write.proofs.Steps.{on_ok}
use Rattle.bc_cert_write.proofs.Taken.{written_more, front_of_header, front_so_far, front_of_entry, written_all, front_of_all}
use Rattle.bc_cert_write.proofs.writing.write_cert.Goals as goal

pub returns-in_err-begin-clause-front : goal.returns-in_err-begin-clause-front
returns-in_err-begin-clause-front g c =
    let contents = g.W.Write.contents in
    λ ds all. front_of_header (contents c.args.out.now) (contents c.begin.new.out) (contents c.begin.new.out) c.args.entries.now ds all c.begin.ensures.front

pub returns-in_err-workings-clause-front : goal.returns-in_err-workings-clause-front
returns-in_err-workings-clause-front g c =
    let contents = g.W.Write.contents in
    λ ds all. front_so_far (contents c.args.out.now) (contents c.loop-entry.out) (contents c.loop-entry.out) c.args.entries.now ds all c.loop-entry.entry-index (c.loop-entry.invariant ds all)

pub returns-in_err-entry_text-clause-front : goal.returns-in_err-entry_text-clause-front
returns-in_err-entry_text-clause-front g c =
    let contents = g.W.Write.contents in
    λ ds all. front_so_far (contents c.args.out.now) (contents c.loop-entry.out) (contents c.loop-entry.out) c.args.entries.now ds all c.loop-entry.entry-index (c.loop-entry.invariant ds all)

pub returns-in_err-last_line-clause-front : goal.returns-in_err-last_line-clause-front
returns-in_err-last_line-clause-front g c =
    let contents = g.W.Write.contents in
    λ ds all. front_so_far (contents c.args.out.now) (contents c.loop-entry.out) (contents c.loop-entry.out) c.args.entries.now ds all c.loop-entry.entry-index (c.loop-entry.invariant ds all)

pub returns-in_err-put-clause-front : goal.returns-in_err-put-clause-front
returns-in_err-put-clause-front g c =
    let contents = g.W.Write.contents in
    λ ds all. front_of_entry (contents c.args.out.now) (contents c.loop-entry.out) (contents c.put.new.out) c.args.entries.now ds all
    c.loop-entry.entry-index c.entry-item.result c.entry_text.new.text.bytes.items c.as_slice.result.now c.loop-entry-test.true c.entry-item.is c.in_ok-entry_text.ensures c.as_slice.ensures
    (c.loop-entry.invariant ds all) c.put.ensures.front

pub loop-entry-preserved : goal.loop-entry-preserved
loop-entry-preserved g c =
    let contents = g.W.Write.contents in
    λ ds all. written_more (contents c.args.out.now) (contents c.loop-entry.out) (contents c.put.new.out) c.args.entries.now ds all
    c.loop-entry.entry-index c.entry-item.result c.entry_text.new.text.bytes.items c.as_slice.result.now c.loop-entry-test.true c.entry-item.is c.in_ok-entry_text.ensures c.as_slice.ensures
    (c.loop-entry.invariant ds all) c.in_ok-put.ensures.written

pub returns-clause-written : goal.returns-clause-written
returns-clause-written g c =
    let contents = g.W.Write.contents in
    λ ds all. on_ok c.put-2.result (λ h.
    written_all (contents c.args.out.now) (contents c.loop-entry.out) (contents c.put-2.new.out) c.args.entries.now ds all
    c.loop-entry.entry-index c.as_slice-2.result.now c.last_line.new.text.bytes.items c.loop-entry-test.false c.as_slice-2.ensures c.in_ok-last_line.ensures (c.loop-entry.invariant ds all) h) c.put-2.ensures.written

pub returns-clause-front : goal.returns-clause-front
returns-clause-front g c =
    let contents = g.W.Write.contents in
    λ ds all. front_of_all (contents c.args.out.now) (contents c.loop-entry.out) (contents c.put-2.new.out) c.args.entries.now ds all
    c.loop-entry.entry-index c.as_slice-2.result.now c.last_line.new.text.bytes.items c.loop-entry-test.false c.as_slice-2.ensures c.in_ok-last_line.ensures (c.loop-entry.invariant ds all) c.put-2.ensures.front
