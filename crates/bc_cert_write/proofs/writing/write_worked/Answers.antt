use Rattle.std.proofs.Common.{arith}
use Rattle.bc_cert_write.proofs.Steps.{on_ok}
use Rattle.bc_cert_write.proofs.Taken.{written_more, front_of_header, front_so_far, front_of_entry, written_all, front_of_all}
use Rattle.bc_cert_write.proofs.Worked.{worked_at, as_many}
use Rattle.bc_cert_write.proofs.writing.write_worked.Goals as goal

pub returns-in_err-begin-clause-front : goal.returns-in_err-begin-clause-front
returns-in_err-begin-clause-front g c =
    let contents = g.W.Write.contents in
    λ ds all. front_of_header (contents c.args.out.now) (contents c.begin.new.out) (contents c.begin.new.out) c.args.entries.now ds all c.begin.ensures.front

pub returns-in_err-entry_text-clause-front : goal.returns-in_err-entry_text-clause-front
returns-in_err-entry_text-clause-front g c =
    let contents = g.W.Write.contents in
    λ ds all. front_so_far (contents c.args.out.now) (contents c.loop-i.out) (contents c.loop-i.out) c.args.entries.now ds all c.loop-i.i (c.loop-i.invariant ds all)

pub returns-in_err-last_line-clause-front : goal.returns-in_err-last_line-clause-front
returns-in_err-last_line-clause-front g c =
    let contents = g.W.Write.contents in
    λ ds all. front_so_far (contents c.args.out.now) (contents c.loop-i.out) (contents c.loop-i.out) c.args.entries.now ds all c.loop-i.i (c.loop-i.invariant ds all)

pub returns-in_err-put-clause-front : goal.returns-in_err-put-clause-front
returns-in_err-put-clause-front g c =
    let contents = g.W.Write.contents in
    λ ds all. front_of_entry (contents c.args.out.now) (contents c.loop-i.out) (contents c.put.new.out) c.args.entries.now ds all
    c.loop-i.i c.index-entries-i.result c.entry_text.new.text.bytes.items c.as_slice.result.now c.loop-i-test.true c.index-entries-i.is c.in_ok-entry_text.ensures c.as_slice.ensures
    (c.loop-i.invariant ds all) c.put.ensures.front

pub loop-i-preserved : goal.loop-i-preserved
loop-i-preserved g c =
    let contents = g.W.Write.contents in
    λ ds all. written_more (contents c.args.out.now) (contents c.loop-i.out) (contents c.put.new.out) c.args.entries.now ds all
    c.loop-i.i c.index-entries-i.result c.entry_text.new.text.bytes.items c.as_slice.result.now c.loop-i-test.true c.index-entries-i.is c.in_ok-entry_text.ensures c.as_slice.ensures
    (c.loop-i.invariant ds all) c.in_ok-put.ensures.written

pub returns-clause-written : goal.returns-clause-written
returns-clause-written g c =
    let contents = g.W.Write.contents in
    λ ds all. on_ok c.put-2.result (λ h.
    written_all (contents c.args.out.now) (contents c.loop-i.out) (contents c.put-2.new.out) c.args.entries.now ds all
    c.loop-i.i c.as_slice-2.result.now c.last_line.new.text.bytes.items c.loop-i-test.false c.as_slice-2.ensures c.in_ok-last_line.ensures (c.loop-i.invariant ds all) h) c.put-2.ensures.written

pub returns-clause-front : goal.returns-clause-front
returns-clause-front g c =
    let contents = g.W.Write.contents in
    λ ds all. front_of_all (contents c.args.out.now) (contents c.loop-i.out) (contents c.put-2.new.out) c.args.entries.now ds all
    c.loop-i.i c.as_slice-2.result.now c.last_line.new.text.bytes.items c.loop-i-test.false c.as_slice-2.ensures c.in_ok-last_line.ensures (c.loop-i.invariant ds all) c.put-2.ensures.front

pub entry_text-requires : goal.entry_text-requires
entry_text-requires g c = worked_at c.args.entries.now c.args.workings.now c.loop-i.i c.index-entries-i.result c.index-workings-i.result c.requires c.loop-i-test.true c.index-entries-i.is c.index-workings-i.is

pub bounds-workings-i : goal.bounds-workings-i
bounds-workings-i g c =
    let n = as_many c.args.entries.now c.args.workings.now c.requires in
    let t = c.loop-i-test.true in
    omega (arith, n, t)
