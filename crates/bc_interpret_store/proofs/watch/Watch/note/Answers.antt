use Rattle.std.proofs.Common.{rules, IsTrue}
use Rattle.bc_interpret_store.proofs.Watching.{but_more}
use Rattle.bc_interpret_store.proofs.watch.Watch.note.Goals as goal

pub returns : goal.returns
returns c = λ before after f d t.
    let whole : IsTrue c.args.self.now.is_whole = search rules in
    but_more _ _ _ _ before after (c.append-self.ensures t) (f whole) d
