use Rattle.std.proofs.Common.{ap}
use Rattle.bc_interpret.specs.declared.run.Run.{Run}
use Rattle.bc_interpret_steps.specs.Passing.{work_next}
use Rattle.bc_interpret.specs.Moving.{next_of}
use Rattle.bc_interpret.proofs.Moving.{step_is, on_advances, over_advances, served_advances, ran_answered, ran_ended, ran_going, ran_wild, ran_met}
use Rattle.bc_interpret.proofs.run.advance.Goals as goal

pub returns-in-On : goal.returns-in-On
returns-in-On g c =
    let old = c.args.run.now in
    let s = step_is c.args.table.now (next_of c.args.run.now) old.stacks.rests.items old.state c.seen_step.new.run.stacks.rests.items c.seen_step.new.run.state c.seen_step.new.run.stacks.next _ c.in_ok-seen_step.ensures c.in-On.is in
    on_advances _ _ _ _ _ _ _ c.in-On.field-0 c.requires s (ap work_next c.in-On.is)

pub returns-in-Answered : goal.returns-in-Answered
returns-in-Answered g c =
    let old = c.args.run.now in
    let s = step_is c.args.table.now (next_of c.args.run.now) old.stacks.rests.items old.state c.seen_step.new.run.stacks.rests.items c.seen_step.new.run.state c.seen_step.new.run.stacks.next _ c.in_ok-seen_step.ensures c.in-Answered.is in
    over_advances _ _ _ _ _ _ _ _ (λ e. cc) (λ program t n l. ran_answered program n (next_of c.args.run.now) old.stacks.rests.items old.state c.seen_step.new.run.stacks.rests.items c.seen_step.new.run.state (g.S.Streams.content c.args.streams.now) (s program t) l) (λ program t. tt)

pub returns-in-Ended : goal.returns-in-Ended
returns-in-Ended g c =
    let old = c.args.run.now in
    let s = step_is c.args.table.now (next_of c.args.run.now) old.stacks.rests.items old.state c.seen_step.new.run.stacks.rests.items c.seen_step.new.run.state c.seen_step.new.run.stacks.next _ c.in_ok-seen_step.ensures c.in-Ended.is in
    over_advances _ _ _ _ _ _ _ _ (λ e. cc) (λ program t n l. ran_ended program n (next_of c.args.run.now) old.stacks.rests.items old.state c.in-Ended.ending c.seen_step.new.run.stacks.rests.items c.seen_step.new.run.state (g.S.Streams.content c.args.streams.now) (s program t) l) (λ program t. tt)

pub returns-in-Going : goal.returns-in-Going
returns-in-Going g c =
    let old = c.args.run.now in
    let s = step_is c.args.table.now (next_of c.args.run.now) old.stacks.rests.items old.state c.seen_step.new.run.stacks.rests.items c.seen_step.new.run.state c.seen_step.new.run.stacks.next _ c.in_ok-seen_step.ensures c.in-Going.is in
    over_advances _ _ _ _ _ _ _ _ (λ e. cc) (λ program t n l. ran_going program n (next_of c.args.run.now) old.stacks.rests.items old.state c.seen_step.new.run.stacks.rests.items c.seen_step.new.run.state (g.S.Streams.content c.args.streams.now) (s program t) l) (λ program t. tt)

pub returns-in-Wild : goal.returns-in-Wild
returns-in-Wild g c =
    let old = c.args.run.now in
    let s = step_is c.args.table.now (next_of c.args.run.now) old.stacks.rests.items old.state c.seen_step.new.run.stacks.rests.items c.seen_step.new.run.state c.seen_step.new.run.stacks.next _ c.in_ok-seen_step.ensures c.in-Wild.is in
    over_advances _ _ _ _ _ _ _ _ (λ e. cc) (λ program t n l. ran_wild program n (next_of c.args.run.now) old.stacks.rests.items old.state c.in-Wild.cause c.seen_step.new.run.stacks.rests.items c.seen_step.new.run.state (g.S.Streams.content c.args.streams.now) (s program t) l)
    (λ program t. ran_met program (next_of c.args.run.now) old.stacks.rests.items old.state c.in-Wild.cause c.seen_step.new.run.stacks.rests.items c.seen_step.new.run.state (g.S.Streams.content c.args.streams.now) (s program t))

pub returns-in_ok-moved_by-in-Serve : goal.returns-in_ok-moved_by-in-Serve
returns-in_ok-moved_by-in-Serve g c =
    let old = c.args.run.now in
    let s = step_is c.args.table.now (next_of c.args.run.now) old.stacks.rests.items old.state c.seen_step.new.run.stacks.rests.items c.seen_step.new.run.state c.seen_step.new.run.stacks.next _ c.in_ok-seen_step.ensures c.in-Serve.is in
    let new : Run = record c.seen_step.new.run { state = c.serve.new.state; stacks = c.moved_by.new.stacks; name = c.serve.new.name } in
    let before = c.args.streams.now in
    let after = c.serve.new.streams in
    served_advances c.args.table.now (next_of c.args.run.now) old new c.in-Serve.primitive c.in-Serve.call c.seen_step.new.run.stacks c.seen_step.new.run.state (g.S.Streams.known before) (g.S.Streams.known after) (g.S.Streams.content before) (g.S.Streams.content after) (g.S.Streams.failures before) (g.S.Streams.failures after)
    c.in_ok-served-in-Serve.served c.in_ok-moved_by-in-Serve.field-0 c.requires s c.in_ok-served-in-Serve.ensures c.in_ok-moved_by-in-Serve.ensures
