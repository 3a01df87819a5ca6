use Rattle.std.proofs.Common.{sym, subst}
use Rattle.bc_core.specs.Primitive.{primitive_work}
use Rattle.bc_interpret_steps.specs.Came.{primitive_of}
use Rattle.bc_interpret.specs.Serving.{Works}
use Rattle.bc_interpret.proofs.serve.work.Goals as goal

pub returns-in-Select : goal.returns-in-Select
returns-in-Select g c = λ f e. subst (λ q. Works (primitive_work (primitive_of q) f) (primitive_work (primitive_of q) f) c.args.state.now c.args.state.now (g.S.Streams.known c.args.streams.now) (g.S.Streams.known c.select.new.streams) (g.S.Streams.content c.args.streams.now) (g.S.Streams.content c.select.new.streams) (g.S.Streams.failures c.args.streams.now) (g.S.Streams.failures c.select.new.streams) c.select.result) (sym c.in-Select.is) (c.select.ensures f e)

pub returns-in-ReadByte : goal.returns-in-ReadByte
returns-in-ReadByte g c = λ f e. subst (λ q. Works (primitive_work (primitive_of q) f) (primitive_work (primitive_of q) f) c.args.state.now c.args.state.now (g.S.Streams.known c.args.streams.now) (g.S.Streams.known c.read_byte.new.streams) (g.S.Streams.content c.args.streams.now) (g.S.Streams.content c.read_byte.new.streams) (g.S.Streams.failures c.args.streams.now) (g.S.Streams.failures c.read_byte.new.streams) c.read_byte.result) (sym c.in-ReadByte.is) (c.read_byte.ensures f)

pub returns-in-WriteByte : goal.returns-in-WriteByte
returns-in-WriteByte g c = λ f e. subst (λ q. Works (primitive_work (primitive_of q) f) (primitive_work (primitive_of q) f) c.args.state.now c.args.state.now (g.S.Streams.known c.args.streams.now) (g.S.Streams.known c.write_byte.new.streams) (g.S.Streams.content c.args.streams.now) (g.S.Streams.content c.write_byte.new.streams) (g.S.Streams.failures c.args.streams.now) (g.S.Streams.failures c.write_byte.new.streams) c.write_byte.result) (sym c.in-WriteByte.is) (c.write_byte.ensures f e)

pub returns-in_ok-find-in-Find : goal.returns-in_ok-find-in-Find
returns-in_ok-find-in-Find g c = λ f e. subst (λ q. Works (primitive_work (primitive_of q) f) (primitive_work (primitive_of q) f) c.args.state.now c.args.state.now (g.S.Streams.known c.args.streams.now) (g.S.Streams.known c.args.streams.now) (g.S.Streams.content c.args.streams.now) (g.S.Streams.content c.args.streams.now) (g.S.Streams.failures c.args.streams.now) (g.S.Streams.failures c.args.streams.now) c.in_ok-find-in-Find.field-0) (sym c.in-Find.is) (c.in_ok-find-in-Find.ensures f e)

pub returns-in-EndStream : goal.returns-in-EndStream
returns-in-EndStream g c = λ f e. subst (λ q. Works (primitive_work (primitive_of q) f) (primitive_work (primitive_of q) f) c.args.state.now c.args.state.now (g.S.Streams.known c.args.streams.now) (g.S.Streams.known c.end_stream.new.streams) (g.S.Streams.content c.args.streams.now) (g.S.Streams.content c.end_stream.new.streams) (g.S.Streams.failures c.args.streams.now) (g.S.Streams.failures c.end_stream.new.streams) c.end_stream.result) (sym c.in-EndStream.is) (c.end_stream.ensures f)
