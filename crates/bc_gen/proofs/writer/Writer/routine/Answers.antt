use Rattle.std.proofs.Common.{refl, ap, ◌+◌}
use Rattle.bc_core.specs.Level.{level_after_parameters}
use Rattle.bc_core.specs.View.{body_of, block_of}
use Rattle.bc_gen_defs.specs.Emit.{emit_block}
use Rattle.bc_gen_defs.specs.Bodies.{emit_body}
use Rattle.bc_gen_defs.specs.Entries.{Plain}
use Rattle.bc_gen.specs.Surroundings.{roots_in, exits_of}
use Rattle.bc_gen.proofs.Forms.{does_writes}
use Rattle.bc_gen.proofs.Outs.{fails, does_out}
use Rattle.bc_gen.proofs.writer.Writer.routine.Goals as goal

pub returns-in_ok-block-in-Commands : goal.returns-in_ok-block-in-Commands
returns-in_ok-block-in-Commands c =
    does_writes c.return_zero.result (roots_in c.args.around.now) (exits_of c.args.around.now) (body_of c.args.routine.now.body) (block_of c.in-Commands.block)
    (level_after_parameters c.args.routine.now.parameters) (2 + c.args.routine.now.parameters) c.args.self.now c.block.new.self c.return_zero.new.self
    (ap body_of c.in-Commands.is) c.requires.outside refl c.in_ok-block-in-Commands.ensures c.return_zero.ensures

pub returns-in_err-block-in-Commands : goal.returns-in_err-block-in-Commands
returns-in_err-block-in-Commands c =
    let roots = roots_in c.args.around.now in
    let level = level_after_parameters c.args.routine.now.parameters in
    fails c.from_residual-in_err-block-in-Commands.result c.in_err-block-in-Commands.field-0.0 c.args.self.now c.block.new.self
    (emit_block Plain roots (block_of c.in-Commands.block) (2 + c.args.routine.now.parameters) (exits_of c.args.around.now) c.args.self.now.next).1
    (emit_body Plain roots (body_of c.args.routine.now.body) level c.args.self.now.next)
    c.from_residual-in_err-block-in-Commands.ensures.1 c.in_err-block-in-Commands.ensures
    (does_out roots (exits_of c.args.around.now) (body_of c.args.routine.now.body) (block_of c.in-Commands.block) level (2 + c.args.routine.now.parameters) c.args.self.now.next
    (ap body_of c.in-Commands.is) c.requires.outside refl)
