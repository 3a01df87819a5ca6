use Rattle.std.proofs.Common.{map, sym, ap, ◌∙◌}
use Rattle.bc_lex.specs.Files.{files_of}
use Rattle.bc_core.specs.View.{section}
use Rattle.bc_tame_check.specs.Views.{hint}
use Rattle.bc_tame_built.proofs.Tame.{found_tame}
use Rattle.bc_tame_built.proofs.program.tame_room.Goals as goal

pub returns-then-has_room : goal.returns-then-has_room
returns-then-has_room c =
    found_tame (files_of c.args.sources.now) c.args.mains.now c.in-Some.owns.now c.args.image.now (map section c.as_slice.result.now) (hint c.in_ok-rooms.rooms) c.in-Some.ensures
    (λ sections are_parsed. c.in_ok-cores.ensures sections are_parsed ∙ ap (map section) (sym c.as_slice.ensures.value)) c.in_ok-rooms.ensures (c.has_room.ensures c.if-has_room.true)
