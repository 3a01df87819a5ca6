use Rattle.bc_build.proofs.Numbers.{nodes_have_room}
use Rattle.bc_build.proofs.room_laws.nodes_have_room.Goals as goal

pub returns : goal.returns
returns c = nodes_have_room
