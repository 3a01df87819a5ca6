use Rattle.bc_build.proofs.Labels.{labels_have_room}
use Rattle.bc_build.proofs.room_laws.labels_have_room.Goals as goal

pub returns : goal.returns
returns c = labels_have_room
