use Rattle.bc_build.proofs.Words.{root_words_have_room}
use Rattle.bc_build.proofs.room_laws.root_words_have_room.Goals as goal

pub returns : goal.returns
returns c = root_words_have_room
