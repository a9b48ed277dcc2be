-- `packed_log::writing::check_room`: refuses with 31 where fewer bits are left.
use Rattle.packed_log.proofs.Judging.{judging}
use Rattle.packed_log.proofs.writing.check_room.Goals as goal

pub returns-then-room_of-size : goal.returns-then-room_of-size
returns-then-room_of-size c = search judging depth 12

pub returns : goal.returns
returns c = search judging depth 12
