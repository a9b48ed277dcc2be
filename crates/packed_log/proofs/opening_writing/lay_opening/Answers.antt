-- `packed_log::opening_writing::lay_opening`: each part is laid where the one before it ends.
use Rattle.packed_log.proofs.WritingLaws.{put_opening}
use Rattle.packed_log.proofs.opening_writing.lay_opening.Goals as goal

pub returns : goal.returns
returns c = search put_opening depth 3
