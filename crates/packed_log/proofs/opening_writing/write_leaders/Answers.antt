use Rattle.packed_log.specs.Writing.{leader_bits}
use Rattle.packed_log.proofs.BitsLaws.{put_none}
use Rattle.packed_log.proofs.WritingLaws.{next_leader_bits}
use mathlib.Core.Path.{sym}
use Rattle.packed_log.proofs.opening_writing.write_leaders.Goals as goal
use Rattle.packed_log.proofs.opening_writing.write_leaders.Goals.{In-loop-i, At-loop-i}

pub loop-i-init : goal.loop-i-init
unfolding leader_bits
loop-i-init c = sym (put_none _ _ (λ i. (c.type_inv.buf i).fits))

pub loop-i-preserved : goal.loop-i-preserved
unfolding leader_bits
loop-i-preserved c = search next_leader_bits depth 2
