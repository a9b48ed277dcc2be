-- `packed_log::opening_writing::write_leaders`: at each turn the first i leaders are laid.
use Rattle.packed_log.specs.Bits.{put}
use Rattle.packed_log.specs.Writing.{leader_bits}
use mathlib.Core.Path.{◌≡◌}
use lib.ListN.{take}
use Rattle.packed_log.proofs.opening_writing.write_leaders.Given as goal

abbrev pub invariant-loop-i : goal.invariant-loop-i
invariant-loop-i l = l.buf ≡ put l.initial.buf l.at (leader_bits (take l.i l.schedule))
