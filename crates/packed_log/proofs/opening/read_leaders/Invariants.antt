-- `packed_log::opening::read_leaders`: at each turn the first i leaders are in the table.
use mathlib.Core.Path.{◌≡◌}
use lib.ListN.{length, take}
use Rattle.packed_log.specs.Openings.{leaders_at}
use Rattle.packed_log.proofs.opening.read_leaders.Given as goal

abbrev pub invariant-loop-i : goal.invariant-loop-i
invariant-loop-i l = (length l.leaders ≡ 256) × (take l.i l.leaders ≡ leaders_at l.log l.at l.i)
