-- `quorum::has_stray`: the leaders seen so far have been tested.
use mathlib.Core.Path.{◌≡◌}
use lib.Dec.{leb}
use lib.ListN.{get_or}
use Rattle.words.specs.Tests.{any}
use Rattle.quorum.proofs.has_stray.Given as goal

abbrev pub invariant-loop-leader : goal.invariant-loop-leader
invariant-loop-leader l = l.found ≡ any l.leader-index (λ k. leb l.n (get_or l.schedule k 0))
