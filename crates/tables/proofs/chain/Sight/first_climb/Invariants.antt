-- `tables::chain::Sight::first_climb`: at each turn the blocks passed are certified, so the rank is that of the block reached, raised by as many; and what
-- is kept of them says so. The known set is everyone at first, and then that of the block passed last: it is enough.
use Prim.Native.Nat.{◌+◌, ◌≤◌}
use mathlib.Core.Path.{◌≡◌}
use mathlib.Core.Bool.{true}
use Rattle.tables.specs.Columns.{parents_of, epochs_of}
use Rattle.tables.specs.Searches.{enough_in, rank_above, raised, PassedFrom}
use Rattle.tables.proofs.chain.Sight.first_climb.Given as goal

abbrev pub invariant-loop-at : goal.invariant-loop-at
invariant-loop-at l =
    (l.climbed + l.at.0 ≤ l.b.0)
    × (rank_above l.self.view.now (parents_of l.self.blocks.now) (epochs_of l.self.blocks.now) l.self.blocks.now.last.0 l.self.n l.b.0 0 ≡ raised l.climbed (rank_above l.self.view.now (parents_of l.self.blocks.now) (epochs_of l.self.blocks.now) l.self.blocks.now.last.0 l.self.n l.at.0 0))
    × (enough_in l.known l.self.n ≡ true)
    × PassedFrom l.self.view.now (parents_of l.self.blocks.now) (epochs_of l.self.blocks.now) l.self.blocks.now.last.0 l.self.n l.b.0 l.climbs.starts l.climbs.passed

abbrev pub decreases-loop-at : goal.decreases-loop-at
decreases-loop-at l = l.at.0
