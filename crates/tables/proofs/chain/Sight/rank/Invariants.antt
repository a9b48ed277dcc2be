-- `tables::chain::Sight::rank`: at each turn the blocks passed are certified, so the rank is that of the block reached, raised by as many. The known
-- set is everyone at first, and then that of the block passed last: it is enough.
use Prim.Native.Nat.{◌+◌, ◌≤◌}
use mathlib.Core.Path.{◌≡◌}
use mathlib.Core.Bool.{true}
use Rattle.tables.specs.Columns.{parents_of, epochs_of}
use Rattle.tables.specs.Searches.{enough_in, rank_above, raised}
use Rattle.tables.proofs.chain.Sight.rank.Given as goal

abbrev pub invariant-loop-base : goal.invariant-loop-base
invariant-loop-base l =
    (l.climbed + l.at.0 ≤ l.fn.b.0)
    × (rank_above l.self.view.now (parents_of l.self.blocks.now) (epochs_of l.self.blocks.now) l.self.blocks.now.last.0 l.self.n l.fn.b.0 l.base.0 ≡ raised l.climbed (rank_above l.self.view.now (parents_of l.self.blocks.now) (epochs_of l.self.blocks.now) l.self.blocks.now.last.0 l.self.n l.at.0 l.base.0))
    × (enough_in l.known l.self.n ≡ true)

abbrev pub decreases-loop-base : goal.decreases-loop-base
decreases-loop-base l = l.at.0
