-- `tables::chain::Sight::is_outranked`: at each turn of the walk no block left behind has a greater rank; at each turn of a climb the blocks passed are
-- certified, so the rank of its start is that of the block reached, raised by as many. The known set is everyone at first, and then that of the
-- certified block passed last: it is enough.
use Prim.Native.Nat.{ℕ, ◌+◌, ◌≤◌}
use mathlib.Core.Path.{◌≡◌}
use mathlib.Core.Bool.{true}
use Rattle.tables.specs.declared.chain.Sight.{Sight}
use Rattle.tables.specs.Columns.{parents_of, epochs_of}
use Rattle.tables.specs.Searches.{enough_in, rank_above, raised}
use Rattle.tables.proofs.Walking.{Settled, Climbing, Behind}
use Rattle.tables.proofs.chain.Sight.is_outranked.Given as goal

-- the rank of each block
abbrev pub Rank : Sight → ℕ → ℕ
Rank s x = rank_above s.view.now (parents_of s.blocks.now) (epochs_of s.blocks.now) s.blocks.now.last.0 s.n x 0

abbrev pub invariant-climb : goal.invariant-climb
invariant-climb l =
    let rank = Rank l.self in
    (l.climbed + l.at.0 ≤ l.x)
    × (enough_in l.known l.self.n ≡ true)
    × Climbing rank l.climbs.starts l.climbs.passed l.ranks l.x l.at.0
    × (rank l.x ≡ raised l.climbed (rank l.at.0))

abbrev pub decreases-climb : goal.decreases-climb
decreases-climb l = l.at.0

abbrev pub invariant-walk : goal.invariant-walk
invariant-walk l =
    let rank = Rank l.self in
    (enough_in l.known l.self.n ≡ true)
    × Settled rank l.climbs.starts l.climbs.passed l.ranks
    × Behind rank l.beat l.x
