-- `tables::blocks::Blocks::is_shorter`: at each turn the blocks climbed and the chain of the block reached make up the chain; where the climb does not
-- tell, the two lengths are compared.
use Rattle.tables.specs.Columns.{parents_of}
use Rattle.tables.specs.Blocks.{parent_in}
use Rattle.tables.proofs.Searching.{Climbed}
use Rattle.tables.proofs.blocks.Blocks.is_shorter.Given as goal

abbrev pub invariant-loop-at : goal.invariant-loop-at
invariant-loop-at l = Climbed (parent_in (parents_of l.self) l.self.last.0) l.b.0 l.climbed l.at.0

abbrev pub decreases-loop-at : goal.decreases-loop-at
decreases-loop-at l = l.at.0
