-- `tables::sorts::is_trusted` makes both tests.
use Rattle.words.proofs.Tests.{and_both}
use Rattle.tables.specs.Blocks.{trusted_in}
use Rattle.tables.proofs.sorts.is_trusted.Goals as goal

pub returns : goal.returns
unfolding trusted_in
returns c = rw c.has.ensures (and_both _ _)
