-- `tables::chain::is_foot` is the test of the definition.
use Rattle.words.proofs.Tests.{or_either}
use Rattle.tables.proofs.chain.is_foot.Goals as goal

pub returns : goal.returns
returns c = rw c.eq.ensures (or_either _ _)
