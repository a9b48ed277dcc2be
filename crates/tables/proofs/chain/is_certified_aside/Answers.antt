-- `tables::chain::is_certified_aside`: nobody is not enough; any other set is judged as on the chain.
use Rattle.words.proofs.Tests.{both_none}
use Rattle.tables.specs.Searches.{certified_by}
use Rattle.tables.proofs.Searching.{nobody_enough}
use Rattle.tables.proofs.chain.is_certified_aside.Goals as goal

pub returns-then-set-n : goal.returns-then-set-n
unfolding certified_by
returns-then-set-n c =
    let a = c.args in
    rw (nobody_enough a.set a.n c.if-set-n.true, both_none)
