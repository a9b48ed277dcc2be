-- `words::between` makes both tests.
use Rattle.words.proofs.Tests.{and_both}
use Rattle.words.specs.Tests.{between}
use Rattle.words.proofs.between.Goals as goal

pub returns : goal.returns
unfolding between
returns c = and_both _ _
