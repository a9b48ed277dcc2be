-- `is_scheduled` makes both tests.
use Rattle.words.proofs.Tests.{and_both}
use Rattle.register.proofs.entries.is_scheduled.Goals as goal

pub returns : goal.returns
returns c = rw c.between.ensures (and_both _ _)
