-- `is_sent` makes both tests.
use Rattle.words.proofs.Tests.{and_both}
use Rattle.register.proofs.entries.is_sent.Goals as goal

pub returns : goal.returns
returns c = and_both _ _
