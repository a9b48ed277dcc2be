-- `slip::rows::mirrored`: an office below n counts from the last one on.
use borrow.Author.Tests.{lt-ltb, le-ltb}
use Rattle.words.specs.Tests.{choose}
use Rattle.slip.specs.Rows.{mirror}
use Rattle.slip.proofs.rows.mirrored.Goals as goal

pub returns-then-office-n : goal.returns-then-office-n
unfolding mirror choose
returns-then-office-n c = rw (lt-ltb _ _ c.if-office-n.true)

pub returns-else-office-n : goal.returns-else-office-n
unfolding mirror choose
returns-else-office-n c = rw (le-ltb _ _ c.if-office-n.false)
