-- `Change::named`: a block up to the last is there already; the next one is made.
use borrow.Author.Tests.{le-leb, lt-leb}
use Rattle.words.specs.Tests.{choose}
use Rattle.register.specs.Changes.{naming}
use Rattle.register.proofs.change.Change.named.Goals as goal

pub returns-then-b-self : goal.returns-then-b-self
unfolding naming choose
returns-then-b-self c = rw (le-leb _ _ c.if-b-self.true)

pub returns : goal.returns
unfolding naming choose
returns c = rw (lt-leb _ _ c.if-b-self.false)
