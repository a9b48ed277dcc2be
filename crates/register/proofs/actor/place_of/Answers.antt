-- `place_of`: the office's number is its place where the table has that.
use borrow.Author.Rules.{rules}
use borrow.Author.Tests.{lt-ltb, le-ltb}
use Rattle.words.specs.Tests.{choose}
use Rattle.register.proofs.actor.place_of.Goals as goal

pub returns-then-at-lt-OFFICES : goal.returns-then-at-lt-OFFICES
unfolding choose
returns-then-at-lt-OFFICES c = (rw (lt-ltb _ _ c.if-at-lt-OFFICES.true), search rules)

pub returns-else-at-lt-OFFICES : goal.returns-else-at-lt-OFFICES
unfolding choose
returns-else-at-lt-OFFICES c = (rw (le-ltb _ _ c.if-at-lt-OFFICES.false), search rules)
