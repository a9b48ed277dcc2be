-- `Change::acted` puts the office into the word of those that have acted.
use Rattle.register.proofs.change.Change.acted.Goals as goal

pub returns : goal.returns
returns c = rw (c.timed.ensures, c.with_member.ensures)
