-- `are_consecutive` makes the four tests.
use Rattle.words.proofs.Tests.{and_four}
use Rattle.register.specs.Books.{book_of}
use Rattle.register.specs.Refusals.{consecutive}
use Rattle.register.proofs.steps.finalise.are_consecutive.Goals as goal

pub returns : goal.returns
unfolding consecutive book_of
returns c =
    rw (c.epoch-newest.ensures, c.epoch-middle.ensures, c.epoch-oldest.ensures)
    (simp and_four)
