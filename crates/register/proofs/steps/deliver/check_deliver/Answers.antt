-- `check_deliver` makes the three tests in their order.
use Rattle.words.proofs.Turns.{turns}
use Rattle.register.specs.Books.{book_of}
use Rattle.register.proofs.Places.{is_transit}
use Rattle.register.proofs.steps.deliver.check_deliver.Goals as goal

pub returns-then-register-office : goal.returns-then-register-office
unfolding book_of
returns-then-register-office c = search turns depth 6

pub returns-then-register-message : goal.returns-then-register-message
unfolding book_of
returns-then-register-message c = search turns depth 6

pub returns-then-ne : goal.returns-then-ne
unfolding book_of
returns-then-ne c = rw (is_transit, ← c.stage_of.ensures) (search turns depth 6)

pub returns : goal.returns
unfolding book_of
returns c = rw (is_transit, ← c.stage_of.ensures) (search turns depth 6)
