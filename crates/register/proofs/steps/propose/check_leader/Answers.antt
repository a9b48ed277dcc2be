-- `check_leader` makes the first five tests of a proposal in their order.
use Rattle.words.specs.Tests.{choose}
use Rattle.words.specs.Refusals.{until}
use Rattle.words.proofs.Turns.{turns}
use Rattle.register.specs.Books.{book_of}
use Rattle.register.proofs.steps.propose.check_leader.Goals as goal

pub returns-then-register-office : goal.returns-then-register-office
unfolding until choose book_of
returns-then-register-office c = search turns depth 8

pub returns-then-register-parent : goal.returns-then-register-parent
unfolding until choose book_of
returns-then-register-parent c = search turns depth 8

pub returns-then-not-is_trusted : goal.returns-then-not-is_trusted
unfolding until choose book_of
returns-then-not-is_trusted c = search turns depth 8

pub returns-then-has : goal.returns-then-has
unfolding until choose book_of
returns-then-has c = search turns depth 8

pub returns-then-not-leads : goal.returns-then-not-leads
unfolding until choose book_of
returns-then-not-leads c = search turns depth 8

pub returns : goal.returns
unfolding until choose book_of
returns c = search turns depth 8
