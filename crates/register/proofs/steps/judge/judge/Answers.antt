-- `judge`: a book that is not fit gets 5; else the step is attempted.
use mathlib.Core.Path.{ap, ◌∙◌}
use Rattle.words.specs.Tests.{choose}
use Rattle.register.specs.Books.{book_of}
use Rattle.register.specs.Types.{Change}
use Rattle.register.specs.Changes.{refusing, change_of}
use Rattle.register.proofs.steps.judge.judge.Goals as goal

pub returns-then-not-fits : goal.returns-then-not-fits
unfolding change_of choose book_of
returns-then-not-fits c =
    rw c.if-not-fits.true (c.refused.ensures ∙ ap (λ (x : Change). refusing x 5) c.unchanged-same.ensures)

pub returns-in-Ok : goal.returns-in-Ok
unfolding change_of choose book_of
returns-in-Ok c = rw (c.if-not-fits.false, ← c.unchanged-same.ensures) c.in-Ok.ensures

pub returns-in-Err : goal.returns-in-Err
unfolding change_of choose book_of
returns-in-Err c =
    rw (c.if-not-fits.false, ← c.unchanged-same.ensures) (c.refused-in-Err.ensures ∙ c.in-Err.ensures)
