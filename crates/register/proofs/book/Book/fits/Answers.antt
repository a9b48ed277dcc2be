-- `Book::fits`: a count out of its range decides alone; else the tables decide.
use mathlib.Core.Path.{◌≡◌, refl, sym, ◌∙◌}
use Rattle.words.specs.Tests.{both, conj}
use Rattle.register.specs.Fitness.{counts_fit, fit}
use Rattle.register.proofs.Ranges.{counted}
use Rattle.register.proofs.book.Book.fits.Goals as goal
use Rattle.register.proofs.book.Book.fits.Goals.{After-numbers_fit}

-- what the test of the numbers answers is the book's own test of its counts
answered : (c : After-numbers_fit) → counts_fit c.args.self.now ≡ c.numbers_fit.result
answered c = sym (c.numbers_fit.ensures _ refl refl refl refl refl)

pub tables_fit-requires : goal.tables_fit-requires
tables_fit-requires c = counted _ (answered (goal.at.tables_fit-requires c).After-numbers_fit ∙ c.if-numbers_fit.true)

pub returns-then-numbers_fit : goal.returns-then-numbers_fit
unfolding fit conj both
returns-then-numbers_fit c =
    rw (answered (goal.at.returns-then-numbers_fit c).After-numbers_fit ∙ c.if-numbers_fit.true) c.tables_fit.ensures

pub returns-else-numbers_fit : goal.returns-else-numbers_fit
unfolding fit conj both
returns-else-numbers_fit c =
    rw (answered (goal.at.returns-else-numbers_fit c).After-numbers_fit ∙ c.if-numbers_fit.false) c.if-numbers_fit.false
