-- `counts_fit` tests the numbers of the register's book.
use mathlib.Core.Path.{refl}
use Rattle.register.specs.Books.{book_of}
use Rattle.register.proofs.fitness.counts_fit.Goals as goal

pub returns : goal.returns
unfolding book_of
returns c = c.numbers_fit.ensures _ refl refl refl refl refl
