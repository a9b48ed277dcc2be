-- `numbers_fit` makes the five tests.
use Rattle.words.proofs.Tests.{and_five}
use Rattle.register.specs.Fitness.{counts_fit}
use Rattle.register.proofs.fitness.numbers_fit.Goals as goal

pub returns : goal.returns
unfolding counts_fit
returns c b n scheduled epoch last count =
    rw (n, scheduled, epoch, last, count, c.between.ensures, c.between-2.ensures, c.between-3.ensures)
    (and_five _ _ _ _ _)
