-- `block_fits` makes both tests.
use Rattle.words.proofs.Tests.{and_both}
use Rattle.register.specs.Fitness.{block_fits}
use Rattle.register.proofs.fitness.block_fits.Goals as goal

pub returns : goal.returns
unfolding block_fits
returns c = and_both _ _
