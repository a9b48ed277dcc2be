-- `message_fits` makes the three tests.
use Rattle.words.specs.Tests.{between}
use Rattle.words.proofs.Tests.{and_both}
use Rattle.register.specs.Fitness.{message_fits}
use Rattle.register.proofs.fitness.message_fits.Goals as goal

pub returns : goal.returns
unfolding message_fits between
returns c = simp and_both
