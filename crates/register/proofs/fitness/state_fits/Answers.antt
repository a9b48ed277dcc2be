-- `state_fits` makes the test.
use mathlib.Core.Path.{refl}
use Rattle.register.specs.Fitness.{state_fits}
use Rattle.register.proofs.fitness.state_fits.Goals as goal

pub returns : goal.returns
unfolding state_fits
returns c = refl
