-- `closed` is the blank register without offices.
use mathlib.Core.Path.{refl, ◌∙◌}
use Rattle.register.specs.Opening.{closed}
use Rattle.register.proofs.opening.closed.Goals as goal

pub returns : goal.returns
unfolding closed
returns c = c.blank.ensures ∙ refl
