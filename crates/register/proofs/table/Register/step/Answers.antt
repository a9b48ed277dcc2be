-- `Register::step` runs a batch of one.
use Rattle.register.proofs.Running.{ran_one}
use Rattle.register.proofs.table.Register.step.Goals as goal

pub returns : goal.returns
returns c = ran_one _ _ _ c.run-ran.ensures
