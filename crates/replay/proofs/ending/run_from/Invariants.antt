-- `replay::ending::run_from`: at each turn one part of the steps is read and run.
use mathlib.Core.Path.{◌≡◌}
use lib.ListN.{length}
use Rattle.register.specs.Runs.{after_steps}
use Rattle.replay.specs.Bodies.{body_at}
use Rattle.replay.proofs.ending.run_from.Given as goal

abbrev pub invariant-loop-part : goal.invariant-loop-part
invariant-loop-part l = after_steps l.current (body_at l.log l.at).steps ≡ after_steps l.initial.current (body_at l.log l.from).steps

abbrev pub decreases-loop-part : goal.decreases-loop-part
decreases-loop-part l = length (body_at l.log l.at).steps
