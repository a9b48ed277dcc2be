-- `replay::body::check_from`: at each turn the body from the position on has the refusal of the whole.
use mathlib.Core.Path.{◌≡◌}
use Rattle.packed_log.specs.Items.{left}
use Rattle.replay.specs.Bodies.{body_at}
use Rattle.replay.proofs.body.check_from.Given as goal

abbrev pub invariant-loop-skip : goal.invariant-loop-skip
invariant-loop-skip l = (body_at l.log l.at).refusal ≡ (body_at l.log l.next).refusal

abbrev pub decreases-loop-skip : goal.decreases-loop-skip
decreases-loop-skip l = left l.log l.next
