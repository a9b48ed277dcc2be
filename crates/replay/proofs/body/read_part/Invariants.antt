-- `replay::body::read_part`: at each turn the batch begins with the steps in front of the position.
use Rattle.replay.proofs.PartLaws.{Gathered}
use Rattle.replay.proofs.body.read_part.Given as goal

abbrev pub invariant-loop-count : goal.invariant-loop-count
invariant-loop-count l = Gathered l.log l.at (record { steps = l.steps; count = l.count; next = l.next })
