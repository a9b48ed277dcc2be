-- `reader_case::count_steps`: at each turn what is left to read behind the reader's place makes the count that of the whole log. A step leaves fewer
-- bits than there were, and any other item ends the loop.
use mathlib.Core.Path.{◌≡◌}
use Rattle.packed_log.specs.Items.{left}
use Rattle.replay.specs.Bodies.{body_at}
use Rattle.reader_case.specs.Counts.{count_of}
use Rattle.reader_case.proofs.CountLaws.{whole}
use Rattle.reader_case.proofs.count_steps.Given as goal

abbrev pub invariant-loop-steps : goal.invariant-loop-steps
invariant-loop-steps l = (l.reader.log.now ≡ l.log) × (whole l.steps (body_at l.log l.reader.at) ≡ count_of l.log)

abbrev pub decreases-loop-steps : goal.decreases-loop-steps
decreases-loop-steps l = left l.log l.reader.at
