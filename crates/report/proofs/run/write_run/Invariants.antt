-- `report::run::write_run`: at each turn one part of the steps is read, run and written.
use lib.ListN.{length}
use Rattle.replay.specs.Bodies.{body_at}
use Rattle.report.specs.Reports.{most_steps, run_lines}
use Rattle.report.proofs.RunText.{SoFar}
use Rattle.report.proofs.run.write_run.Given as goal

abbrev pub invariant-loop-part : goal.invariant-loop-part
invariant-loop-part l = SoFar (most_steps (length l.log)) l.initial.report l.report (run_lines l.initial.register 1 (body_at l.log l.from).steps) l.next l.place l.register (body_at l.log l.at).steps

abbrev pub decreases-loop-part : goal.decreases-loop-part
decreases-loop-part l = length (body_at l.log l.at).steps
