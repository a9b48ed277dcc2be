-- `report::lines::write_batch`: at each turn the lines of the first i answers are written.
use Prim.Native.Nat.{◌+◌, ◌*◌, ◌≤◌}
use Rattle.report.specs.Text.{TextWritten, step_bytes}
use Rattle.report.specs.Batches.{batch_lines}
use Rattle.report.proofs.lines.write_batch.Given as goal

abbrev pub invariant-loop-i : goal.invariant-loop-i
invariant-loop-i l = (l.next ≤ l.at + step_bytes * l.i) × (TextWritten l.initial.report l.at (batch_lines l.place l.refusals l.values l.i) l.next l.report)
