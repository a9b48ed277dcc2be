-- `report::lines::write_offices`: at each turn the lines of the offices below q are written.
use Prim.Native.Nat.{◌+◌, ◌*◌, ◌≤◌}
use Rattle.report.specs.Text.{TextWritten, office_bytes}
use Rattle.report.specs.Reports.{office_lines}
use Rattle.report.proofs.lines.write_offices.Given as goal

abbrev pub invariant-loop-q : goal.invariant-loop-q
invariant-loop-q l = (l.next ≤ l.at + office_bytes * l.q) × (TextWritten l.initial.report l.at (office_lines l.register l.q) l.next l.report)
