use mathlib.Core.Path.{refl, sym}
use native.Mathlib.Nat.{add-zero}
use native.Mathlib.Numerals.{add-one}
use native.Mathlib.Omega.{arith}
use Rattle.report.specs.Reports.{office_lines}
use Rattle.report.proofs.TextLaws.{then}
use Rattle.report.proofs.lines.write_offices.Goals as goal

pub loop-q-init : goal.loop-q-init
unfolding office_lines
loop-q-init c = (omega arith, record { counted = sym (add-zero _); laid = refl })

pub loop-q-preserved : goal.loop-q-preserved
unfolding office_lines
loop-q-preserved c =
    let held = c.loop-q.invariant in
    let line = c.write_office-next.ensures in
    (omega (arith, line.1, held.0), rw add-one (then held.1 line.0))
