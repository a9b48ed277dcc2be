use mathlib.Core.Path.{refl, sym}
use native.Mathlib.Nat.{add-zero}
use native.Mathlib.Numerals.{add-one}
use native.Mathlib.Omega.{arith}
use Rattle.report.specs.Batches.{batch_lines}
use Rattle.report.proofs.TextLaws.{then}
use Rattle.report.proofs.lines.write_batch.Goals as goal

pub loop-i-init : goal.loop-i-init
unfolding batch_lines
loop-i-init c = (omega arith, record { counted = sym (add-zero _); laid = refl })

pub loop-i-preserved : goal.loop-i-preserved
unfolding batch_lines
loop-i-preserved c =
    let held = c.loop-i.invariant in
    let line = c.write_step_line-next.ensures in
    (omega (arith, line.1, held.0), rw add-one (then held.1 line.0))
