-- `report::text::write_step_line`: three numbers, the last two of which are small.
use native.Mathlib.Omega.{arith}
use Rattle.report.proofs.TextLaws.{step_line_size}
use Rattle.report.proofs.text.write_step_line.Goals as goal

pub returns : goal.returns
returns c =
    let a = c.args in
    let line = c.write_three.ensures in
    (line, omega (arith, line.counted, step_line_size a.place a.refusal a.value c.requires.1 (omega arith) (omega arith)))
