-- `report::text::write_log_line`: the word, and the number behind it.
use native.Mathlib.Omega.{arith}
use Rattle.report.specs.Text.{numbers, log_line}
use Rattle.report.proofs.TextLaws.{then}
use Rattle.report.proofs.text.write_log_line.Goals as goal

pub returns : goal.returns
unfolding numbers log_line
returns c =
    let number = c.write_number.ensures in
    (then c.write_word-next.ensures number.0, omega (arith, number.1, c.write_word-next.ensures.counted))
