-- `report::text::write_empty_line`: the word, with the line's end.
use native.Mathlib.Omega.{arith}
use Rattle.report.specs.Text.{empty_line}
use Rattle.report.proofs.text.write_empty_line.Goals as goal

pub returns : goal.returns
unfolding empty_line
returns c = let line = c.write_word.ensures in (line, omega (arith, line.counted))
