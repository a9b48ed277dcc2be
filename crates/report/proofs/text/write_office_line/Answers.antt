-- `report::text::write_office_line`: the word, the office, and three numbers behind it.
use native.Mathlib.Omega.{arith}
use Rattle.report.specs.Text.{numbers, office_line}
use Rattle.report.proofs.TextLaws.{then, office_line_size}
use Rattle.report.proofs.text.write_office_line.Goals as goal

pub returns : goal.returns
unfolding numbers office_line
returns c =
    let a = c.args in
    let line =
    then c.write_word-after_word.ensures (then c.write_number-after_office.ensures.0 c.write_three.ensures) in
    let short =
    office_line_size a.office a.last a.size a.signers c.requires.1 (omega arith) (omega arith) (omega arith) in
    (line, omega (arith, line.counted, short))
