-- `report::text::write_three`: each number is written where the one before it ends.
use Rattle.report.specs.Text.{numbers}
use Rattle.report.proofs.TextLaws.{then}
use Rattle.report.proofs.text.write_three.Goals as goal

pub returns : goal.returns
unfolding numbers
returns c =
    then c.write_number-after_first.ensures.0 (then c.write_number-after_second.ensures.0 c.write_number.ensures.0)
