-- `report::text::write_number`: the number, and the byte behind it.
use borrow.Author.Rules.{rules}
use Rattle.report.specs.Text.{number_then}
use Rattle.report.proofs.TextLaws.{then}
use Rattle.report.proofs.text.write_number.Goals as goal

pub returns : goal.returns
unfolding number_then
returns c = (then c.write_decimal-next.ensures.0 c.put.ensures, search rules)
