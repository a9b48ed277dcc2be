-- `report::checking::check`: the report is written, and kept where it fits.
use mathlib.Core.Path.{◌∙◌}
use native.Mathlib.Omega.{arith}
use Rattle.report.proofs.CheckLaws.{checked}
use Rattle.report.proofs.checking.check.Goals as goal

pub returns : goal.returns
returns c =
    let text = c.write_report-size.ensures in
    let fits = c.fitted.ensures in
    let told = checked _ _ _ _ text.0 in
    (fits.0 ∙ told.0, fits.1 ∙ told.1, omega (arith, told.2, text.1))
