-- `check_log::check_first`: its report fits.
use native.Mathlib.Omega.{arith}
use lib.ListN.{take}
use Rattle.report.proofs.CheckLaws.{report_fits}
use Rattle.check_log.proofs.check_first.Goals as goal

pub returns : goal.returns
returns c =
    let a = c.args in
    let told = c.check.ensures in
    let whole = report_fits (take a.size a.log.now) a.report.now (omega (arith, told.2, c.requires.2)) in
    (told.0, told.1, rw (told.0, told.1) whole.0, rw (told.0, told.1) whole.1)
