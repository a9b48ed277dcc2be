-- `skovarnek_slip_check`: a log that does not read, and a slip that is checked.
use mathlib.Core.Path.{◌∙◌}
use borrow.Author.Tests.{ne_eqb}
use Rattle.words.specs.Tests.{choose}
use Rattle.skovarnek_slip.specs.Answers.{tells_checked, slip_checked}
use Rattle.skovarnek_slip.proofs.skovarnek_slip_check.Goals as goal

pub returns-then-end-ne0 : goal.returns-then-end-ne0
unfolding slip_checked choose
returns-then-end-ne0 c = c.answer.ensures.0 ∙ rw (← c.run_log-end.ensures, ne_eqb _ 0 c.if-end-ne0.true)

pub returns : goal.returns
unfolding slip_checked tells_checked choose
returns c = c.answer-2.ensures.0 ∙ rw (c.check_slip-checked.ensures, ← c.run_log-end.ensures, c.if-end-ne0.false)
