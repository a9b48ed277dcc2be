-- `skovarnek_slip_write`: a log that does not read, and a slip that is written or refused.
use mathlib.Core.Path.{◌∙◌}
use native.Mathlib.Omega.{arith}
use borrow.Author.Tests.{ne_eqb}
use Rattle.words.specs.Tests.{choose}
use Rattle.skovarnek_slip.specs.Answers.{tells_written, slip_written, slip_after}
use Rattle.skovarnek_slip.proofs.skovarnek_slip_write.Goals as goal

pub returns-then-end-ne0 : goal.returns-then-end-ne0
unfolding slip_written slip_after choose
returns-then-end-ne0 c =
    let none = ne_eqb _ 0 c.if-end-ne0.true in
    (c.answer.ensures.0 ∙ rw (← c.run_log-end.ensures, none), rw (← c.run_log-end.ensures, none), omega (arith, c.answer.ensures.0))

pub returns : goal.returns
unfolding slip_written tells_written slip_after choose
returns c =
    let ended = c.run_log-end.ensures in
    let written = c.write_slip-written.ensures in (
      c.answer-2.ensures.0 ∙ rw (written.0, ← ended, c.if-end-ne0.false),
      rw (← ended, c.if-end-ne0.false) written.1,
      omega (arith, c.answer-2.ensures.0, written.2),
    )
