use mathlib.Core.Path.{◌∙◌}
use native.Mathlib.Omega.{arith}
use borrow.Author.Tests.{ne_eqb}
use Rattle.words.specs.Tests.{choose}
use Rattle.skovarnek_slip.specs.Answers.{tells_checked, slip_checked}
use Rattle.slip_timing.proofs.Turns.{whole}
use Rattle.slip_timing.proofs.slip_timing_check.Goals as goal

pub returns-then-end-ne0 : goal.returns-then-end-ne0
unfolding slip_checked choose
returns-then-end-ne0 c =
    let ended = c.run_log-end.ensures in
    let told = c.answer.ensures.0 in
    (λ _. told ∙ rw (← ended), λ _ _. told ∙ rw (← ended, ne_eqb _ 0 c.if-end-ne0.true))

pub loop-turn-preserved : goal.loop-turn-preserved
unfolding tells_checked
loop-turn-preserved c =
    let told = c.answer-last.ensures in (
      told.1,
      λ none. absurd (omega (arith, none)),
      λ _ few.
          told.0
          ∙ rw (c.check_slip-checked.ensures, whole _ _ (c.start_of-start.ensures.1 c.loop-turn.invariant.0 few)),
    )

pub returns : goal.returns
unfolding slip_checked choose
returns c =
    let ended = c.run_log-end.ensures in
    let turns = c.loop-turn.invariant in (
      λ none. turns.1 (omega (arith, none)) ∙ rw (← ended, c.if-end-ne0.false),
      λ some few. turns.2 (omega (arith, c.loop-turn-test.false, some)) few ∙ rw (← ended, c.if-end-ne0.false),
    )
