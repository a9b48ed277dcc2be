use borrow.Author.Rules.{rules}
use mathlib.Core.Path.{refl, ◌∙◌}
use native.Mathlib.Omega.{arith}
use borrow.Author.Tests.{ne_eqb}
use Rattle.words.specs.Tests.{choose}
use Rattle.skovarnek_slip.specs.Answers.{tells_written, slip_written, slip_after}
use Rattle.slip_timing.proofs.Turns.{turn_answer, turn_buffer}
use Rattle.slip_timing.proofs.slip_timing_write.Goals as goal

pub returns-then-end-ne0 : goal.returns-then-end-ne0
unfolding slip_written slip_after choose
returns-then-end-ne0 c =
    let ended = c.run_log-end.ensures in
    let some = ne_eqb _ 0 c.if-end-ne0.true in
    let told = c.answer.ensures.0 in
    (λ _. (told ∙ rw (← ended), refl), λ _ _. (told ∙ rw (← ended, some), rw (← ended, some)), refl)

pub loop-turn-preserved : goal.loop-turn-preserved
unfolding tells_written
loop-turn-preserved c =
    let turns = c.loop-turn.invariant in
    let told = c.answer-last.ensures in
    let wrote = c.write_slip-written.ensures in (
      told.1,
      search rules,
      λ none. absurd (omega (arith, none)),
      λ _ few.
          let first = c.start_of-start.ensures.1 turns.0 few in (
            told.0 ∙ turn_answer _ _ _ _ c.loop-turn.slip _ first _ turns.1 wrote.0,
            turn_buffer _ _ _ _ c.loop-turn.slip _ first _ _ wrote.1 (λ none. (turns.2 none).1) (λ some. (turns.3 some few).1),
          ),
    )

pub returns : goal.returns
unfolding slip_written slip_after choose
returns c =
    let ended = c.run_log-end.ensures in
    let turns = c.loop-turn.invariant in (
      λ none.
          let begun = turns.2 (omega (arith, none)) in
          (begun.0 ∙ rw (← ended, c.if-end-ne0.false), begun.1),
      λ some few.
          let done = turns.3 (omega (arith, c.loop-turn-test.false, some)) few in
          (done.0 ∙ rw (← ended, c.if-end-ne0.false), done.1 ∙ rw (← ended, c.if-end-ne0.false)),
      turns.1,
    )
