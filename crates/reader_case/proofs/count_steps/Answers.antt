-- `reader_case::count_steps`: an opening that is refused is all; behind one that is read each item moves from what is left to the count.
use mathlib.Core.Path.{◌≡◌, refl, sym, ◌∙◌}
use native.Mathlib.Omega.{arith}
use Rattle.packed_log.specs.Openings.{opening_in}
use Rattle.reader_case.proofs.CountLaws.{count_opens, count_refused, count_step, step_fewer, count_end, count_refusal, count_few}
use Rattle.reader_case.proofs.count_steps.Goals as goal

pub returns-then-opening-ne0 : goal.returns-then-opening-ne0
returns-then-opening-ne0 c =
    count_refused _ _ (rw (c.open-opening.ensures.0, c.new-reader.ensures.0) refl) (omega (arith, c.if-opening-ne0.true))

pub loop-steps-init : goal.loop-steps-init
loop-steps-init c =
    let read : (opening_in c.args.log.now).refusal ≡ 0 = rw (c.open-opening.ensures.0, c.new-reader.ensures.0) at c.if-opening-ne0.false in (
      rw (c.open-opening.ensures.1, c.new-reader.ensures.0) refl,
      rw (c.open-opening.ensures.2, c.new-reader.ensures.0) (count_opens _ read),
    )

pub overflow_add-steps : goal.overflow_add-steps
overflow_add-steps c = omega (arith, count_few _ _ _ c.loop-steps.invariant.1)

pub loop-steps-smaller : goal.loop-steps-smaller
loop-steps-smaller c =
    rw (c.next.ensures.3, c.loop-steps.invariant.0)
    (step_fewer _ _ _ (rw c.loop-steps.invariant.0 at (sym c.next.ensures.0 ∙ c.in-Step.is)))

pub loop-steps-preserved : goal.loop-steps-preserved
loop-steps-preserved c = (
  rw c.next.ensures.2 c.loop-steps.invariant.0,
  rw (c.next.ensures.3, c.loop-steps.invariant.0)
      (sym (count_step _ _ _ _ (rw c.loop-steps.invariant.0 at (sym c.next.ensures.0 ∙ c.in-Step.is))) ∙ c.loop-steps.invariant.1),
)

pub returns-in-End : goal.returns-in-End
returns-in-End c =
    sym (count_end _ _ _ (rw c.loop-steps.invariant.0 at (sym c.next.ensures.0 ∙ c.in-End.is))) ∙ c.loop-steps.invariant.1

pub returns-in-Refused : goal.returns-in-Refused
returns-in-Refused c =
    sym (count_refusal _ _ _ _ (rw c.loop-steps.invariant.0 at (sym c.next.ensures.0 ∙ c.in-Refused.is))) ∙ c.loop-steps.invariant.1
