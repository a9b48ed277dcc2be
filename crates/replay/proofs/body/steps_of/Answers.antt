-- `steps_of`: the slots are turned, one by one.
use borrow.Author.Rules.{rules}
use Rattle.register.proofs.Turning.{turned}
use Rattle.register.specs.declared.step.Step.{Step}
use Rattle.replay.specs.declared.body.Slot.{Slot}
use Rattle.replay.specs.Parts.{steps_of}
use Rattle.replay.proofs.body.steps_of.Goals as goal

pub returns : goal.returns
unfolding steps_of
returns c = turned (λ (s : Slot). s.step) (record { step = Step.Advance }) (search rules) c.map.ensures.items (λ p x y q is. search rules)
