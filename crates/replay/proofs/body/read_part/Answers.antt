use mathlib.Core.Path.{◌≡◌, refl, ap, ◌∙◌}
use mathlib.Core.List.{[]}
use mathlib.Core.Logic.{inl, inr}
use native.Mathlib.Omega.{arith}
use Rattle.packed_log.specs.declared.item.Item.{Item}
use Rattle.register.specs.Limits.{batch}
use Rattle.register.specs.declared.step.Step.{Step}
use Rattle.replay.specs.Bodies.{Body, begun, body_at}
use Rattle.replay.proofs.BodyLaws.{body_read}
use Rattle.replay.proofs.PartLaws.{gathered_none, gathered_step, gathered_part}
use Rattle.replay.proofs.body.read_part.Goals as goal
use Rattle.replay.proofs.body.read_part.Goals.{After-read_item-read}

-- an item that is no step closes the body
closes : (item : Item) (rest : Body) → ((s : Step) → item ≡ Item.Step s → ⊥) → (begun item rest).steps ≡ []
unfolding begun
closes (Item.Step s) rest other = absurd (other s refl)
closes Item.End rest other = refl
closes (Item.Refused number) rest other = refl

-- what the item that was read begins
by_item : (c : After-read_item-read) (item : Item) → c.read_item-read.result.item ≡ item → body_at c.args.log.now c.loop-count.next ≡ begun item (body_at c.args.log.now c.read_item-read.result.next)
by_item c item is = body_read _ c.loop-count.next c.read_item-read.result c.read_item-read.ensures.0 item is

pub loop-count-init : goal.loop-count-init
loop-count-init c = gathered_none _ _

pub loop-count-preserved : goal.loop-count-preserved
loop-count-preserved c =
    gathered_step _ _ _ _ c.read_item-read.result c.loop-count.invariant (omega arith)
    c.read_item-read.ensures.0 (by_item (goal.at.loop-count-preserved c).After-read_item-read _ c.in-Step.is)

pub returns-in_default : goal.returns-in_default
returns-in_default c =
    gathered_part _ _ _ c.loop-count.invariant
    (inr (ap (λ (b : Body). b.steps) (by_item (goal.at.returns-in_default c).After-read_item-read _ refl) ∙ closes _ _ c.in_default.not-Step))

pub returns : goal.returns
returns c =
    let full : c.loop-count.count ≡ batch = omega arith in
    gathered_part _ _ _ (rw full at c.loop-count.invariant) (inl refl)
