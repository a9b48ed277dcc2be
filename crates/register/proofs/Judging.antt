-- What holds after a step, accepted or refused.
use mathlib.Core.Path.{◌≡◌, refl}
use mathlib.Core.Bool.{Bool, true, false}
use native.Mathlib.Omega.{arith}
use borrow.Author.Tests.{eqb-true}
use lib.Dec.{eqb}
use Rattle.words.specs.Tests.{choose}
use Rattle.words.specs.Refusals.{first}
use Rattle.register.specs.Types.{Step, Book}
use Rattle.register.specs.Steps.{Rule, refusal, judged, rule_of}
use Rattle.register.proofs.Accepted.{Accepted, accepted}

-- where nothing is refused, the book is fit and the rule's own tests refuse nothing
pub passed : (fits : Bool) (rule : Rule) → refusal fits rule ≡ 0 → (fits ≡ true) × (first rule.tests ≡ 0)
unfolding refusal first choose
passed true rule h = (refl, h)
passed false rule h = absurd (omega arith)

-- what holds of the book as it was, and of the effect as soon as the step is accepted, holds after the step
pub judged_has : (P : Book → Type 0) (r : Book) (fits : Bool) (step : Step) → P r
    → (fits ≡ true → Accepted r step → P (rule_of r step).effect) → P (judged fits r (rule_of r step)).book
unfolding judged
judged_has P r fits step before effect = by (eqb (refusal fits (rule_of r step)) 0) refl
  where
    by : (t : Bool) → eqb (refusal fits (rule_of r step)) 0 ≡ t → P (choose t (rule_of r step).effect r)
    by true h =
        let none = passed fits (rule_of r step) (eqb-true _ 0 h) in
        unfold choose in effect none.0 (accepted r step none.1)
    by false h = unfold choose in before
