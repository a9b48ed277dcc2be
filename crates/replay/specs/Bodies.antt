-- What a log holds behind its opening: steps, up to the end or to a refusal.
use Rattle.std.specs.Prelude.{ℕ, zero, suc, ◌+◌, List, [], ◌∷◌, eqb}
use Rattle.words.specs.Tests.{choose}
use Rattle.register.specs.declared.step.Step.{Step}
use Rattle.packed_log.specs.declared.item.Item.{Item}
use Rattle.packed_log.specs.Items.{left, item_at}
use Rattle.packed_log.specs.Openings.{opening_in}

-- the steps up to the first item that is none, and that item as a number: 0 for the end, else the refusal
pub record Body : Type 0 where
  pub steps : List Step
  pub refusal : ℕ

-- the body that begins with an item: a step stands in front of the rest, any other item closes the body
unfoldable pub begun : Item → (rest : Body) → Body
begun (Item.Step s) rest = record { steps = s ∷ rest.steps; refusal = rest.refusal }
begun Item.End rest = record { steps = []; refusal = 0 }
begun (Item.Refused number) rest = record { steps = []; refusal = number }

-- the body from position p on, as far as the fuel reaches
unfoldable pub body_from : (fuel : ℕ) → (log : List ℕ) → (p : ℕ) → Body
body_from zero log p = record { steps = []; refusal = 0 }
body_from (suc fuel) log p = begun (item_at log p).item (body_from fuel log (item_at log p).next)

-- the body from position p on: every step takes some of the bits that are left, so the fuel never runs out
unfoldable pub body_at : (log : List ℕ) → (p : ℕ) → Body
body_at log p = body_from (left log p + 1) log p

-- what stands behind the log's opening
unfoldable pub body_of : (log : List ℕ) → Body
body_of log = body_at log (opening_in log).next

-- the number that the log is refused with, 0 where it reads: that of its opening, else that of what stands behind it
unfoldable pub fault_of : (log : List ℕ) → ℕ
fault_of log = choose (eqb (opening_in log).refusal 0) (body_of log).refusal (opening_in log).refusal
