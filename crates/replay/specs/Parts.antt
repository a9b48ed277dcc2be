-- The parts in which the steps of a log are read, to be run by batches.
use Rattle.std.specs.Prelude.{ℕ, zero, suc, ◌-◌, min, List, ◌++◌, map, length, take, replicate}
use Rattle.register.specs.declared.step.Step.{Step}
use Rattle.register.specs.Limits.{batch}
use Rattle.packed_log.specs.Items.{item_at}
use Rattle.replay.specs.declared.body.Slot.{Slot}
use Rattle.replay.specs.declared.body.Part.{Part}
use Rattle.replay.specs.Bodies.{body_at}

-- the steps in some slots
unfoldable pub steps_of : List Slot → List Step
steps_of slots = map (λ (s : Slot). s.step) slots

-- a batch that begins with some steps; behind them it holds an advance at each place
unfoldable pub filled : List Step → List Step
filled ss = ss ++ replicate (batch - length ss) Step.Advance

-- the position behind the first k items from position p on
unfoldable pub behind : (log : List ℕ) → (p k : ℕ) → ℕ
behind log p zero = p
behind log p (suc k) = (item_at log (behind log p k)).next

-- the part at position p: as many of the body's steps as a batch holds, or all where they are fewer, how many they are, and the position behind them
unfoldable pub part_at : (log : List ℕ) → (p : ℕ) → Part
part_at log p =
    let steps : List Step = (body_at log p).steps in
    let count : ℕ = min batch (length steps) in
    record { steps = filled (take count steps); count = count; next = behind log p count }
