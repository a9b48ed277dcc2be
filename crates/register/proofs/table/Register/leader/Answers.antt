-- `Register::leader`: the entry of an epoch of the schedule, and office 0 of any other.
use native.Mathlib.Omega.{arith}
use Prim.Native.Nat.{◌≤◌}
use mathlib.Core.Path.{sym, ◌∙◌}
use Rattle.register.proofs.Telling.{scheduled, leader_none, leader_found}
use Rattle.register.proofs.table.Register.leader.Goals as goal
use Rattle.register.proofs.table.Register.leader.Goals.{Else-not-is_scheduled}

-- once the test has let it pass, the epoch is from 1 to 256
within : (c : Else-not-is_scheduled) → (1 ≤ c.args.epoch.0) × (c.args.epoch.0 ≤ 256)
within c = scheduled c.args.self.now _ (sym c.is_scheduled.ensures ∙ c.if-not-is_scheduled.false)

pub returns-then-not-is_scheduled : goal.returns-then-not-is_scheduled
returns-then-not-is_scheduled c =
    let a = c.args in
    leader_none a.self.now a.epoch.0 (sym c.is_scheduled.ensures ∙ c.if-not-is_scheduled.true)

pub overflow_sub-result : goal.overflow_sub-result
overflow_sub-result c = omega (arith, within (goal.at.overflow_sub-result c).Else-not-is_scheduled)

pub bounds-self-epoch : goal.bounds-self-epoch
bounds-self-epoch c = omega (arith, within (goal.at.bounds-self-epoch c).Else-not-is_scheduled)

pub returns : goal.returns
returns c =
    let a = c.args in
    leader_found a.self.now a.epoch.0 (sym c.is_scheduled.ensures ∙ c.if-not-is_scheduled.false)
