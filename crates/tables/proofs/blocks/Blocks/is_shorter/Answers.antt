use mathlib.Core.Logic.{inr}
use native.Mathlib.Omega.{arith}
use Rattle.tables.proofs.Chains.{parent_in_lt}
use Rattle.tables.proofs.Searching.{climbed_on, not_shorter}
use Rattle.tables.proofs.blocks.Blocks.is_shorter.Goals as goal

pub returns-then-other-climbed : goal.returns-then-other-climbed
returns-then-other-climbed c = not_shorter _ (parent_in_lt _ _) _ _ _ _ c.loop-at.invariant (inr c.if-other-climbed.true)

pub loop-at-smaller : goal.loop-at-smaller
loop-at-smaller c = rw c.parent-at.ensures (parent_in_lt _ _ _ (omega (arith, c.loop-at-test.true)))

pub loop-at-preserved : goal.loop-at-preserved
loop-at-preserved c =
    rw c.parent-at.ensures
    (climbed_on _ (parent_in_lt _ _) _ _ _ (omega (arith, c.loop-at-test.true)) c.loop-at.invariant)
