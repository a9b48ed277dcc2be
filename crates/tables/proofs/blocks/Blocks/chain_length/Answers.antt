use mathlib.Core.Path.{◌≡◌, ap}
use native.Mathlib.Omega.{arith}
use lib.ListN.{length}
use Rattle.tables.specs.Columns.{parents_of}
use Rattle.tables.specs.Blocks.{parent_in}
use Rattle.tables.proofs.Chains.{chain_by_genesis, parent_in_lt}
use Rattle.tables.proofs.Searching.{climbed_on}
use Rattle.tables.proofs.blocks.Blocks.chain_length.Goals as goal

pub loop-at-smaller : goal.loop-at-smaller
loop-at-smaller c = rw c.parent-at.ensures (parent_in_lt _ _ _ c.loop-at-test.true)

pub loop-at-preserved : goal.loop-at-preserved
loop-at-preserved c =
    rw c.parent-at.ensures
    (climbed_on _ (parent_in_lt _ _) _ _ _ c.loop-at-test.true c.loop-at.invariant)

pub returns : goal.returns
returns c =
    let a = c.args in
    let end : c.loop-at.at.0 ≡ 0 = omega arith in
    omega (arith, ap length (chain_by_genesis (parent_in (parents_of a.self.now) a.self.now.last.0)), rw end at c.loop-at.invariant.rest)
