use borrow.Author.Rules.{rules}
use Prim.Native.Nat.{ℕ, ◌<◌}
use mathlib.Core.Path.{◌≡◌, sym, ◌∙◌}
use mathlib.Core.Bool.{true, false}
use native.Mathlib.Omega.{arith}
use lib.Dec.{eqb}
use Rattle.words.specs.Tests.{either}
use Rattle.tables.specs.Columns.{parents_of, epochs_of}
use Rattle.tables.specs.Blocks.{parent_in, epoch_in}
use Rattle.tables.specs.Searches.{certified_by, certified_in}
use Rattle.tables.proofs.Chains.{parent_in_lt}
use Rattle.tables.proofs.Searching.{everyone_enough, certified_enough, unmet_above, raised_start, raised_some, foot_rank, next_rank, stop_rank}
use Rattle.tables.proofs.chain.Sight.rank.Goals as goal
use Rattle.tables.proofs.chain.Sight.rank.Goals.{In-loop-base}

-- what the test of a turn tells: the climb is not at its foot
unended : (c : In-loop-base) → either (eqb c.loop-base.at.0 0) (eqb c.loop-base.at.0 c.args.base.0) ≡ false
unended c = sym c.is_foot.ensures ∙ c.loop-base-test.true

-- so it is above genesis
above : (c : In-loop-base) → 0 < c.loop-base.at.0
above c = unmet_above c.loop-base.at.0 _ (unended c)

pub loop-base-init : goal.loop-base-init
loop-base-init c = (search rules, raised_start _, everyone_enough _ c.args.self.now.few)

pub returns-then-not-is_certified : goal.returns-then-not-is_certified
unfolding certified_in certified_by
returns-then-not-is_certified c =
    let a = c.args in
    sym (c.loop-base.invariant.1 ∙ stop_rank a.self.now.view.now (parents_of a.self.now.blocks.now) (epochs_of a.self.now.blocks.now) a.self.now.blocks.now.last.0 a.self.now.n a.base.0 _
    (unended (goal.at.returns-then-not-is_certified c).In-loop-base) _ c.is_certified.ensures _ c.if-not-is_certified.true)

pub loop-base-smaller : goal.loop-base-smaller
loop-base-smaller c = rw c.parent-at.ensures (parent_in_lt _ _ _ (above (goal.at.loop-base-smaller c).In-loop-base))

pub loop-base-preserved : goal.loop-base-preserved
unfolding certified_in certified_by
loop-base-preserved c =
    let a = c.args in
    let at : ℕ = c.loop-base.at.0 in
    let holds : c.is_certified.result ≡ true = c.if-not-is_certified.false in
    rw c.parent-at.ensures (
      omega (arith, parent_in_lt (parents_of a.self.now.blocks.now) a.self.now.blocks.now.last.0 at (above (goal.at.loop-base-preserved c).In-loop-base)),
      c.loop-base.invariant.1 ∙ next_rank a.self.now.view.now (parents_of a.self.now.blocks.now) (epochs_of a.self.now.blocks.now) a.self.now.blocks.now.last.0 a.self.now.n
          a.base.0 at (unended (goal.at.loop-base-preserved c).In-loop-base) _ c.is_certified.ensures _ holds,
      certified_enough (parent_in (parents_of a.self.now.blocks.now) a.self.now.blocks.now.last.0) (epoch_in (epochs_of a.self.now.blocks.now) a.self.now.blocks.now.last.0) _ at _ _ c.is_certified.ensures holds,
    )

pub returns : goal.returns
returns c =
    let a = c.args in
    let foot = foot_rank a.self.now.view.now (parents_of a.self.now.blocks.now) (epochs_of a.self.now.blocks.now) a.self.now.blocks.now.last.0 a.self.now.n a.base.0 c.loop-base.at.0
    (sym c.is_foot.ensures ∙ c.loop-base-test.false) in
    omega (arith, raised_some c.loop-base.climbed 0, rw foot at c.loop-base.invariant.1)
