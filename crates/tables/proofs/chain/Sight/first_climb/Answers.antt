use borrow.Author.Rules.{rules}
use Prim.Native.Nat.{ℕ}
use mathlib.Core.Path.{◌≡◌, refl, sym, ◌∙◌}
use mathlib.Core.Bool.{true}
use native.Mathlib.Omega.{arith}
use Rattle.words.specs.Tests.{either}
use Rattle.tables.specs.Columns.{parents_of, epochs_of}
use Rattle.tables.specs.Blocks.{parent_in, epoch_in}
use Rattle.tables.specs.Searches.{certified_by, certified_in}
use Rattle.tables.proofs.Chains.{parent_in_lt}
use Rattle.tables.proofs.Searching.{everyone_enough, certified_enough, raised_start, raised_some, foot_rank, next_rank, over_genesis, stop_rank}
use Rattle.tables.proofs.Walking.{passed_next}
use Rattle.tables.proofs.chain.Sight.first_climb.Goals as goal

pub loop-at-init : goal.loop-at-init
loop-at-init c = (search rules, raised_start _, everyone_enough _ c.args.self.now.few, c.requires)

pub returns-then-not-is_certified : goal.returns-then-not-is_certified
unfolding certified_in certified_by
returns-then-not-is_certified c =
    let turn = c.loop-at in
    let a = c.args in
    let stop = stop_rank a.self.now.view.now (parents_of a.self.now.blocks.now) (epochs_of a.self.now.blocks.now) a.self.now.blocks.now.last.0 a.self.now.n 0 _ (over_genesis _ c.loop-at-test.true) _
    c.is_certified.ensures _ c.if-not-is_certified.true in
    (sym (turn.invariant.1 ∙ stop), turn.invariant.3)

pub loop-at-smaller : goal.loop-at-smaller
loop-at-smaller c = rw c.parent-at.ensures (parent_in_lt _ _ _ c.loop-at-test.true)

pub loop-at-preserved : goal.loop-at-preserved
unfolding certified_in certified_by
loop-at-preserved c =
    let turn = c.loop-at in
    let a = c.args in
    let at : ℕ = turn.at.0 in
    let holds : c.is_certified.result ≡ true = c.if-not-is_certified.false in
    rw c.parent-at.ensures (
      omega (arith, parent_in_lt (parents_of a.self.now.blocks.now) a.self.now.blocks.now.last.0 at c.loop-at-test.true),
      turn.invariant.1 ∙ next_rank a.self.now.view.now (parents_of a.self.now.blocks.now) (epochs_of a.self.now.blocks.now) a.self.now.blocks.now.last.0 a.self.now.n 0 at (over_genesis _ c.loop-at-test.true) _
          c.is_certified.ensures _ holds,
      certified_enough (parent_in (parents_of a.self.now.blocks.now) a.self.now.blocks.now.last.0) (epoch_in (epochs_of a.self.now.blocks.now) a.self.now.blocks.now.last.0) _ at _ _ c.is_certified.ensures holds,
      passed_next _ _ _ _ _ _ _ _ turn.invariant.3 at _ (omega arith) turn.invariant.1,
    )

pub returns : goal.returns
unfolding either
returns c =
    let turn = c.loop-at in
    let a = c.args in
    let end : turn.at.0 ≡ 0 = omega arith in
    let foot = foot_rank a.self.now.view.now (parents_of a.self.now.blocks.now) (epochs_of a.self.now.blocks.now) a.self.now.blocks.now.last.0 a.self.now.n 0 0 refl in
    (omega (arith, raised_some turn.climbed 0, rw (end, foot) at turn.invariant.1), turn.invariant.3)
