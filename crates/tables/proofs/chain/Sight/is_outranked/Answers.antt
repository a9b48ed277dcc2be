use borrow.Author.Rules.{rules}
use Prim.Native.Nat.{ℕ, ◌+◌, ◌<◌}
use mathlib.Core.Path.{◌≡◌, sym, ◌∙◌}
use mathlib.Core.Bool.{true}
use native.Mathlib.Omega.{arith}
use borrow.Author.Count.{below_more}
use borrow.Author.Tests.{lt-ltb, le-ltb}
use Rattle.words.proofs.Tests.{any_make, any_fails}
use Rattle.tables.specs.Columns.{parents_of, epochs_of}
use Rattle.tables.specs.Blocks.{parent_in, epoch_in}
use Rattle.tables.specs.Searches.{certified_by, certified_in, outranked}
use Rattle.tables.proofs.Chains.{parent_in_lt}
use Rattle.tables.proofs.Searching.{everyone_enough, certified_enough, raised_start, next_rank, over_genesis, stop_rank, rank_most}
use Rattle.tables.proofs.Walking.{Behind, Settled, unpassed_above, walk_start, walk_low, climb_start, climb_next, climb_end, kept_most, climb_joined}
use Rattle.tables.proofs.chain.Sight.is_outranked.Invariants.{Rank}
use Rattle.tables.proofs.chain.Sight.is_outranked.Goals as goal
use Rattle.tables.proofs.chain.Sight.is_outranked.Goals.{After-joined_rank-rank, Else-down-gt0, Joined-down-gt0, then-down-gt0+else-rank-beat, else-down-gt0+then-not-is_certified_aside}

-- what a climb that comes to a block passed before tells: the rank of the block that it started from
joined : (c : After-joined_rank-rank) → c.joined_rank-rank.result ≡ Rank c.args.self.now c.walk.x
joined c =
    let turn = c.climb in
    climb_joined _ _ _ _ _ _ _ turn.invariant.2 _ c.if-down-gt0.true turn.invariant.3 c.joined_rank-rank.ensures

-- a block that was not passed is above genesis
above : (c : Else-down-gt0) → 0 < c.climb.at.0
above c = unpassed_above c.climb.climbs.passed _ c.climb.invariant.2.genesis (omega (arith, c.if-down-gt0.false))

-- after the climb from block x its rank is kept, and is not greater than the one to beat
abbrev Walked : Joined-down-gt0 → Type 0
Walked c =
    Settled (Rank c.args.self.now) c.climb.climbs.starts c.climb.climbs.passed c.if-down-gt0.ranks
    × Behind (Rank c.args.self.now) c.args.beat (c.walk.x + 1)

-- where the block reached is not certified, the rank is 0
walked : (c : Joined-down-gt0) → Walked c
unfolding certified_in certified_by
walked c =
    let a = c.args.self.now in
    let turn = c.climb in
    let x : ℕ = c.walk.x in
    let of : ℕ → ℕ = Rank c.args.self.now in
    elim c.if-down-gt0.branch as (λ _. Walked c) [
      | then-down-gt0+else-rank-beat w ↦
          let met : w.joined_rank-rank.result ≡ of x = climb_joined _ _ _ _ _ _ _ turn.invariant.2 _ w.if-down-gt0.true turn.invariant.3 w.joined_rank-rank.ensures in (
            rw w.ranks-is (climb_end _ _ _ _ x _ 0 turn.invariant.2 _ (omega arith) met),
            below_more _ x c.walk.invariant.2 (le-ltb _ (of x) (omega (arith, met, w.if-rank-beat.false))),
          )
      | else-down-gt0+then-not-is_certified_aside w ↦
          let over : 0 < turn.at.0 = unpassed_above turn.climbs.passed _ turn.invariant.2.genesis (omega (arith, w.if-down-gt0.false)) in
          let stop = stop_rank a.view.now (parents_of a.blocks.now) (epochs_of a.blocks.now) a.blocks.now.last.0 a.n 0 turn.at.0
          (over_genesis _ over) _ w.is_certified_aside.ensures _ w.if-not-is_certified_aside.true in
          let none : 0 ≡ of x = sym (turn.invariant.3 ∙ stop) in (
            rw w.ranks-is (climb_end _ _ _ _ x _ 0 turn.invariant.2 0 (omega arith) none),
            below_more _ x c.walk.invariant.2 (le-ltb _ (of x) (omega (arith, none))),
          )
    ]

pub walk-init : goal.walk-init
walk-init c =
    let a = c.args in (
      everyone_enough _ a.self.now.few,
      walk_start _ _ _ _ _ a.b.0 _ _ c.requires.2 a.beat (omega arith) c.requires.0 c.requires.1,
      walk_low _ a.beat a.beat (rank_most _ _ _ _ _) (omega arith),
    )

pub climb-init : goal.climb-init
climb-init c = (search rules, c.walk.invariant.0, climb_start _ _ _ _ _ c.walk.invariant.1, raised_start _)

pub joined_rank-rank-requires : goal.joined_rank-rank-requires
joined_rank-rank-requires c = kept_most _ _ _ _ _ _ 0 c.climb.invariant.2 c.if-down-gt0.true

pub walk-preserved : goal.walk-preserved
walk-preserved c =
    let now = walked (goal.at.walk-preserved c).Joined-down-gt0 in
    (c.climb.invariant.1, now.0, now.1)

pub climb-smaller : goal.climb-smaller
climb-smaller c = rw c.parent-at.ensures (parent_in_lt _ _ _ (above (goal.at.climb-smaller c).Else-down-gt0))

pub climb-preserved : goal.climb-preserved
unfolding certified_in certified_by
climb-preserved c =
    let a = c.args in
    let turn = c.climb in
    let at : ℕ = turn.at.0 in
    let under : parent_in (parents_of a.self.now.blocks.now) a.self.now.blocks.now.last.0 at < at = parent_in_lt (parents_of a.self.now.blocks.now) a.self.now.blocks.now.last.0 at (above (goal.at.climb-preserved c).Else-down-gt0) in
    let holds : c.is_certified_aside.result ≡ true = c.if-not-is_certified_aside.false in
    let next = next_rank a.self.now.view.now (parents_of a.self.now.blocks.now) (epochs_of a.self.now.blocks.now) a.self.now.blocks.now.last.0 a.self.now.n 0 at (over_genesis at (above (goal.at.climb-preserved c).Else-down-gt0)) _ c.is_certified_aside.ensures
    turn.climbed holds in
    rw c.parent-at.ensures (
      omega (arith, under),
      certified_enough (parent_in (parents_of a.self.now.blocks.now) a.self.now.blocks.now.last.0) (epoch_in (epochs_of a.self.now.blocks.now) a.self.now.blocks.now.last.0) _ at _ _ c.is_certified_aside.ensures holds,
      climb_next _ _ _ _ _ at _ turn.invariant.2 (parent_in (parents_of a.self.now.blocks.now) a.self.now.blocks.now.last.0 at) (omega arith) under turn.invariant.3,
      turn.invariant.3 ∙ next,
    )

pub returns-then-rank-beat : goal.returns-then-rank-beat
unfolding outranked
returns-then-rank-beat c =
    let met = joined (goal.at.returns-then-rank-beat c).After-joined_rank-rank in
    sym (any_make _ _ c.walk.x (omega arith) (lt-ltb _ (Rank c.args.self.now c.walk.x) (omega (arith, met))))

pub returns : goal.returns
unfolding outranked
returns c = sym (any_fails _ _ (λ k l. c.walk.invariant.2 k (omega arith)))

pub returns-after-down-gt0 : goal.returns-after-down-gt0
unfolding outranked
returns-after-down-gt0 c =
    sym (any_fails _ _ (λ k l. (walked (goal.at.returns-after-down-gt0 c).Joined-down-gt0).1 k (omega arith)))
