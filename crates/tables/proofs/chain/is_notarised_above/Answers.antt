use Prim.Native.Nat.{ℕ}
use mathlib.Core.Path.{◌≡◌, sym, ◌∙◌}
use mathlib.Core.Bool.{false}
use mathlib.Core.List.{List}
use native.Mathlib.Omega.{arith}
use lib.Dec.{eqb}
use Rattle.words.specs.Tests.{either}
use Rattle.tables.specs.Columns.{parents_of, epochs_of, signers_of, about_of, sent_of}
use Rattle.tables.specs.Searches.{signers_in, view_in, certified_by, certified_in}
use Rattle.tables.proofs.Views.{view_entry}
use Rattle.tables.proofs.Searching.{everyone_enough, foot_certified, next_certified, stop_certified, rank_test}
use Rattle.tables.proofs.chain.is_notarised_above.Goals as goal
use Rattle.tables.proofs.chain.is_notarised_above.Goals.{After-is_certified, Else-is_foot, Start}

-- the view, by what the function was lent
abbrev seen : Start → List ℕ
seen s = view_in s.args.messages.now.places (signers_of s.args.messages.now) (about_of s.args.messages.now) (sent_of s.args.messages.now) s.args.office.0

-- what the test of a turn tells: the block reached is not the foot
unended : (c : Else-is_foot) → either (eqb c.loop.at.0 0) (eqb c.loop.at.0 c.args.base.0) ≡ false
unended c = sym c.is_foot.ensures ∙ c.if-is_foot.false

-- the test of a turn, said of the view: a set that is known is what the view has for the block
tested : (c : After-is_certified) → (c.is_certified.result ≡ certified_in (view_in c.args.messages.now.places (signers_of c.args.messages.now) (about_of c.args.messages.now) (sent_of c.args.messages.now) c.args.office.0) (parents_of c.args.blocks.now) (epochs_of c.args.blocks.now) c.args.blocks.now.last.0 c.office_count-few.result c.loop.at.0)
unfolding certified_in certified_by
tested c =
    let set : c.in-Some.set ≡ signers_in c.args.messages.now.places (signers_of c.args.messages.now) (about_of c.args.messages.now) (sent_of c.args.messages.now) c.args.office.0 c.loop.at.0 = c.in-Some.ensures.signers in
    rw (view_entry _ _ _ _ _ c.loop.at.0 c.block_signers.ensures.within, ← set) c.is_certified.ensures

pub returns-then-is_foot : goal.returns-then-is_foot
returns-then-is_foot c =
    let foot = foot_certified _ _ _ _ _ _ _ (sym c.is_foot.ensures ∙ c.if-is_foot.true) in
    rw (← c.office_count-few.ensures) (sym (c.loop.invariant ∙ foot))

pub is_certified-requires : goal.is_certified-requires
is_certified-requires c = everyone_enough _ (omega (arith, c.office_count-few.ensures))

pub returns-then-not-is_certified : goal.returns-then-not-is_certified
returns-then-not-is_certified c =
    let stop = stop_certified (seen (goal.at.returns-then-not-is_certified c).Start) (parents_of c.args.blocks.now) (epochs_of c.args.blocks.now) _ _ _ _
    (unended (goal.at.returns-then-not-is_certified c).Else-is_foot) _ (tested (goal.at.returns-then-not-is_certified c).After-is_certified) c.if-not-is_certified.true in
    rw (← c.office_count-few.ensures, c.loop.invariant) (sym stop)

pub loop-preserved : goal.loop-preserved
loop-preserved c =
    let next = next_certified (seen (goal.at.loop-preserved c).Start) (parents_of c.args.blocks.now) (epochs_of c.args.blocks.now) _ _ _ _
    (unended (goal.at.loop-preserved c).Else-is_foot) _ (tested (goal.at.loop-preserved c).After-is_certified) c.if-not-is_certified.false in
    rw c.parent-at.ensures (c.loop.invariant ∙ next)

pub returns : goal.returns
returns c =
    rw (← c.office_count-few.ensures, c.rank.ensures, c.view-view.ensures)
    (rank_test _ _ _ _ _ _ _ ∙ sym c.loop.invariant)
