use mathlib.Core.Path.{◌≡◌, sym, ◌∙◌}
use native.Mathlib.Omega.{arith}
use Rattle.words.specs.Tests.{choose}
use Rattle.tables.specs.Blocks.{parent_in}
use Rattle.tables.specs.Columns.{parents_of}
use Rattle.tables.proofs.Chains.{parent_in_lt}
use Rattle.slip.specs.Rows.{row_in}
use Rattle.slip.proofs.Judging.{row_before, row_read, untrue, judged_more, judged_all}
use Rattle.slip.proofs.checking.check_marks.Goals as goal
use Rattle.slip.proofs.checking.check_marks.Goals.{After-read_field-row}

-- the row that was read
read : (c : After-read_field-row) → let a = c.args in c.read_field-row.result ≡ row_in a.slip.now (parent_in (parents_of a.blocks.now) a.blocks.now.last.0) a.n c.loop-at.at.0
read c =
    c.read_field-row.ensures
    ∙ row_read _ _ _ _ _ _ c.loop-at.invariant c.loop-at-test.true c.requires.3 c.requires.0

pub overflow_sub-end : goal.overflow_sub-end
overflow_sub-end c = omega (arith, row_before _ _ _ _ _ _ c.loop-at.invariant c.loop-at-test.true)

pub returns-then-not-is_within : goal.returns-then-not-is_within
returns-then-not-is_within c =
    untrue _ _ _ _ _ _ c.loop-at.invariant c.loop-at-test.true _ (read (goal.at.returns-then-not-is_within c).After-read_field-row)
    (sym c.is_within.ensures ∙ c.if-not-is_within.true) _

pub loop-at-smaller : goal.loop-at-smaller
loop-at-smaller c = rw c.parent-at.ensures (parent_in_lt _ _ _ c.loop-at-test.true)

pub loop-at-preserved : goal.loop-at-preserved
loop-at-preserved c =
    rw c.parent-at.ensures
    (judged_more _ _ _ _ _ _ c.loop-at.invariant c.loop-at-test.true _ (read (goal.at.loop-at-preserved c).After-read_field-row)
    (sym c.is_within.ensures ∙ c.if-not-is_within.false) _ c.is_link-notarised.ensures)

pub returns-then-notarised : goal.returns-then-notarised
unfolding choose
returns-then-notarised c = judged_all _ _ _ _ _ _ c.loop-at.invariant (omega arith) 0 (rw c.if-notarised.true)

pub returns-else-notarised : goal.returns-else-notarised
unfolding choose
returns-else-notarised c = judged_all _ _ _ _ _ _ c.loop-at.invariant (omega arith) 21 (rw c.if-notarised.false)
