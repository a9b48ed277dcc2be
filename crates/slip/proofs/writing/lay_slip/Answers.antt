use native.Mathlib.Omega.{arith}
use Rattle.tables.specs.Blocks.{parent_in}
use Rattle.tables.specs.Columns.{parents_of}
use Rattle.tables.proofs.Chains.{parent_in_lt}
use Rattle.slip.proofs.WritingLaws.{Laid, laid_pad, laid_next, laid_row, laid_all}
use Rattle.slip.proofs.writing.lay_slip.Goals as goal
use Rattle.slip.proofs.writing.lay_slip.Goals.{At-loop-at}

-- what the loop has laid over the slice as it was lent
laid : (c : At-loop-at) → (let a = c.args in Laid a.slip.now a.rows.now (parent_in (parents_of a.blocks.now) a.blocks.now.last.0) a.n a.b.0 a.due c.loop-at.slip c.loop-at.end c.loop-at.at.0)
laid c = c.loop-at.invariant _ c.requires c.write_field.ensures

pub loop-at-init : goal.loop-at-init
loop-at-init c l h e = laid_pad l _ _ _ _ _ h _ e

pub overflow_sub-end : goal.overflow_sub-end
overflow_sub-end c =
    laid_next _ _ _ _ _ _ c.requires (parent_in_lt _ _) c.loop-at-test.true (laid (goal.at.overflow_sub-end c).At-loop-at)

pub loop-at-smaller : goal.loop-at-smaller
loop-at-smaller c = rw c.parent-at.ensures (parent_in_lt _ _ _ c.loop-at-test.true)

pub loop-at-preserved : goal.loop-at-preserved
loop-at-preserved c l h e =
    rw c.parent-at.ensures
    (laid_row l _ _ _ _ _ h (parent_in_lt _ _) c.loop-at-test.true (c.loop-at.invariant l h e)
    c.write_field-in-loop-at.ensures)

pub returns : goal.returns
returns c =
    laid_all _ _ _ _ _ _ c.requires (omega arith) (laid (goal.at.returns c).At-loop-at) c.write_field-2.ensures
