-- `packed_log::writing::try_write_step`: gives the refusal of the step's row, or lays the row.
use Rattle.packed_log.specs.Rows.{Row, Narrow, row_by}
use Rattle.packed_log.specs.Widths.{kinds, due}
use Rattle.packed_log.specs.Writing.{HasRoom}
use Prim.Native.Nat.{◌+◌, ◌<◌}
use mathlib.Core.Path.{refl, sym, ap}
use native.Mathlib.Omega.{arith}
use Rattle.std.proofs.lemmas.Result.{err_from_is_err_and}
use Rattle.packed_log.proofs.RowLaws.{step_row}
use Rattle.packed_log.proofs.WritingLaws.{length_row, row_clear, call_left, call_laid}
use Rattle.packed_log.proofs.writing.try_write_step.Goals as goal
use Rattle.packed_log.proofs.writing.try_write_step.Goals.{After-row_of-row, In_ok-check_row}

-- the row has one of the kinds
known : (c : After-row_of-row) → c.row_of-row.result.kind < kinds
known c = omega (arith, ap (λ (r : Row). r.kind) c.row_of-row.ensures, (step_row c.args.step).2)

-- where it is not refused, it is narrow enough and has room
clear : (c : In_ok-check_row) → Narrow (row_by c.row_of-row.result) × HasRoom c.args.buf.now c.args.at (4 + due c.row_of-row.result.kind)
clear c = row_clear _ _ _ (sym c.in_ok-check_row.ensures)

pub check_row-requires : goal.check_row-requires
check_row-requires c = known (goal.at.check_row-requires c).After-row_of-row

pub returns-in_err-check_row : goal.returns-in_err-check_row
returns-in_err-check_row c =
    let left = err_from_is_err_and c.from_residual.result c.from_residual.ensures.1 in
    call_left _ _ _ _ _ _ left.1 (rw (left.2, ← c.row_of-row.ensures) c.in_err-check_row.ensures)

pub write_row-requires : goal.write_row-requires
write_row-requires c =
    (known (goal.at.write_row-requires c).After-row_of-row, (clear (goal.at.write_row-requires c).In_ok-check_row).1, (clear (goal.at.write_row-requires c).In_ok-check_row).0)

pub overflow_add-result : goal.overflow_add-result
overflow_add-result c = omega (arith, (clear (goal.at.overflow_add-result c).In_ok-check_row).1.1)

pub due_of-requires : goal.due_of-requires
due_of-requires c = known (goal.at.due_of-requires c).After-row_of-row

pub overflow_add-result-2 : goal.overflow_add-result-2
overflow_add-result-2 c = omega (arith, (clear (goal.at.overflow_add-result-2 c).In_ok-check_row).1.1, c.due_of.ensures.0)

pub returns : goal.returns
returns c =
    rw (← c.row_of-row.ensures)
    (call_laid _ _ _ _ _ _ _ c.in_ok-check_row.ensures refl (rw length_row (omega (arith, c.due_of.ensures.0))) c.write_row.ensures)
