-- `packed_log::item::read_item`: what was skipped, a step with its fields.
use borrow.Author.Tests.{eq-eqb, ne_eqb}
use native.Mathlib.Omega.{arith}
use Prim.Native.Nat.{◌<◌, ◌≤◌, ◌+◌, ◌*◌}
use lib.ListN.{length}
use Rattle.refusals.specs.Numbers.{number_of}
use Rattle.refusals.proofs.Numbers.{number_some}
use Rattle.words.specs.Tests.{choose}
use Rattle.packed_log.specs.Items.{with_fields}
use Rattle.packed_log.specs.Widths.{kinds, due}
use Rattle.packed_log.proofs.RowLaws.{kind_read}
use Rattle.packed_log.proofs.ItemLaws.{narrow_row, item_read, step_there}
use Rattle.packed_log.proofs.item.read_item.Goals as goal
use Rattle.packed_log.proofs.item.read_item.Goals.{In-Ok-2}

-- a step's fields are there
there : (c : In-Ok-2) → (c.in-Ok.skip.kind < kinds) × (c.args.at + 4 + due c.in-Ok.skip.kind ≤ 8 * length c.args.log.now) × (length c.args.log.now ≤ 65536)
there c = step_there _ _ _ c.in-Ok.ensures c.if-skip-eq0.false

pub returns-in-Err : goal.returns-in-Err
unfolding with_fields choose
returns-in-Err c =
    item_read _ _ _ c.in-Err.ensures _ (rw (ne_eqb (number_of c.in-Err.refusal) 0 (number_some c.in-Err.refusal), c.number.ensures))

pub returns-in-Ok : goal.returns-in-Ok
unfolding with_fields choose
returns-in-Ok c = item_read _ _ _ c.in-Ok.ensures _ (rw (eq-eqb _ 0 c.if-skip-eq0.true))

pub overflow_add-at : goal.overflow_add-at
overflow_add-at c = omega (arith, there (goal.at.overflow_add-at c).In-Ok-2)

pub read_row-row-requires : goal.read_row-row-requires
read_row-row-requires c = there (goal.at.read_row-row-requires c).In-Ok-2

pub step_of-requires : goal.step_of-requires
step_of-requires c =
    let same = kind_read _ _ _ _ c.read_row-row.ensures in
    (omega (arith, same), omega (arith, same, (there (goal.at.step_of-requires c).In-Ok-2).0), rw c.read_row-row.ensures (narrow_row _ _ _))

pub returns-in-Ok-2 : goal.returns-in-Ok-2
unfolding with_fields choose
returns-in-Ok-2 c =
    item_read _ _ _ c.in-Ok.ensures _ (rw (ne_eqb _ 0 c.if-skip-eq0.false, c.step_of.ensures, c.read_row-row.ensures))
