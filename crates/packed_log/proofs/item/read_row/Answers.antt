use mathlib.Core.Path.{◌≡◌, refl, ◌∙◌}
use native.Mathlib.Omega.{arith}
use Prim.Native.Nat.{◌+◌, ◌*◌, ◌≤◌}
use lib.ListN.{length, length-set}
use Rattle.packed_log.specs.Bits.{field}
use Rattle.packed_log.specs.Widths.{width}
use Rattle.packed_log.proofs.RowLaws.{ahead, ahead_next, ahead_due, read_by, next_read}
use Rattle.packed_log.proofs.item.read_row.Goals as goal
use Rattle.packed_log.proofs.item.read_row.Goals.{After-width_of-width}

-- the column is there
room : (c : After-width_of-width) → c.loop-column.next + c.width_of-width.result ≤ 8 * length c.args.log.now
room c = omega (arith, ahead_due c.args.kind c.loop-column.column c.loop-column-test.true)

pub loop-column-init : goal.loop-column-init
unfolding ahead
loop-column-init c = (omega arith, refl, λ k h. absurd (omega (arith, h)))

pub read_bits-requires : goal.read_bits-requires
read_bits-requires c = (omega arith, room (goal.at.read_bits-requires c).After-width_of-width, omega arith)

pub overflow_add-next : goal.overflow_add-next
overflow_add-next c = omega (arith, room (goal.at.overflow_add-next c).After-width_of-width)

pub loop-column-preserved : goal.loop-column-preserved
loop-column-preserved c =
    let turn = c.loop-column.invariant in
    let read : c.read_bits.result ≡ field c.args.log.now (c.args.at + ahead c.args.kind c.loop-column.column) (width c.args.kind c.loop-column.column) = c.read_bits.ensures.0 ∙ rw (turn.0, c.width_of-width.ensures.0) in
    (omega (arith, ahead_next c.args.kind c.loop-column.column), rw length-set turn.1, next_read _ _ _ _ _ _ (omega arith) turn.2 read)

pub returns : goal.returns
returns c =
    let end : c.loop-column.column ≡ 4 = omega arith in
    read_by _ _ _ _ (rw end at c.loop-column.invariant.2)
