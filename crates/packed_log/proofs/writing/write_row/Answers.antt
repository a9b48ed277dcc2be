use mathlib.Core.Path.{◌≡◌, ap, ◌∙◌}
use native.Mathlib.Omega.{arith}
use Prim.Native.Nat.{◌+◌, ◌*◌, ◌≤◌, ◌<◌, ◌^◌}
use lib.ListN.{length, get_or}
use Rattle.packed_log.proofs.BitsLaws.{length_put}
use Rattle.packed_log.proofs.RowLaws.{first_width, ahead, ahead_next, ahead_due, narrow_at}
use Rattle.packed_log.proofs.WritingLaws.{put_head, next_column, front_all}
use Rattle.packed_log.proofs.writing.write_row.Goals as goal
use Rattle.packed_log.proofs.writing.write_row.Goals.{After-width_of-first, After-width_of-width}

-- the first number has room in its column
small : (c : After-width_of-first) → get_or c.args.r.fields 0 0 < 2 ^ c.width_of-first.result
small c = rw c.width_of-first.ensures.0 (narrow_at c.args.r.kind c.args.r.fields 0 c.requires.2 (omega arith))

-- the buffer keeps its length
long : (c : After-width_of-width) → length c.loop-column.buf ≡ length c.args.buf.now
long c = ap length c.loop-column.invariant.1 ∙ length_put _ _ _

-- the column has room in it
room : (c : After-width_of-width) → c.loop-column.next + c.width_of-width.result ≤ 8 * length c.args.buf.now
room c = omega (arith, c.requires.1.0, ahead_due c.args.r.kind c.loop-column.column c.loop-column-test.true)

pub head_of-requires : goal.head_of-requires
head_of-requires c =
    let pre = c.requires in
    (pre.0, rw c.width_of-first.ensures.0 (first_width _ pre.0), small (goal.at.head_of-requires c).After-width_of-first)

pub write_bits-requires : goal.write_bits-requires
write_bits-requires c =
    let pre = c.requires in
    (omega (arith, c.width_of-first.ensures.0, first_width _ pre.0), omega (arith, pre.1, c.width_of-first.ensures.0), c.head_of.ensures.1)

pub loop-column-init : goal.loop-column-init
unfolding ahead
loop-column-init c =
    (omega (arith, c.width_of-first.ensures.0), put_head _ _ _ _ _ _ _ c.width_of-first.ensures.0 c.head_of.ensures.0 (small (goal.at.loop-column-init c).After-width_of-first) c.write_bits.ensures)

pub write_bits-requires-in-loop-column : goal.write_bits-requires-in-loop-column
write_bits-requires-in-loop-column c =
    let pre = c.requires in
    let here = (goal.at.write_bits-requires-in-loop-column c).After-width_of-width in
    (omega arith, omega (arith, room here, long here), rw c.width_of-width.ensures.0 (narrow_at c.args.r.kind c.args.r.fields c.loop-column.column pre.2 c.loop-column-test.true))

pub overflow_add-next-in-loop-column : goal.overflow_add-next-in-loop-column
overflow_add-next-in-loop-column c =
    omega (arith, c.requires.1.1, room (goal.at.overflow_add-next-in-loop-column c).After-width_of-width, ahead_due c.args.r.kind c.loop-column.column c.loop-column-test.true)

pub loop-column-preserved : goal.loop-column-preserved
loop-column-preserved c =
    let turn = c.loop-column.invariant in
    (omega (arith, ahead_next c.args.r.kind c.loop-column.column), next_column _ _ _ _ _ _ _ _ turn.1 c.width_of-width.ensures.0 (c.write_bits-in-loop-column.ensures ∙ rw turn.0))

pub returns : goal.returns
returns c =
    let end : c.loop-column.column ≡ 4 = omega arith in
    (rw end at c.loop-column.invariant.1) ∙ rw front_all
