-- `packed_log::writing::try_write_end`: refuses with 31, or lays the end with its pad.
use mathlib.Core.Path.{refl, ◌∙◌}
use native.Mathlib.Omega.{arith}
use lib.Pow.{pow_pos}
use Rattle.std.proofs.lemmas.Result.{err_from_is_err_and}
use Rattle.packed_log.specs.Writing.{HasRoom, end_refused}
use Rattle.packed_log.proofs.WritingLaws.{length_end, enough_room, end_zero, call_left, call_laid}
use Rattle.packed_log.proofs.writing.try_write_end.Goals as goal
use Rattle.packed_log.proofs.writing.try_write_end.Goals.{In_ok-check_room}

-- there is room for the end
room : (c : In_ok-check_room) → HasRoom c.args.buf.now c.args.at c.end_width-size.result
room c = enough_room _ _ _ (omega (arith, length_end c.args.at)) c.in_ok-check_room.ensures

pub returns-in_err-check_room : goal.returns-in_err-check_room
unfolding end_refused
returns-in_err-check_room c =
    let left = err_from_is_err_and c.from_residual.result c.from_residual.ensures.1 in
    call_left _ _ _ _ _ _ left.1 (rw (left.2, ← c.end_width-size.ensures.0) c.in_err-check_room.ensures)

pub write_bits-requires : goal.write_bits-requires
write_bits-requires c =
    (omega arith, (room (goal.at.write_bits-requires c).In_ok-check_room).0, pow_pos c.end_width-size.result)

pub overflow_add-result : goal.overflow_add-result
overflow_add-result c = omega (arith, room (goal.at.overflow_add-result c).In_ok-check_room)

pub returns : goal.returns
unfolding end_refused
returns c =
    let counted = c.end_width-size.ensures.0 in
    call_laid _ _ _ _ _ _ _ (rw (← counted) c.in_ok-check_room.ensures) refl (rw counted) (c.write_bits.ensures ∙ rw (end_zero _ _ counted))
