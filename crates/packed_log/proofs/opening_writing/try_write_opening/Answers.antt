-- `packed_log::opening_writing::try_write_opening`: refuses what the register refuses, then with 31, or lays the opening.
use mathlib.Core.Path.{◌≡◌, refl, sym}
use native.Mathlib.Omega.{arith}
use Prim.Native.Nat.{◌+◌, ◌*◌}
use lib.ListN.{length}
use Rattle.std.proofs.lemmas.Result.{err_from_is_err_and}
use Rattle.quorum.specs.Opening.{opening_refusal}
use Rattle.refusals.specs.Numbers.{number_of}
use Rattle.refusals.proofs.Numbers.{number_some}
use Rattle.packed_log.specs.Writing.{HasRoom}
use Rattle.packed_log.proofs.WritingLaws.{length_opening, enough_room, call_left, call_laid, opening_bad, opening_room}
use Rattle.packed_log.proofs.OpeningLaws.{Accepted, accepted}
use Rattle.packed_log.proofs.opening_writing.try_write_opening.Goals as goal
use Rattle.packed_log.proofs.opening_writing.try_write_opening.Goals.{In_ok-check_opening, In_ok-check_room}

-- there the register does not refuse the opening
opens : (c : In_ok-check_opening) → opening_refusal c.args.n c.args.trust c.args.schedule.now ≡ 0
opens c = sym c.in_ok-check_opening.ensures

held : (c : In_ok-check_opening) → Accepted c.args.n c.args.trust c.args.schedule.now
held c = accepted _ _ _ (opens c)

-- and there the buffer has room for it
room : (c : In_ok-check_room) → HasRoom c.args.buf.now c.args.at (15 + c.args.n + 5 * length c.args.schedule.now)
room c = enough_room _ _ _ (omega arith) c.in_ok-check_room.ensures

pub returns-in_err-check_opening : goal.returns-in_err-check_opening
returns-in_err-check_opening c =
    let left = err_from_is_err_and c.from_residual.result c.from_residual.ensures.1 in
    call_left _ _ _ _ _ _ left.1 (opening_bad _ _ _ _ _ (number_of left.0) (rw left.2 c.in_err-check_opening.ensures) (number_some left.0))

pub overflow_mul-size : goal.overflow_mul-size
overflow_mul-size c = omega (arith, (held (goal.at.overflow_mul-size c).In_ok-check_opening).turns)

pub overflow_add-size-3 : goal.overflow_add-size-3
overflow_add-size-3 c = omega (arith, (held (goal.at.overflow_add-size-3 c).In_ok-check_opening).turns)

pub returns-in_err-check_room : goal.returns-in_err-check_room
returns-in_err-check_room c =
    let a = c.args in
    let left = err_from_is_err_and c.from_residual-in_err-check_room.result c.from_residual-in_err-check_room.ensures.1 in
    let told = opening_room a.buf.now a.at a.n a.trust a.schedule.now (opens (goal.at.returns-in_err-check_room c).In_ok-check_opening) in
    call_left _ _ _ _ _ _ left.1 (rw (left.2, told, length_opening) c.in_err-check_room.ensures)

pub lay_opening-requires : goal.lay_opening-requires
lay_opening-requires c =
    let held = held (goal.at.lay_opening-requires c).In_ok-check_opening in (
      held.count.1,
      record { most = held.turns.1; leader = λ i l. omega (arith, held.leader i l, held.count) },
      room (goal.at.lay_opening-requires c).In_ok-check_room,
    )

pub overflow_add-result : goal.overflow_add-result
overflow_add-result c = omega (arith, room (goal.at.overflow_add-result c).In_ok-check_room)

pub returns : goal.returns
returns c =
    let a = c.args in
    let told = opening_room a.buf.now a.at a.n a.trust a.schedule.now (opens (goal.at.returns c).In_ok-check_opening) in
    call_laid _ _ _ _ _ _ _ (rw (told, length_opening) c.in_ok-check_room.ensures) refl (rw length_opening) c.lay_opening.ensures
