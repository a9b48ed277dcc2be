-- `packed_log::field::read_field`: the field is its upper bits, moved up, and its lower bits.
use mathlib.Core.Path.{sym, ◌∙◌}
use native.Mathlib.Omega.{arith}
use Rattle.words.specs.Tests.{choose}
use Rattle.packed_log.specs.Fields.{field_at}
use Rattle.packed_log.proofs.FieldLaws.{Room, in_room, parts}
use Rattle.packed_log.proofs.field.read_field.Goals as goal
use Rattle.packed_log.proofs.field.read_field.Goals.{After-read_bits-2, Else-not-is_there}

-- the bits are there
room : (c : Else-not-is_there) → Room c.args.bytes.now c.args.at c.args.width
room c = in_room _ _ _ (sym c.is_there.ensures ∙ c.if-not-is_there.false)

pub returns-then-not-is_there : goal.returns-then-not-is_there
unfolding field_at choose
returns-then-not-is_there c = rw (sym c.is_there.ensures ∙ c.if-not-is_there.true)

pub read_bits-requires : goal.read_bits-requires
unfolding field_at choose
read_bits-requires c = omega (arith, room (goal.at.read_bits-requires c).Else-not-is_there)

pub overflow_add-at : goal.overflow_add-at
unfolding field_at choose
overflow_add-at c = omega (arith, room (goal.at.overflow_add-at c).Else-not-is_there)

pub read_bits-requires-2 : goal.read_bits-requires-2
unfolding field_at choose
read_bits-requires-2 c = omega (arith, room (goal.at.read_bits-requires-2 c).Else-not-is_there)

pub returns : goal.returns
returns c = search parts depth 3
