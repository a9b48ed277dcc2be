-- `packed_log::field::write_field`: the upper bits, and the lower bits behind them, are the field.
use borrow.Author.Rules.{rules}
use mathlib.Core.Path.{sym, ◌∙◌}
use native.Mathlib.Omega.{arith}
use Rattle.words.specs.Tests.{choose}
use Rattle.packed_log.specs.Fields.{with_field}
use Rattle.packed_log.proofs.FieldLaws.{Room, in_room, parts}
use Rattle.packed_log.proofs.field.write_field.Goals as goal
use Rattle.packed_log.proofs.field.write_field.Goals.{Else-not-is_there}

-- the bits are there
room : (c : Else-not-is_there) → Room c.args.buf.now c.args.at c.args.width
room c = in_room _ _ _ (sym c.is_there.ensures ∙ c.if-not-is_there.false)

pub returns-then-not-is_there : goal.returns-then-not-is_there
unfolding with_field choose
returns-then-not-is_there c = rw (sym c.is_there.ensures ∙ c.if-not-is_there.true)

pub part_of-requires : goal.part_of-requires
unfolding with_field choose
part_of-requires c = omega (arith, room (goal.at.part_of-requires c).Else-not-is_there)

pub write_bits-requires : goal.write_bits-requires
unfolding with_field choose
write_bits-requires c = omega (arith, room (goal.at.write_bits-requires c).Else-not-is_there)

pub overflow_add-at : goal.overflow_add-at
unfolding with_field choose
overflow_add-at c = omega (arith, room (goal.at.overflow_add-at c).Else-not-is_there)

pub write_bits-requires-2 : goal.write_bits-requires-2
write_bits-requires-2 c =
    (search rules, omega (arith, room (goal.at.write_bits-requires-2 c).Else-not-is_there), search rules)

pub returns : goal.returns
unfolding with_field choose
returns c = search parts depth 3
