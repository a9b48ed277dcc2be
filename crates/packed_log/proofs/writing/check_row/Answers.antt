-- `packed_log::writing::check_row`: makes the tests of a row in their order.
use mathlib.Core.Path.{sym, ◌∙◌}
use Rattle.words.proofs.Turns.{skip}
use Rattle.packed_log.proofs.Judging.{judging}
use Rattle.packed_log.proofs.WritingLaws.{length_row}
use Rattle.packed_log.specs.Writing.{row_refused}
use Rattle.packed_log.proofs.writing.check_row.Goals as goal

pub returns-then-is_wide : goal.returns-then-is_wide
unfolding row_refused
returns-then-is_wide c = search judging depth 12

pub returns : goal.returns
unfolding row_refused
returns c =
    skip _ _ 9 _ (sym c.is_wide.ensures ∙ c.if-is_wide.false)
    (rw (length_row, ← c.due_of.ensures.0) c.check_room.ensures)
