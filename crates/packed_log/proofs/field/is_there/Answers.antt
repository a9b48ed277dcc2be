-- `packed_log::field::is_there`: makes the three tests, the last of them without a sum.
use borrow.Author.Tests.{le-leb, lt-leb}
use Rattle.words.specs.Tests.{both, conj}
use Rattle.words.proofs.Tests.{and_both, both_none, both_all}
use Rattle.packed_log.specs.Fields.{there}
use Rattle.packed_log.proofs.FieldLaws.{room_behind, none_behind}
use Rattle.packed_log.proofs.field.is_there.Goals as goal

pub returns-then-bytes-gt-LONGEST : goal.returns-then-bytes-gt-LONGEST
unfolding there conj both
returns-then-bytes-gt-LONGEST c = rw (lt-leb _ _ c.if-bytes-gt-LONGEST.true)

pub returns-then-total-at : goal.returns-then-total-at
unfolding there conj both
returns-then-total-at c = rw (le-leb _ _ c.if-bytes-gt-LONGEST.false, none_behind _ _ _ c.if-total-at.true, both_none)

pub returns : goal.returns
unfolding there conj both
returns c =
    rw (le-leb _ _ c.if-bytes-gt-LONGEST.false, and_both, both_all, room_behind _ _ _ c.if-total-at.false)
