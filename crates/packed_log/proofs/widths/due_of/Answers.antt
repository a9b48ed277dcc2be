-- `packed_log::widths::due_of`: takes the bits of all fields out of the entry, whose rule is proved over all of the table.
use native.Mathlib.Omega.{arith}
use Rattle.packed_log.proofs.RowLaws.{table_due}
use Rattle.packed_log.proofs.widths.due_of.Goals as goal

pub returns : goal.returns
returns c = rw c.entry_of.ensures (table_due c.args.kind (omega arith))
