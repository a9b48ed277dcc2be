-- `packed_log::widths::width_of`: takes the byte of the column out of the entry, whose rule is proved over all of the table.
use native.Mathlib.Omega.{arith}
use Rattle.packed_log.proofs.RowLaws.{table_width}
use Rattle.packed_log.proofs.widths.width_of.Goals as goal

pub returns : goal.returns
returns c = rw c.entry_of.ensures (table_width c.args.kind c.args.column (omega arith) (omega arith))
