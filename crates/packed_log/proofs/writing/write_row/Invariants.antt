-- `packed_log::writing::write_row`: at each turn the kind and the columns before this one are laid.
use Prim.Native.Nat.{◌+◌}
use mathlib.Core.Path.{◌≡◌}
use Rattle.packed_log.specs.Bits.{put}
use Rattle.packed_log.proofs.RowLaws.{ahead}
use Rattle.packed_log.proofs.WritingLaws.{front_bits}
use Rattle.packed_log.proofs.writing.write_row.Given as goal

abbrev pub invariant-loop-column : goal.invariant-loop-column
invariant-loop-column l =
    (l.next ≡ l.at + 4 + ahead l.r.kind l.column) × (l.buf ≡ put l.fn.buf l.at (front_bits l.r.kind l.r.fields l.column))
