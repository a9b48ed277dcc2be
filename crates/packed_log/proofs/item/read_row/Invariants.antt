-- `packed_log::item::read_row`: at each turn the numbers of the columns before this one have been read, each where the one before it ends.
use Prim.Native.Nat.{ℕ, ◌+◌, ◌<◌}
use mathlib.Core.Path.{◌≡◌}
use lib.ListN.{length, get_or}
use Rattle.packed_log.specs.Bits.{field}
use Rattle.packed_log.specs.Widths.{width}
use Rattle.packed_log.proofs.RowLaws.{ahead}
use Rattle.packed_log.proofs.item.read_row.Given as goal

abbrev pub invariant-loop-column : goal.invariant-loop-column
invariant-loop-column l =
    (l.next ≡ l.at + ahead l.kind l.column) × (length l.fields ≡ 4)
    × ((k : ℕ) → k < l.column → get_or l.fields k 0 ≡ field l.log (l.at + ahead l.kind k) (width l.kind k))
