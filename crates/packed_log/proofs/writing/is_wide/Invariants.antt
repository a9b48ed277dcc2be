-- `packed_log::writing::is_wide`: whether some number of the columns before this one is too wide.
use Prim.Native.Nat.{◌^◌}
use mathlib.Core.Path.{◌≡◌}
use lib.Dec.{leb}
use lib.ListN.{get_or}
use Rattle.words.specs.Tests.{any}
use Rattle.packed_log.specs.Widths.{width}
use Rattle.packed_log.proofs.writing.is_wide.Given as goal

abbrev pub invariant-loop-column : goal.invariant-loop-column
invariant-loop-column l = l.over ≡ any l.column (λ k. leb (2 ^ width l.r.kind k) (get_or l.r.fields k 0))
