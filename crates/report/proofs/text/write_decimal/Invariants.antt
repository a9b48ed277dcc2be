-- `report::text::write_decimal`: at each turn the buffer lacks the digits of the rest, and no others.
use Prim.Native.Nat.{◌+◌, ◌≤◌}
use mathlib.Core.Path.{◌≡◌}
use lib.ListN.{length}
use lib.Seq.{sets}
use Rattle.report.specs.Text.{decimal}
use Rattle.report.proofs.text.write_decimal.Given as goal

abbrev pub invariant-loop-rest : goal.invariant-loop-rest
invariant-loop-rest l =
    (l.rest ≤ l.n)
    × (l.place ≤ l.next)
    × (l.place ≡ l.at + length (decimal l.rest))
    × (sets l.report l.at (decimal l.rest) ≡ sets l.initial.report l.at (decimal l.n))

abbrev pub decreases-loop-rest : goal.decreases-loop-rest
decreases-loop-rest l = l.rest
