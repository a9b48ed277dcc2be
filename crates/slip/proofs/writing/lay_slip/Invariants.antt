-- `slip::writing::lay_slip`: the pad is laid, then each row in front of what was laid before, and at last the block's number.
use Prim.Native.Nat.{ℕ, ◌*◌, ◌-◌}
use mathlib.Core.Path.{◌≡◌}
use mathlib.Core.List.{List}
use lib.ListN.{length}
use Rattle.tables.specs.Blocks.{parent_in}
use Rattle.tables.specs.Columns.{parents_of}
use Rattle.packed_log.specs.Fields.{with_field}
use Rattle.slip.proofs.WritingLaws.{Due, Laid}
use Rattle.slip.proofs.writing.lay_slip.Given as goal

-- the slice as it was lent is not at hand in the loop: this holds of each that is as is required, and that the pad was laid over
abbrev pub invariant-loop-at : goal.invariant-loop-at
invariant-loop-at l =
    (s : List ℕ) → Due s (parent_in (parents_of l.blocks) l.blocks.last.0) l.n l.b.0 l.due → l.initial.slip ≡ with_field s l.due (8 * length s - l.due) 0
    → Laid s l.rows (parent_in (parents_of l.blocks) l.blocks.last.0) l.n l.b.0 l.due l.slip l.end l.at.0

abbrev pub decreases-loop-at : goal.decreases-loop-at
decreases-loop-at l = l.at.0
