-- `tables::messages::Messages::view`: at each turn the sets hold the signers of the messages below `low` and from `high` up.
use Prim.Native.Nat.{◌-◌, ◌≤◌}
use mathlib.Core.Path.{◌≡◌}
use lib.ListN.{length}
use Rattle.tables.specs.Columns.{signers_of, about_of}
use Rattle.tables.specs.Searches.{messages, blocks}
use Rattle.tables.proofs.Views.{outside, Gathered}
use Rattle.tables.proofs.messages.Messages.view.Given as goal

abbrev pub invariant-loop-low : goal.invariant-loop-low
invariant-loop-low l = (l.sent ≤ messages) × (l.low ≤ l.sent) × (l.high ≤ l.sent) × ((length l.sets ≡ blocks) × Gathered l.self.places (signers_of l.self) (about_of l.self) l.sent l.office.0 (outside l.low l.high) l.sets)

abbrev pub decreases-loop-low : goal.decreases-loop-low
decreases-loop-low l = l.high - l.low
