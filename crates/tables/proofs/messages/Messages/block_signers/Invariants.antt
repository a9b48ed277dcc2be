-- `tables::messages::Messages::block_signers`: at each turn the set holds the block's signers by the messages before the chunk.
use Prim.Native.Nat.{◌-◌, ◌≤◌}
use mathlib.Core.Path.{◌≡◌}
use Rattle.tables.specs.Columns.{signers_of, about_of}
use Rattle.tables.specs.Searches.{signers_in}
use Rattle.tables.proofs.Scans.{AtChunk}
use Rattle.tables.proofs.messages.Messages.block_signers.Given as goal

abbrev pub invariant-loop-from : goal.invariant-loop-from
invariant-loop-from l = AtChunk l.from l.sent × (l.set ≡ signers_in l.self.places (signers_of l.self) (about_of l.self) l.from l.office.0 l.b.0) × (l.read ≤ 2)

abbrev pub decreases-loop-from : goal.decreases-loop-from
decreases-loop-from l = l.sent - l.from
