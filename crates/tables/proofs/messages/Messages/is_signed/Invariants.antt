-- `tables::messages::Messages::is_signed`: at each turn no message before the chunk has that signature.
use Prim.Native.Nat.{◌-◌}
use mathlib.Core.Path.{◌≡◌}
use mathlib.Core.Bool.{false}
use Rattle.tables.specs.Columns.{signers_of, about_of}
use Rattle.tables.specs.Searches.{signed_in}
use Rattle.tables.proofs.Scans.{AtChunk}
use Rattle.tables.proofs.messages.Messages.is_signed.Given as goal

abbrev pub invariant-loop-from : goal.invariant-loop-from
invariant-loop-from l = AtChunk l.from l.sent × (signed_in l.self.places (signers_of l.self) (about_of l.self) l.from l.office.0 l.signer.0 l.b.0 ≡ false)

abbrev pub decreases-loop-from : goal.decreases-loop-from
decreases-loop-from l = l.sent - l.from
