-- `tables::messages::Messages::chunk_signed`: at each turn the messages before the chunk do not have that signature, nor those of the chunk from i up.
use Rattle.tables.specs.Columns.{signers_of, about_of}
use Rattle.tables.proofs.Scans.{Unsigned}
use Rattle.tables.proofs.messages.Messages.chunk_signed.Given as goal

abbrev pub invariant-loop-i : goal.invariant-loop-i
invariant-loop-i l = Unsigned l.self.places (signers_of l.self) (about_of l.self) l.office.0 l.signer.0 l.b.0 l.chunk.from l.i l.chunk.size
