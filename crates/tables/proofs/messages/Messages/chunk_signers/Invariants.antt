-- `tables::messages::Messages::chunk_signers`: at each turn the set holds the block's signers by the messages below m.
use mathlib.Core.Path.{◌≡◌}
use Rattle.tables.specs.Columns.{signers_of, about_of}
use Rattle.tables.specs.Searches.{signers_in}
use Rattle.tables.proofs.messages.Messages.chunk_signers.Given as goal

abbrev pub invariant-loop-m : goal.invariant-loop-m
invariant-loop-m l = l.all ≡ signers_in l.self.places (signers_of l.self) (about_of l.self) l.m l.office.0 l.b.0
