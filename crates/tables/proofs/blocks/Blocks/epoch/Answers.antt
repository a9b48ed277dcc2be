-- `tables::blocks::Blocks::epoch` reads the epoch of a block that has been made.
use Rattle.words.specs.Tests.{choose}
use Rattle.tables.specs.Blocks.{epoch_in}
use Rattle.tables.proofs.Columns.{epoch_entry}
use Rattle.tables.proofs.blocks.Blocks.epoch.Goals as goal

pub returns-then-is_made : goal.returns-then-is_made
unfolding epoch_in choose
returns-then-is_made c = rw (epoch_entry, ← c.is_made.ensures, c.if-is_made.true)

pub returns : goal.returns
unfolding epoch_in choose
returns c = rw (epoch_entry, ← c.is_made.ensures, c.if-is_made.false)
