-- `tables::messages::Messages::says` makes both tests.
use Rattle.words.proofs.Tests.{and_both}
use Rattle.tables.specs.Messages.{says_in}
use Rattle.tables.proofs.Columns.{office_entry, block_entry}
use Rattle.tables.proofs.messages.Messages.says.Goals as goal

pub returns : goal.returns
unfolding says_in
returns c = rw (office_entry, block_entry, c.eq.ensures, c.eq-2.ensures) (and_both _ _)
