-- `tables::blocks::Blocks::is_made` makes both tests.
use Rattle.words.proofs.Tests.{and_both}
use Rattle.tables.specs.Blocks.{made_in}
use Rattle.tables.proofs.blocks.Blocks.is_made.Goals as goal

pub returns : goal.returns
unfolding made_in
returns c = and_both _ _
