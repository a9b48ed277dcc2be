-- `tables::blocks::Blocks::parent` names the entry of a block that has been made, where the entry is smaller.
use Rattle.words.specs.Tests.{choose}
use Rattle.words.proofs.Tests.{and_both}
use Rattle.tables.specs.Blocks.{parent_in}
use Rattle.tables.proofs.Columns.{block_entry}
use Rattle.tables.proofs.blocks.Blocks.parent.Goals as goal

pub returns-then-is_made-parent : goal.returns-then-is_made-parent
unfolding parent_in choose
returns-then-is_made-parent c = rw (block_entry, ← c.is_made.ensures, ← and_both, c.if-is_made-parent.true)

pub returns : goal.returns
unfolding parent_in choose
returns c = rw (block_entry, ← c.is_made.ensures, ← and_both, c.if-is_made-parent.false)
