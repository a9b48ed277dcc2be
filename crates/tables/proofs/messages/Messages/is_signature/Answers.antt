-- `tables::messages::Messages::is_signature` makes the three tests, each where those before it hold.
use mathlib.Core.Path.{sym, ◌∙◌}
use borrow.Author.Tests.{not-false, not-true}
use Rattle.words.specs.Tests.{both}
use Rattle.words.proofs.Tests.{both_none, both_all}
use Rattle.tables.specs.Messages.{says_in}
use Rattle.tables.proofs.Columns.{office_entry, block_entry}
use Rattle.tables.proofs.messages.Messages.is_signature.Goals as goal

pub returns-then-ne : goal.returns-then-ne
unfolding says_in both
returns-then-ne c = rw (block_entry, not-true _ (sym c.ne.ensures ∙ c.if-ne.true), both_none, both_none)

pub returns-then-ne-2 : goal.returns-then-ne-2
unfolding says_in both
returns-then-ne-2 c = rw (office_entry, not-true _ (sym c.ne-2.ensures ∙ c.if-ne-2.true), both_none)

pub returns : goal.returns
unfolding says_in both
returns c =
    rw (office_entry, block_entry, not-false _ (sym c.ne.ensures ∙ c.if-ne.false), not-false _ (sym c.ne-2.ensures ∙ c.if-ne-2.false), both_all)
    c.is_last_stage.ensures
