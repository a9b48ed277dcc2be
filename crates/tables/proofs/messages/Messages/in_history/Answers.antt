-- `tables::messages::Messages::in_history` makes the three tests of each message that was sent.
use borrow.Author.Rules.{rules}
use Rattle.words.proofs.Tests.{and_both}
use Rattle.tables.specs.Messages.{history_in}
use Rattle.tables.proofs.Columns.{vote_entry, same_kind}
use Rattle.tables.proofs.messages.Messages.in_history.Goals as goal

pub returns : goal.returns
unfolding history_in
returns c = rw (← c.sent.ensures) (c.some_pass.ensures _ (λ i l t is. rw (vote_entry, ← same_kind, ← and_both) (search rules)))
