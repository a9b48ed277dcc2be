-- `is_off_epoch` makes the two tests of the rule.
use Rattle.words.proofs.Tests.{or_either}
use Rattle.tables.proofs.Columns.{office_entry, block_entry}
use Rattle.register.specs.Books.{book_of}
use Rattle.register.proofs.steps.vote.is_off_epoch.Goals as goal

pub returns : goal.returns
unfolding book_of
returns c =
    let messages = c.args.register.now.messages in
    rw (or_either, c.leads-led.ensures, c.ne.ensures)
    (rw (c.epoch-epoch.ensures, ← office_entry messages.signers c.args.message.0, ← block_entry messages.about c.args.message.0))
