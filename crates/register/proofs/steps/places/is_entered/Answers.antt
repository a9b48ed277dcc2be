-- `is_entered` reads what a search over the columns finds.
use Rattle.tables.proofs.Columns.{office_entry, block_entry}
use Rattle.register.specs.Books.{book_of}
use Rattle.register.proofs.Answering.{found_signed}
use Rattle.register.proofs.steps.places.is_entered.Goals as goal

pub returns : goal.returns
unfolding book_of
returns c =
    rw (office_entry, block_entry)
    (found_signed (book_of c.args.register.now) _ _ _ _ c.requires.0.messages c.requires.2 c.is_signed.ensures)
