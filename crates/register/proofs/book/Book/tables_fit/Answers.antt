-- `Book::tables_fit` makes the tests of the tables, whose loops the counts bound.
use Rattle.words.proofs.Tests.{and_four}
use Rattle.register.proofs.book.Book.tables_fit.Goals as goal

pub returns : goal.returns
returns c =
    rw (c.leaders_fit.ensures, c.blocks_fit.ensures, c.messages_fit.ensures, c.offices_fit.ensures)
    (and_four _ _ _ _)
