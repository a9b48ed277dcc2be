-- `tables_fit` makes the tests of the tables, whose loops the counts bound.
use Rattle.words.proofs.Tests.{and_four}
use Rattle.register.specs.Books.{book_of}
use Rattle.register.proofs.fitness.tables_fit.Goals as goal

pub returns : goal.returns
unfolding book_of
returns c =
    rw (c.leaders_fit.ensures, c.blocks_fit.ensures, c.messages_fit.ensures, c.offices_fit.ensures)
    (and_four _ _ _ _)
