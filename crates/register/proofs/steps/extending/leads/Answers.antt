-- `leads` looks up the leader of the current epoch.
use Rattle.tables.proofs.Columns.{office_entry}
use Rattle.register.specs.Books.{book_of}
use Rattle.register.proofs.steps.extending.leads.Goals as goal

pub returns : goal.returns
unfolding book_of
returns c = rw office_entry c.eq.ensures
