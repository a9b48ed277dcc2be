-- `unchanged` is the change that leaves the book as it is, by its definition.
use Rattle.tables.proofs.Columns.{office_entry, epoch_entry, block_entry, vote_entry}
use Rattle.register.specs.Books.{book_of}
use Rattle.register.specs.Changes.{unchanged_of}
use Rattle.register.proofs.Typing.{kind_vote}
use Rattle.register.proofs.steps.judge.unchanged.Goals as goal

pub returns : goal.returns
unfolding unchanged_of book_of
returns c = simp (office_entry, epoch_entry, block_entry, vote_entry, kind_vote)
