-- `Register::chain_length` is the length of the chain by the parents of the register's book.
use borrow.Author.Tests.{le-leb, lt-leb}
use Rattle.words.specs.Tests.{choose}
use Rattle.register.specs.Books.{book_of}
use Rattle.register.specs.Chains.{chain}
use Rattle.register.proofs.table.Register.chain_length.Goals as goal

pub returns-then-self-b : goal.returns-then-self-b
unfolding book_of choose
returns-then-self-b c = rw (lt-leb _ _ c.if-self-b.true)

pub returns : goal.returns
unfolding book_of choose chain
returns c = rw (le-leb _ _ c.if-self-b.false) c.chain_length.ensures
