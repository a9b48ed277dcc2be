-- `Register::is_trusted` looks at the count and the trust word.
use Rattle.register.specs.Books.{book_of}
use Rattle.register.proofs.table.Register.is_trusted.Goals as goal

pub returns : goal.returns
unfolding book_of
returns c = c.is_trusted.ensures
