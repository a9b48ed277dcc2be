-- `Register::write` sets each entry at its place.
use Rattle.std.proofs.lemmas.List.{map-set}
use Rattle.register.specs.Written.{written}
use Rattle.register.specs.Books.{book_of}
use Rattle.register.proofs.table.Register.write.Goals as goal

pub returns : goal.returns
unfolding written book_of
returns c = simp map-set
