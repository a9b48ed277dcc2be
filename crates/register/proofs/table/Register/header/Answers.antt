-- `Register::header`: the entries of a block that was made, and zeros of any other.
use mathlib.Core.Path.{sym, ◌∙◌}
use Rattle.register.specs.Books.{book_of}
use Rattle.register.proofs.Telling.{header_none, header_found}
use Rattle.register.proofs.table.Register.header.Goals as goal

pub returns-then-not-is_made : goal.returns-then-not-is_made
unfolding book_of
returns-then-not-is_made c =
    let a = c.args in
    header_none a.self.now a.b.0 (sym c.is_made.ensures ∙ c.if-not-is_made.true)

pub returns : goal.returns
unfolding book_of
returns c =
    let a = c.args in
    header_found a.self.now a.b.0 _ (sym c.is_made.ensures ∙ c.if-not-is_made.false) c.parent.ensures
