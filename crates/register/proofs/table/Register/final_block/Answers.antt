-- `Register::final_block`: an untrusted office, and one past the table, has genesis.
use borrow.Author.Rules.{rules}
use mathlib.Core.Path.{◌≡◌, sym, ◌∙◌}
use native.Mathlib.Omega.{arith}
use lib.ListN.{length, get_or-eq_default}
use Rattle.words.specs.Tests.{choose}
use Rattle.register.specs.Books.{block, book_of}
use Rattle.register.proofs.table.Register.final_block.Goals as goal

pub returns-then-not-is_trusted : goal.returns-then-not-is_trusted
unfolding book_of choose
returns-then-not-is_trusted c = rw (sym c.is_trusted.ensures ∙ c.if-not-is_trusted.true)

pub returns-then-q-ge-OFFICES : goal.returns-then-q-ge-OFFICES
unfolding book_of choose
returns-then-q-ge-OFFICES c =
    let a = c.args in
    let whole : length a.self.now.offices ≡ 32 = search rules in
    rw (sym c.is_trusted.ensures ∙ c.if-not-is_trusted.false)
    (rw (get_or-eq_default a.self.now.offices (record { finalised = block 0 }) {n = a.office.0} (omega (arith, whole))))

pub returns : goal.returns
unfolding book_of choose
returns c = rw (sym c.is_trusted.ensures ∙ c.if-not-is_trusted.false)
