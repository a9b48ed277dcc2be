-- `Register::notarised`: genesis by itself, and any other block by the count of its signers.
use Rattle.words.specs.Tests.{choose, either}
use Rattle.register.specs.Books.{book_of}
use Rattle.register.specs.Views.{notarised, signers_on}
use Rattle.register.proofs.Signing.{test_by_count}
use Rattle.register.proofs.table.Register.notarised.Goals as goal

pub returns-then-b-eq0 : goal.returns-then-b-eq0
unfolding book_of notarised signers_on either choose
returns-then-b-eq0 c = rw c.if-b-eq0.true

pub returns : goal.returns
unfolding book_of
returns c =
    let a = c.args in
    test_by_count (book_of a.self.now) a.office.0 a.b.0 _ _ c.if-b-eq0.false c.signer_set.ensures c.count_signers-count.ensures
