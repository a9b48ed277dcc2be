-- `Register::signer_set`: what the view has for the block, of the offices below n.
use borrow.Author.Rules.{rules}
use mathlib.Core.Path.{sym, ◌∙◌}
use Rattle.register.specs.Books.{book_of}
use Rattle.register.proofs.Signing.{set_unseen, set_seen}
use Rattle.register.proofs.table.Register.signer_set.Goals as goal

pub returns-then-not-is_trusted : goal.returns-then-not-is_trusted
unfolding book_of
returns-then-not-is_trusted c =
    let a = c.args in
    set_unseen (book_of a.self.now) a.office.0 a.b.0 (sym c.is_trusted.ensures ∙ c.if-not-is_trusted.true)

pub returns : goal.returns
unfolding book_of
returns c =
    let a = c.args in
    c.below.ensures
    ∙ rw c.view_of-view.ensures
    (set_seen (book_of a.self.now) a.office.0 a.b.0 (sym c.is_trusted.ensures ∙ c.if-not-is_trusted.false) (search rules))
