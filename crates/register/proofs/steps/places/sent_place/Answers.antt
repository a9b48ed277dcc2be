-- `sent_place`: the spread word, in which a trusted sender's stage is its view.
use borrow.Author.Rules.{rules}
use mathlib.Core.Path.{sym, ◌∙◌}
use Rattle.register.specs.Books.{book_of}
use Rattle.register.proofs.SentPlace.{sent_untrusted, sent_trusted}
use Rattle.register.proofs.steps.places.sent_place.Goals as goal

pub returns-then-not-is_trusted : goal.returns-then-not-is_trusted
unfolding book_of
returns-then-not-is_trusted c =
    c.spread-word.ensures
    ∙ sent_untrusted _ _ (sym c.is_trusted.ensures ∙ c.if-not-is_trusted.true)

pub returns : goal.returns
unfolding book_of
returns c =
    rw (c.with_stage.ensures, c.spread-word.ensures)
    (sent_trusted _ _ (search rules) (sym c.is_trusted.ensures ∙ c.if-not-is_trusted.false))
