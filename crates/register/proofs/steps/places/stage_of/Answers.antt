-- `stage_of`: an untrusted office keeps nothing, what was not sent is nowhere, and else it is a digit of the word.
use mathlib.Core.Path.{sym, ap, ◌∙◌}
use borrow.Author.Tests.{lt-ltb, le-ltb}
use Rattle.words.specs.Tests.{choose, both}
use Rattle.words.proofs.Tests.{both_none}
use Rattle.register.specs.Books.{book_of}
use Rattle.register.specs.Views.{stage, stage_numbered}
use Rattle.register.proofs.steps.places.stage_of.Goals as goal

pub returns-then-not-is_trusted : goal.returns-then-not-is_trusted
unfolding stage stage_numbered choose both
returns-then-not-is_trusted c = rw (sym c.is_trusted.ensures ∙ c.if-not-is_trusted.true)

pub returns-then-message-register : goal.returns-then-message-register
unfolding stage stage_numbered choose book_of
returns-then-message-register c = rw (le-ltb _ _ c.if-message-register.true, both_none)

pub returns : goal.returns
unfolding stage choose both book_of
returns c =
    rw (sym c.is_trusted.ensures ∙ c.if-not-is_trusted.false, lt-ltb _ _ c.if-message-register.false)
    (c.stage_numbered.ensures ∙ ap stage_numbered (rw c.place_of.ensures at c.stage.ensures))
