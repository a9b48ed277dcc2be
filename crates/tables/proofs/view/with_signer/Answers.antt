-- `tables::view::with_signer`: a message that is about the block and in the view adds its signer; any other leaves the set as it is.
use mathlib.Core.Path.{sym, ◌∙◌}
use borrow.Author.Tests.{not-false, not-true}
use Rattle.words.specs.Tests.{choose, both}
use Rattle.words.proofs.Tests.{both_none}
use Rattle.tables.proofs.view.with_signer.Goals as goal

pub returns-then-ne : goal.returns-then-ne
unfolding choose both
returns-then-ne c = rw (not-true _ (sym c.ne.ensures ∙ c.if-ne.true))

pub returns-then-not-is_last_stage : goal.returns-then-not-is_last_stage
unfolding choose both
returns-then-not-is_last_stage c = rw (sym c.is_last_stage.ensures ∙ c.if-not-is_last_stage.true, both_none)

pub returns : goal.returns
unfolding choose both
returns c =
    rw (not-false _ (sym c.ne.ensures ∙ c.if-ne.false), sym c.is_last_stage.ensures ∙ c.if-not-is_last_stage.false)
    c.with_member.ensures
