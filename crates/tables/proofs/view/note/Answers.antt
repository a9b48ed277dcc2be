-- `tables::view::note`: a message that is in the view adds its signer to the set of its block; any other leaves the sets as they are.
use borrow.Author.Rules.{rules}
use mathlib.Core.Path.{sym, ◌∙◌}
use Rattle.words.specs.Tests.{choose}
use Rattle.tables.proofs.view.note.Goals as goal

pub returns-then-is_last_stage : goal.returns-then-is_last_stage
unfolding choose
returns-then-is_last_stage c = (rw (sym c.is_last_stage.ensures ∙ c.if-is_last_stage.true, c.with_member.ensures), search rules)

pub returns-else-is_last_stage : goal.returns-else-is_last_stage
unfolding choose
returns-else-is_last_stage c = (rw (sym c.is_last_stage.ensures ∙ c.if-is_last_stage.false), search rules)
