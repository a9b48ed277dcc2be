-- `settled_base` asks whether the office is in the set.
use borrow.Author.Rules.{rules}
use mathlib.Core.Path.{sym, ◌∙◌}
use Rattle.words.specs.Tests.{choose}
use Rattle.register.proofs.actor.settled_base.Goals as goal

pub returns-then-has : goal.returns-then-has
unfolding choose
returns-then-has c = (rw (sym c.has.ensures ∙ c.if-has.true), search rules)

pub returns-else-has : goal.returns-else-has
unfolding choose
returns-else-has c = (rw (sym c.has.ensures ∙ c.if-has.false), search rules)
