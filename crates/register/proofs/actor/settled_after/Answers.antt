-- `settled_after`: an accepted step adds its office, a refused one nobody.
use borrow.Author.Tests.{eq-eqb, ne_eqb}
use Rattle.words.specs.Tests.{choose}
use Rattle.register.proofs.actor.settled_after.Goals as goal

pub returns-then-refusal-ne0 : goal.returns-then-refusal-ne0
unfolding choose
returns-then-refusal-ne0 c = rw (ne_eqb _ _ c.if-refusal-ne0.true)

pub returns : goal.returns
unfolding choose
returns c = rw (eq-eqb _ _ c.if-refusal-ne0.false) c.with_member.ensures
