-- `replay::body::fault_of`: the opening's number stands first.
use mathlib.Core.Path.{◌∙◌}
use borrow.Author.Tests.{eq-eqb, ne_eqb}
use Rattle.words.specs.Tests.{choose}
use Rattle.replay.proofs.body.fault_of.Goals as goal

pub returns-then-opening-eq0 : goal.returns-then-opening-eq0
unfolding choose
returns-then-opening-eq0 c = rw (eq-eqb _ _ c.if-opening-eq0.true) (c.number_of.ensures ∙ c.check_from.ensures)

pub returns : goal.returns
unfolding choose
returns c = rw (ne_eqb _ _ c.if-opening-eq0.false)
