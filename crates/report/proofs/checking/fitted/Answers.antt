-- `report::checking::fitted`: the report stays where it fits, and is cleared where it does not.
use mathlib.Core.Path.{refl}
use borrow.Author.Tests.{le-leb, lt-leb}
use Rattle.words.specs.Tests.{choose}
use Rattle.report.proofs.checking.fitted.Goals as goal

pub returns-then-size-report : goal.returns-then-size-report
unfolding choose
returns-then-size-report c = rw (le-leb _ _ c.if-size-report.true) (refl, refl)

pub returns : goal.returns
unfolding choose
returns c = rw (lt-leb _ _ c.if-size-report.false) (refl, c.fill.ensures.after (λ y same. same))
