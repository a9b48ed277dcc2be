-- `finalise` refuses what its tests refuse, and else the office holds the parent.
use borrow.Author.Rules.{rules}
use mathlib.Core.Path.{◌≡◌, refl}
use Rattle.std.specs.Prelude.{Err}
use Rattle.refusals.proofs.Numbers.{number_some}
use Rattle.register.specs.Books.{book_of}
use Rattle.register.specs.Steps.{rule_of}
use Rattle.register.specs.Changes.{entries_of}
use Rattle.register.proofs.Answering.{refuses, accepts}
use Rattle.register.proofs.steps.finalise.finalise.Goals as goal

pub returns-in_err-check_finalise : goal.returns-in_err-check_finalise
unfolding rule_of entries_of book_of
returns-in_err-check_finalise c =
    let is : c.from_residual.result ≡ Err c.in_err-check_finalise.field-0.0 = search rules in
    rw is (refuses _ _ _ _ c.in_err-check_finalise.ensures (number_some _))

pub returns : goal.returns
unfolding rule_of entries_of book_of
returns c =
    rw (c.accepted.ensures, c.held.ensures, c.parent-c.ensures)
    (accepts _ _ _ _ c.in_ok-check_finalise.ensures refl)
