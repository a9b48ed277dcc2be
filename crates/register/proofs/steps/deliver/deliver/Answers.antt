-- `deliver` refuses what its tests refuse, and else moves the message.
use borrow.Author.Rules.{rules}
use mathlib.Core.Path.{◌≡◌, refl, sym}
use native.Mathlib.Omega.{arith}
use borrow.Author.Tests.{leb-false}
use Rattle.std.specs.Prelude.{Err}
use Rattle.refusals.proofs.Numbers.{number_some}
use Rattle.words.proofs.Clearing.{clear}
use Rattle.register.specs.Books.{book_of}
use Rattle.register.specs.Steps.{rule_of}
use Rattle.register.specs.Changes.{entries_of}
use Rattle.register.proofs.Answering.{refuses, accepts}
use Rattle.register.proofs.steps.deliver.deliver.Goals as goal

pub returns-in_err-check_deliver : goal.returns-in_err-check_deliver
unfolding rule_of entries_of book_of
returns-in_err-check_deliver c =
    let is : c.from_residual.result ≡ Err c.in_err-check_deliver.field-0.0 = search rules in
    rw is (refuses _ _ _ _ c.in_err-check_deliver.ensures (number_some _))

pub bounds-register-message : goal.bounds-register-message
unfolding book_of
bounds-register-message c = omega (arith, leb-false _ c.args.message.0 (clear _ (sym c.in_ok-check_deliver.ensures)).1.0)

pub returns : goal.returns
unfolding rule_of entries_of book_of
returns c =
    rw (c.accepted.ensures, c.moved.ensures, c.with_stage-word.ensures) (accepts _ _ _ _ c.in_ok-check_deliver.ensures refl)
