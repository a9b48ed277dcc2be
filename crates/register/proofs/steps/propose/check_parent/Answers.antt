-- `check_parent`: where the leader's tests refuse nothing, those of the parent decide.
use borrow.Author.Rules.{rules}
use mathlib.Core.Path.{◌≡◌, refl, sym}
use Rattle.std.specs.Prelude.{Err}
use borrow.Author.Tests.{not-false}
use Rattle.words.specs.Tests.{choose, both}
use Rattle.words.specs.Refusals.{until, since}
use Rattle.words.proofs.Refusals.{positive}
use Rattle.words.proofs.Clearing.{clear}
use Rattle.refusals.proofs.Numbers.{number_some}
use Rattle.register.specs.Books.{book_of}
use Rattle.register.proofs.Answering.{early, late}
use Rattle.register.proofs.steps.propose.check_parent.Goals as goal

pub returns-in_err-check_leader : goal.returns-in_err-check_leader
unfolding until since choose positive both book_of
returns-in_err-check_leader c =
    let is : c.from_residual.result ≡ Err c.in_err-check_leader.field-0.0 = search rules in
    rw is (early 19 _ _ c.in_err-check_leader.ensures (number_some _))

-- the office is trusted
pub check_extending-requires : goal.check_extending-requires
unfolding until choose book_of
check_extending-requires c = (
  c.requires,
  not-false _ (clear _ (sym c.in_ok-check_leader.ensures)).1.1.0,
)

pub returns : goal.returns
unfolding until since choose positive both book_of
returns c = late 19 _ _ _ refl c.in_ok-check_leader.ensures refl c.check_extending.ensures
