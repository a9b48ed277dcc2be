-- `slip::checking::check_slip`: where there is a refusal it is the answer, else the block's parent is.
use mathlib.Core.Path.{refl}
use Rattle.refusals.proofs.Numbers.{number_some}
use Rattle.register.specs.Books.{book_of}
use Rattle.slip.proofs.CheckLaws.{refused_by, accepted_by}
use Rattle.slip.proofs.checking.check_slip.Goals as goal

pub returns-in-Ok : goal.returns-in-Ok
unfolding book_of
returns-in-Ok c =
    accepted_by _ (book_of c.args.register) _ _ _ refl c.block_in-b.ensures c.in-Ok.ensures c.parent-parent.result.0 refl c.parent-parent.ensures

pub returns-in-Err : goal.returns-in-Err
returns-in-Err c =
    rw c.number.ensures
    (refused_by _ (book_of c.args.register) _ _ _ refl c.block_in-b.ensures c.in-Err.ensures (number_some c.in-Err.refusal))
