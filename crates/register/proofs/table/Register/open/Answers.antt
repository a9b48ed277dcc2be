-- `Register::open` gives the fresh register where nothing is refused, and else the closed one.
use mathlib.Core.Path.{sym}
use borrow.Author.Tests.{ne_eqb}
use Rattle.refusals.specs.Numbers.{number_of}
use Rattle.refusals.proofs.Numbers.{number_some}
use Rattle.words.specs.Tests.{choose}
use Rattle.register.specs.Opening.{opening}
use Rattle.register.proofs.OpeningLaws.{accepted_schedule}
use Rattle.register.proofs.table.Register.open.Goals as goal

pub fresh-requires : goal.fresh-requires
fresh-requires c = accepted_schedule _ _ _ (sym c.in-Ok.ensures)

pub returns-in-Ok : goal.returns-in-Ok
unfolding opening choose
returns-in-Ok c = rw (← c.in-Ok.ensures, c.fresh.ensures)

pub returns-in-Err : goal.returns-in-Err
unfolding opening choose
returns-in-Err c =
    rw (c.number.ensures, ← c.in-Err.ensures, ne_eqb (number_of c.in-Err.refusal) 0 (number_some c.in-Err.refusal)) (cc)
