-- `packed_log::opening::read_opening`: makes the tests up to the schedule's length, then those of the leaders.
use mathlib.Core.Path.{refl, ◌∙◌}
use native.Mathlib.Omega.{arith}
use Rattle.refusals.proofs.Numbers.{number_some}
use Rattle.packed_log.specs.Openings.{count_in, length_in}
use Rattle.packed_log.proofs.OpeningLaws.{Front, front_clear, front_refused, led_opening}
use Rattle.packed_log.proofs.opening.read_opening.Goals as goal
use Rattle.packed_log.proofs.opening.read_opening.Goals.{In-Ok}

-- what the tests up to the schedule's length say, once they hold
clear : (c : In-Ok) → Front c.args.log.now (count_in c.args.log.now) (length_in c.args.log.now (count_in c.args.log.now))
clear c = front_clear c.args.log.now _ _ c.in-Ok.ensures.1

pub open_with-requires : goal.open_with-requires
open_with-requires c =
    let here = clear (goal.at.open_with-requires c).In-Ok in
    rw c.in-Ok.ensures.0 (here.offices.0, here.offices.1, here.epochs.0, here.epochs.1, omega (arith, here.there), here.small)

pub returns-in-Ok : goal.returns-in-Ok
returns-in-Ok c =
    c.open_with.ensures ∙ rw c.in-Ok.ensures.0 (led_opening _ _ _ refl refl c.in-Ok.ensures.1)

pub returns-in-Err : goal.returns-in-Err
returns-in-Err c =
    c.refused.ensures ∙ front_refused _ _ _ refl refl _ c.in-Err.ensures (number_some c.in-Err.refusal)
