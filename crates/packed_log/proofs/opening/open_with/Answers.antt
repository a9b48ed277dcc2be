-- `packed_log::opening::open_with`: opens with the leaders that are there, which tell what all of them bring.
use mathlib.Core.Path.{refl}
use Rattle.refusals.proofs.Numbers.{number_some}
use Rattle.packed_log.proofs.OpeningLaws.{leaders_refused, leaders_opened}
use Rattle.packed_log.proofs.opening.open_with.Goals as goal
use Rattle.packed_log.proofs.opening.open_with.Goals.{After-read_leaders-table}

pub returns-in-Ok : goal.returns-in-Ok
returns-in-Ok c =
    let pre = c.requires in
    leaders_opened _ _ _ pre.0 pre.1 pre.2 pre.3 _ c.there_of-there.ensures.0 _ c.read_trust-trust.ensures _ c.read_leaders-table.ensures.1 0
    c.in-Ok.ensures refl c.open.result c.open.ensures

pub returns-in-Err : goal.returns-in-Err
returns-in-Err c =
    let pre = c.requires in
    leaders_refused _ _ _ pre.0 pre.1 pre.2 pre.3 _ c.there_of-there.ensures.0 _ c.read_trust-trust.ensures _ c.read_leaders-table.ensures.1 _
    c.in-Err.ensures _ c.refused.ensures (number_some c.in-Err.refusal)
