use borrow.Author.Rules.{rules}
use mathlib.Core.Path.{refl}
use Rattle.packed_log.specs.Openings.{leaders_at}
use Rattle.packed_log.proofs.OpeningLaws.{next_leader}
use Rattle.packed_log.proofs.opening.read_leaders.Goals as goal

pub loop-i-init : goal.loop-i-init
unfolding leaders_at
loop-i-init c = (refl, refl)

pub loop-i-preserved : goal.loop-i-preserved
unfolding leaders_at
loop-i-preserved c = (search rules, search next_leader depth 2)
