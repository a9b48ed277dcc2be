-- `quorum::has_stray`: each turn tests one leader more, and at the end all are tested.
use mathlib.Core.Path.{◌≡◌, refl}
use native.Mathlib.Omega.{arith}
use lib.ListN.{length}
use Rattle.words.specs.Tests.{any}
use Rattle.words.proofs.Tests.{any_next}
use Rattle.quorum.specs.Opening.{stray}
use Rattle.quorum.proofs.has_stray.Goals as goal

pub loop-leader-init : goal.loop-leader-init
loop-leader-init c = unfold any in refl

pub loop-leader-preserved : goal.loop-leader-preserved
loop-leader-preserved c = any_next _ _ _ _ c.loop-leader.invariant refl

pub returns : goal.returns
unfolding stray
returns c =
    let end : c.loop-leader.leader-index ≡ length c.args.schedule.now = omega arith in
    rw end at c.loop-leader.invariant
