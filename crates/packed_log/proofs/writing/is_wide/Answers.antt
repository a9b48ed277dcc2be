use mathlib.Core.Path.{◌≡◌, refl, ◌∙◌}
use native.Mathlib.Omega.{arith}
use Rattle.words.specs.Tests.{any}
use Rattle.words.proofs.Tests.{any_next}
use Rattle.packed_log.proofs.WritingLaws.{wide_any}
use Rattle.packed_log.proofs.writing.is_wide.Goals as goal

pub loop-column-init : goal.loop-column-init
unfolding any
loop-column-init c = refl

pub loop-column-preserved : goal.loop-column-preserved
loop-column-preserved c =
    any_next _ _ _ _ c.loop-column.invariant (c.is_over-over.ensures ∙ rw c.width_of.ensures.0)

pub returns : goal.returns
returns c =
    let end : c.loop-column.column ≡ 4 = omega arith in
    (rw end at c.loop-column.invariant) ∙ wide_any _ _
