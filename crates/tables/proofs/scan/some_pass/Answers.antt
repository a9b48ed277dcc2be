use mathlib.Core.Path.{refl}
use Rattle.words.specs.Tests.{any}
use Rattle.words.proofs.Tests.{any_next}
use Rattle.tables.proofs.scan.some_pass.Goals as goal

pub loop-i-init : goal.loop-i-init
loop-i-init g c p says = unfold any in refl

pub loop-i-preserved : goal.loop-i-preserved
loop-i-preserved g c p says = any_next _ _ _ _ (c.loop-i.invariant p says) (says c.loop-i.i c.loop-i-test.true _ c.test-found.ensures)
