use mathlib.Core.Path.{refl}
use Rattle.words.specs.Tests.{all}
use Rattle.words.proofs.Tests.{all_next}
use Rattle.register.proofs.fitness.all_pass.Goals as goal

pub loop-i-init : goal.loop-i-init
loop-i-init g c p says = unfold all in refl

pub loop-i-preserved : goal.loop-i-preserved
loop-i-preserved g c p says = all_next _ _ _ _ (c.loop-i.invariant p says) (says c.loop-i.i c.loop-i-test.true _ c.test-fits.ensures)
