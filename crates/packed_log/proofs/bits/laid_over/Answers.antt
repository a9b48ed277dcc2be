-- `packed_log::bits::laid_over`: no shift loses a bit, and the sum stays within 24 bits.
use mathlib.Core.Path.{refl}
use native.Mathlib.Omega.{arith}
use Rattle.packed_log.specs.Windows.{over}
use Rattle.packed_log.proofs.Windows.{Shifted, shifted}
use Rattle.packed_log.proofs.bits.laid_over.Goals as goal
use Rattle.packed_log.proofs.bits.laid_over.Goals.{Start}

fit : (c : Start) → Shifted c.args.bits c.args.behind c.args.width c.args.value
fit c = shifted c.args.bits c.args.behind c.args.width c.args.value c.requires.0 c.requires.1 c.requires.2

pub overflow_add-result : goal.overflow_add-result
unfolding over
overflow_add-result c =
    omega (arith, (fit (goal.at.overflow_add-result c).Start).high, (fit (goal.at.overflow_add-result c).Start).middle, (fit (goal.at.overflow_add-result c).Start).small)

pub overflow_add-result-2 : goal.overflow_add-result-2
unfolding over
overflow_add-result-2 c =
    omega (arith, (fit (goal.at.overflow_add-result-2 c).Start).high, (fit (goal.at.overflow_add-result-2 c).Start).middle, (fit (goal.at.overflow_add-result-2 c).Start).low, (fit (goal.at.overflow_add-result-2 c).Start).small)

pub returns : goal.returns
unfolding over
returns c =
    rw ((fit (goal.at.returns c).Start).high, (fit (goal.at.returns c).Start).middle, (fit (goal.at.returns c).Start).unit) (refl, (fit (goal.at.returns c).Start).small)
