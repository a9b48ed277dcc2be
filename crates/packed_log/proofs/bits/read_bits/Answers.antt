-- `packed_log::bits::read_bits`: a field is a part of the window from its first byte on.
use mathlib.Core.Path.{refl, ◌∙◌}
use native.Mathlib.Omega.{arith}
use Rattle.packed_log.specs.Bits.{num, field}
use Rattle.packed_log.proofs.Windows.{field_window}
use Rattle.packed_log.proofs.bits.read_bits.Goals as goal

pub returns-then-width-eq0 : goal.returns-then-width-eq0
unfolding field num
returns-then-width-eq0 c = rw c.if-width-eq0.true (refl, omega arith)

pub returns : goal.returns
returns c =
    let read = c.window_at.ensures.0 in
    (c.part_of.ensures.0 ∙ rw read (field_window _ _ _ (λ i. (c.type_inv.log i).fits) (omega arith) (omega arith)), c.part_of.ensures.1)
