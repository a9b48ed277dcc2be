-- `packed_log::writing::head_of`: the kind above the bits of its first field.
use native.Mathlib.Omega.{arith}
use Rattle.packed_log.proofs.WritingLaws.{head_fits}
use Rattle.packed_log.proofs.writing.head_of.Goals as goal

pub overflow_add-result : goal.overflow_add-result
overflow_add-result c = omega (arith, head_fits _ _ _ c.requires.0 c.requires.1 c.requires.2)

pub returns : goal.returns
returns c = let fits = head_fits _ _ _ c.requires.0 c.requires.1 c.requires.2 in (fits.0, rw fits.0 fits.1)
