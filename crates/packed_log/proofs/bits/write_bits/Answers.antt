-- `packed_log::bits::write_bits`: no bits change nothing; what is laid over the part that is lent on is laid over the whole buffer.
use mathlib.Core.Path.{sym}
use native.Mathlib.Omega.{arith}
use Rattle.packed_log.specs.Bits.{to_bits}
use Rattle.packed_log.proofs.BitsLaws.{put_none, put_part}
use Rattle.packed_log.proofs.bits.write_bits.Goals as goal

pub returns-then-width-eq0 : goal.returns-then-width-eq0
unfolding to_bits
returns-then-width-eq0 c = rw c.if-width-eq0.true (sym (put_none _ _ (λ i. (c.type_inv.buf i).fits)))

pub returns : goal.returns
returns c = rw c.write_front.ensures (put_part _ _ _ (λ i. (c.slice_known-1.given i).fits) (omega arith))
