use Rattle.packed_log.specs.Writing.{office_bits}
use Rattle.packed_log.proofs.BitsLaws.{put_none, length_put}
use Rattle.packed_log.proofs.WritingLaws.{next_trust_bit}
use Prim.Native.Nat.{◌<◌}
use mathlib.Core.Path.{◌≡◌, sym, ap, ◌∙◌}
use native.Mathlib.Omega.{arith}
use lib.ListN.{length}
use Rattle.words.proofs.Digits.{digit_lt}
use Rattle.packed_log.proofs.opening_writing.write_trust.Goals as goal
use Rattle.packed_log.proofs.opening_writing.write_trust.Goals.{After-bit, At-loop-q}

-- a trust bit is below 2
bit : (c : After-bit) → c.bit.result < 2
bit c = rw c.bit.ensures (digit_lt 2 _ _ (omega arith))

-- the buffer keeps its length
long : (c : At-loop-q) → length c.loop-q.buf ≡ length c.args.buf.now
long c = ap length c.loop-q.invariant ∙ length_put _ _ _

pub loop-q-init : goal.loop-q-init
unfolding office_bits
loop-q-init c = sym (put_none _ _ (λ i. (c.type_inv.buf i).fits))

pub overflow_cast-bit : goal.overflow_cast-bit
unfolding office_bits
overflow_cast-bit c = omega (arith, bit (goal.at.overflow_cast-bit c).After-bit)

pub write_bits-requires : goal.write_bits-requires
unfolding office_bits
write_bits-requires c =
    (omega arith, omega (arith, long (goal.at.write_bits-requires c).At-loop-q), bit (goal.at.write_bits-requires c).After-bit)

pub loop-q-preserved : goal.loop-q-preserved
unfolding office_bits
loop-q-preserved c = search next_trust_bit depth 2
