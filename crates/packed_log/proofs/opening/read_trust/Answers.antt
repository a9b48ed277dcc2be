use Prim.Native.Nat.{ℕ, ◌+◌, ◌*◌, ◌%◌, ◌^◌, ◌<◌}
use mathlib.Core.Path.{◌≡◌, refl}
use native.Mathlib.Omega.{arith}
use Rattle.words.specs.Digits.{fill}
use Rattle.packed_log.specs.Openings.{trust_in}
use Rattle.packed_log.proofs.OpeningLaws.{next_trust}
use Rattle.packed_log.proofs.opening.read_trust.Goals as goal
use Rattle.packed_log.proofs.opening.read_trust.Goals.{After-read_bits}

-- what the loop's step makes of the word
abbrev sum : After-read_bits → ℕ
sum c = c.loop-q.trust + c.read_bits.result * 2 ^ c.loop-q.q % 4294967296

-- that sum is the word with one bit more, and fits
next : (c : After-read_bits) → (sum c ≡ trust_in c.args.log.now (c.loop-q.q + 1)) × (sum c < 4294967296)
next c = next_trust _ c.loop-q.q _ _ (omega arith) c.loop-q.invariant c.read_bits.ensures.0

pub loop-q-init : goal.loop-q-init
unfolding fill
loop-q-init c = refl

pub overflow_add-trust : goal.overflow_add-trust
unfolding fill
overflow_add-trust c = omega (arith, (next (goal.at.overflow_add-trust c).After-read_bits).1)

pub loop-q-preserved : goal.loop-q-preserved
unfolding fill
loop-q-preserved c = (next (goal.at.loop-q-preserved c).After-read_bits).0
