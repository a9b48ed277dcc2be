-- The law of untrusted offices.
use Prim.Native.Nat.{ℕ, ◌≤◌}
use native.Mathlib.Omega.{arith}
use lib.Dec.{eqb}
use Rattle.words.specs.Digits.{digit}
use Rattle.words.proofs.Sums.{tally_not}
use Rattle.quorum.specs.Opening.{untrusted}

-- at most n offices of n are untrusted
pub untrusted_most : (n trust : ℕ) → untrusted n trust ≤ n
unfolding untrusted
untrusted_most n trust = omega (arith, tally_not n (λ q. eqb (digit 2 trust q) 1))
