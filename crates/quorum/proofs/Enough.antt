-- The laws of signers that are enough.
use Prim.Native.Nat.{ℕ, ◌*◌, ◌≤◌}
use mathlib.Core.Path.{◌≡◌}
use mathlib.Core.Bool.{true}
use borrow.Author.Tests.{le-leb, leb-true}
use Rattle.quorum.specs.Enough.{enough}

-- two thirds are enough
pub enough_make : (signers n : ℕ) → 2 * n ≤ 3 * signers → enough signers n ≡ true
unfolding enough
enough_make signers n h = le-leb (2 * n) (3 * signers) h

-- and fewer are not
pub enough_least : (signers n : ℕ) → enough signers n ≡ true → 2 * n ≤ 3 * signers
unfolding enough
enough_least signers n h = leb-true (2 * n) (3 * signers) h
