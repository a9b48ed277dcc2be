-- The weight of the numbers below a limit that pass a test.
use Rattle.std.specs.Prelude.{ℕ, zero, suc, ◌+◌, Bool}
use Rattle.words.specs.Tests.{choose}

-- the weights of those numbers below n of which the test holds, added up
unfoldable pub weigh : (ℕ → ℕ) → ℕ → (ℕ → Bool) → ℕ
weigh w zero p = zero
weigh w (suc n) p = weigh w n p + choose (p n) (w n) 0

-- every number weighs 1
unfoldable pub unit : ℕ → ℕ
unit q = 1

-- how many numbers below n pass the test
unfoldable pub tally : ℕ → (ℕ → Bool) → ℕ
tally n p = weigh unit n p
