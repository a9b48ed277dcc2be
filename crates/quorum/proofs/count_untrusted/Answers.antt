-- `quorum::count_untrusted`: the trusted and the untrusted offices are n together.
use Prim.Native.Nat.{◌+◌}
use mathlib.Core.Path.{◌≡◌}
use native.Mathlib.Omega.{arith}
use lib.Dec.{eqb}
use Rattle.words.specs.Digits.{digit}
use Rattle.words.proofs.Sums.{tally_not}
use Rattle.quorum.specs.Opening.{untrusted}
use Rattle.quorum.proofs.count_untrusted.Goals as goal
use Rattle.quorum.proofs.count_untrusted.Goals.{After-members}

-- the trusted and the untrusted offices are n
split : (c : After-members) → c.members.result + untrusted c.args.n c.args.trust ≡ c.args.n
unfolding untrusted
split c = rw c.members.ensures (tally_not c.args.n (λ q. eqb (digit 2 c.args.trust q) 1))

pub overflow_sub-result : goal.overflow_sub-result
unfolding untrusted
overflow_sub-result c = omega (arith, split (goal.at.overflow_sub-result c).After-members)

pub returns : goal.returns
unfolding untrusted
returns c = omega (arith, split (goal.at.returns c).After-members)
