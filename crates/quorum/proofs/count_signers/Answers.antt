-- `quorum::count_signers` counts the members, of whom there are at most n, and asks whether three times as many are at least twice n.
use Prim.Native.Nat.{ℕ, ◌≤◌}
use native.Mathlib.Omega.{arith}
use Rattle.words.specs.Digits.{in_set}
use Rattle.words.proofs.Sums.{tally_not}
use Rattle.quorum.specs.Enough.{enough}
use Rattle.quorum.proofs.count_signers.Goals as goal
use Rattle.quorum.proofs.count_signers.Goals.{After-members-signers}

-- there are no more signers than offices
most : (c : After-members-signers) → c.members-signers.result ≤ c.args.n
most c =
    let set : ℕ = c.args.set in
    omega (arith, c.members-signers.ensures, tally_not c.args.n (λ s. in_set set s))

pub overflow_mul-result-2 : goal.overflow_mul-result-2
unfolding enough
overflow_mul-result-2 c = omega (arith, most (goal.at.overflow_mul-result-2 c).After-members-signers)

pub overflow_cast-result-2 : goal.overflow_cast-result-2
unfolding enough
overflow_cast-result-2 c = omega (arith, most (goal.at.overflow_cast-result-2 c).After-members-signers)

pub returns : goal.returns
unfolding enough
returns c = rw c.members-signers.ensures
