-- `quorum::check_opening` answers the number of the first test that holds.
use Prim.Native.Nat.{◌*◌}
use mathlib.Core.Path.{◌≡◌}
use lib.Dec.{leb}
use Rattle.words.proofs.Turns.{turns}
use Rattle.quorum.specs.Opening.{untrusted, too_many, opening_refusal}
use native.Mathlib.Omega.{arith}
use Rattle.quorum.proofs.Untrusted.{untrusted_most}
use Rattle.quorum.proofs.check_opening.Goals as goal
use Rattle.quorum.proofs.check_opening.Goals.{After-count_untrusted}

-- the last test, as the code makes it
third : (c : After-count_untrusted) → let a = c.args in leb a.n (3 * c.count_untrusted.result) ≡ too_many (untrusted a.n a.trust) a.n
unfolding too_many
third c = rw c.count_untrusted.ensures

pub returns-then-not-between : goal.returns-then-not-between
unfolding opening_refusal
returns-then-not-between c = search turns depth 9

pub returns-then-not-between-2 : goal.returns-then-not-between-2
unfolding opening_refusal
returns-then-not-between-2 c = search turns depth 9

pub returns-then-has_stray : goal.returns-then-has_stray
unfolding opening_refusal
returns-then-has_stray c = search turns depth 9

pub returns-then-count_untrusted-n : goal.returns-then-count_untrusted-n
unfolding opening_refusal
returns-then-count_untrusted-n c =
    let same = third (goal.at.returns-then-count_untrusted-n c).After-count_untrusted in search turns depth 9

pub returns : goal.returns
unfolding opening_refusal
returns c = let same = third (goal.at.returns c).After-count_untrusted in search turns depth 9

pub overflow_mul-count_untrusted : goal.overflow_mul-count_untrusted
overflow_mul-count_untrusted c = omega (arith, c.count_untrusted.ensures, untrusted_most c.args.n c.args.trust)
