-- `words::below` is the remainder by the power of the limit, and the whole set from 32 on.
use borrow.Author.Rules.{rules}
use Prim.Native.Nat.{◌^◌}
use mathlib.Core.Path.{◌≡◌, sym, ◌∙◌}
use native.Mathlib.Omega.{arith}
use lib.Pow.{pow_pos}
use Rattle.words.proofs.Digits.{fill_digit, fill_whole, pow_within}
use Rattle.words.proofs.below.Goals as goal
use Rattle.words.proofs.below.Goals.{After-only_bit}

-- below 32 the power is within the width
power : (c : After-only_bit) → c.only_bit.result ≡ 2 ^ c.args.n
power c = c.only_bit.ensures ∙ pow_within 2 c.args.n 32 (search rules) (search rules)

pub returns-then-n-ge32 : goal.returns-then-n-ge32
returns-then-n-ge32 c = sym (fill_whole 2 32 c.args.n c.args.set (search rules) (search rules) (search rules))

pub nonzero_rem-result : goal.nonzero_rem-result
nonzero_rem-result c = omega (arith, power (goal.at.nonzero_rem-result c).After-only_bit, pow_pos c.args.n)

pub returns : goal.returns
returns c =
    rw (power (goal.at.returns c).After-only_bit) (sym (fill_digit 2 c.args.n c.args.set (search rules)))
