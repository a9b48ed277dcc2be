-- `words::members` counts the ones of the offices below the limit.
use borrow.Author.Rules.{rules}
use Prim.Native.Nat.{ℕ}
use mathlib.Core.Path.{ap, ◌∙◌}
use lib.Count.{ones}
use Rattle.words.specs.Digits.{digit}
use Rattle.words.proofs.Digits.{digit_lt, ones_fill}
use Rattle.words.proofs.members.Goals as goal

pub returns : goal.returns
returns c =
    let set : ℕ = c.args.set in
    ap ones c.below.ensures ∙ ones_fill c.args.n (digit 2 set) (λ q. digit_lt 2 set q (search rules))
