-- `words::bit` is the digit of the set: past the last digit by `digit_past`, else by the definition.
use borrow.Author.Rules.{rules}
use Rattle.words.specs.Digits.{digit}
use Rattle.words.proofs.Digits.{digit_past}
use mathlib.Core.Path.{refl, sym}
use Rattle.words.proofs.bit.Goals as goal

pub returns-then-q-ge32 : goal.returns-then-q-ge32
unfolding digit
returns-then-q-ge32 c = sym (digit_past 2 c.args.set 32 c.args.q (search rules) (search rules))

pub returns : goal.returns
unfolding digit
returns c = refl
