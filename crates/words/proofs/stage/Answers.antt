-- `words::stage` is the digit of the word: past the last digit by `digit_past`, else by the definition, since a digit of base 4 takes two bits.
use borrow.Author.Rules.{rules}
use mathlib.Core.Path.{sym}
use Rattle.words.specs.Digits.{digit}
use Rattle.words.proofs.Digits.{digit_past, four_pow}
use Rattle.words.proofs.stage.Goals as goal

pub returns-then-q-ge32 : goal.returns-then-q-ge32
unfolding digit
returns-then-q-ge32 c = sym (digit_past 4 c.args.word 32 c.args.q (search rules) (search rules))

pub returns : goal.returns
unfolding digit
returns c = rw (four_pow c.args.q)
