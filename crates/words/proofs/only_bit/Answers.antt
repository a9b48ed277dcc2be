-- `words::only_bit` is a power of 2, and 0 past the word.
use borrow.Author.Rules.{rules}
use mathlib.Core.Path.{sym}
use Rattle.words.proofs.Digits.{pow_past}
use Rattle.words.proofs.only_bit.Goals as goal

pub returns-then-q-ge32 : goal.returns-then-q-ge32
returns-then-q-ge32 c = sym (pow_past 2 c.args.q 32 (search rules))
