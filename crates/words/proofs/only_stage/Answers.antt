-- `words::only_stage` is a power of 4, and 0 past the word.
use borrow.Author.Rules.{rules}
use mathlib.Core.Path.{sym}
use native.Mathlib.Nat.{one-mul}
use Rattle.words.proofs.Digits.{pow_past, four_pow}
use Rattle.words.proofs.only_stage.Goals as goal

pub returns-then-q-ge32 : goal.returns-then-q-ge32
returns-then-q-ge32 c = sym (pow_past 4 c.args.q 32 (search rules))

pub returns : goal.returns
returns c = rw (one-mul, four_pow c.args.q)
