-- `words::is_last_stage` looks at both bits of the digit; past the last digit of the word there is none.
use borrow.Author.Rules.{rules}
use mathlib.Core.Path.{refl, sym, ap}
use Prim.Native.Nat.{ℕ}
use lib.Dec.{eqb}
use Rattle.words.proofs.Digits.{digit_past, last_digit}
use Rattle.words.proofs.is_last_stage.Goals as goal

pub returns-then-q-ge32 : goal.returns-then-q-ge32
returns-then-q-ge32 c = sym (ap (λ (d : ℕ). eqb d 3) (digit_past 4 c.args.word 32 c.args.q (search rules) (search rules)))

pub returns : goal.returns
returns c = last_digit c.args.word c.args.q 32 _ (search rules) refl
