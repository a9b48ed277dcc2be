-- `words::spread`: at each turn the word is filled below q; past its last digit the set has nothing to fill in.
use mathlib.Core.Path.{◌≡◌}
use Rattle.words.specs.Digits.{digit, fill}
use Rattle.words.proofs.spread.Given as goal

abbrev pub invariant-loop-q : goal.invariant-loop-q
invariant-loop-q l = l.word ≡ fill 4 l.q (digit 2 l.set)
