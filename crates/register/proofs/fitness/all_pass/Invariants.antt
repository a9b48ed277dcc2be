-- `register::fitness::all_pass`: at each turn the numbers below i have been tested.
use Prim.Native.Nat.{ℕ, ◌<◌}
use mathlib.Core.Path.{◌≡◌}
use mathlib.Core.Bool.{Bool}
use Rattle.words.specs.Tests.{all}
use Rattle.register.proofs.fitness.all_pass.Given as goal

abbrev pub invariant-loop-i : goal.invariant-loop-i
invariant-loop-i g l =
    (p : ℕ → Bool) → ((i : ℕ) → i < l.size → (t : Bool) → goal.F-post g l.test i t → t ≡ p i) → l.fits ≡ all l.i p
