-- `tables::scan::some_pass`: at each turn i entries have been tested.
use Prim.Native.Nat.{ℕ, ◌+◌, ◌<◌}
use mathlib.Core.Path.{◌≡◌}
use mathlib.Core.Bool.{Bool}
use Rattle.words.specs.Tests.{any}
use Rattle.tables.proofs.scan.some_pass.Given as goal

abbrev pub invariant-loop-i : goal.invariant-loop-i
invariant-loop-i g l =
    (p : ℕ → Bool) → ((i : ℕ) → i < l.size → (t : Bool) → goal.F-post g l.test (l.from + i) t → t ≡ p i) → l.found ≡ any l.i p
