-- `words::has` asks whether the digit is 1.
use mathlib.Core.Path.{ap}
use Prim.Native.Nat.{ℕ}
use lib.Dec.{eqb}
use Rattle.words.proofs.has.Goals as goal

pub returns : goal.returns
returns c = ap (λ (d : ℕ). eqb d 1) c.bit.ensures
