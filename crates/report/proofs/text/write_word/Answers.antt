use Prim.Native.Nat.{ℕ}
use native.Mathlib.Numerals.{add-one}
use native.Mathlib.Omega.{arith}
use lib.Seq.{take-suc}
use Rattle.report.proofs.TextLaws.{then}
use Rattle.report.proofs.text.write_word.Goals as goal

pub loop-byte-preserved : goal.loop-byte-preserved
loop-byte-preserved c =
    let a = c.args in
    let i : ℕ = c.loop-byte.byte-index in
    rw (add-one, take-suc a.word.now i 0 (omega arith)) (then c.loop-byte.invariant c.put-next.ensures)
