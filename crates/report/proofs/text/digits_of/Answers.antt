use Prim.Native.Nat.{ℕ, suc, ◌*◌, ◌^◌, ◌≤◌, ◌<◌}
use mathlib.Core.Path.{◌≡◌}
use native.Mathlib.Nat.{pow-succ'}
use native.Mathlib.Omega.{arith}
use Rattle.report.proofs.TextLaws.{decimal_short, decimal_some, decimal_long}
use Rattle.report.proofs.text.digits_of.Goals as goal

pub returns-then-n-eq0 : goal.returns-then-n-eq0
returns-then-n-eq0 c =
    let n : ℕ = c.args.n in
    let none : n ≡ 0 = c.if-n-eq0.true in
    (omega (arith, decimal_short 0 n (omega arith) (omega arith), (decimal_some n (omega arith)).0), omega arith)

pub returns : goal.returns
returns c =
    let n : ℕ = c.args.n in
    let k : ℕ = c.ilog10.result in
    let least : 10 ^ k ≤ n = c.ilog10.ensures.power_le in
    let e : 10 ^ suc k ≡ 10 * 10 ^ k = pow-succ' 10 k in
    let more : n < 10 ^ suc k = omega (arith, c.ilog10.ensures.next_power_gt) in
    let few : k < 20 = c.ilog10.ensures.bound in
    (omega (arith, decimal_short k n (omega arith) more, decimal_long k n (omega arith) least), omega arith)
