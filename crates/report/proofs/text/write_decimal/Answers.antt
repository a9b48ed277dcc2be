use borrow.Author.Rules.{rules}
use Prim.Native.Nat.{◌+◌, ◌^◌, ◌≤◌, ◌<◌}
use mathlib.Core.Path.{◌≡◌, ◌∙◌}
use mathlib.Core.List.{[], ◌∷◌}
use native.Mathlib.Omega.{arith}
use Rattle.report.specs.Text.{decimal}
use Rattle.report.proofs.TextLaws.{last_first, decimal_one, decimal_longer, decimal_some}
use Rattle.report.proofs.text.write_decimal.Goals as goal

pub overflow_sub-place : goal.overflow_sub-place
overflow_sub-place c = omega (arith, (decimal_some c.loop-rest.rest (omega arith)).0)

pub loop-rest-preserved : goal.loop-rest-preserved
loop-rest-preserved c =
    let a = c.args in
    let l = c.loop-rest in
    let fits : l.rest < 2 ^ 64 = omega arith in
    let more : 10 ≤ l.rest = omega arith in (
      omega arith,
      omega arith,
      omega (arith, decimal_longer l.rest fits more),
      rw c.put_digit.ensures (last_first l.report a.at l.place l.rest fits more l.invariant.2) ∙ l.invariant.3,
    )

pub returns : goal.returns
returns c =
    let digit : decimal c.loop-rest.rest ≡ (48 + c.loop-rest.rest) ∷ [] = decimal_one _ (omega arith) in
    (record { counted = search rules; laid = c.put_digit-2.ensures ∙ (rw digit at c.loop-rest.invariant.3) }, search rules)
