use borrow.Author.Rules.{rules}
use Prim.Native.Nat.{ℕ, ◌+◌, ◌*◌, ◌^◌, ◌<◌, min}
use mathlib.Core.Path.{◌≡◌, refl, ◌∙◌}
use native.Mathlib.Omega.{arith}
use Rattle.words.specs.Digits.{digit, fill}
use Rattle.words.proofs.Digits.{digit_lt, digit_past, fill_next, fill_min}
use Rattle.words.proofs.spread.Goals as goal
use Rattle.words.proofs.spread.Goals.{After-only_stage}

-- what the loop's step makes of the word
abbrev sum : After-only_stage → ℕ
sum c = c.loop-q.word + c.bit.result * c.only_stage.result

-- that sum is the word with one digit more, and fits
step : (c : After-only_stage) → (sum c ≡ fill 4 (c.loop-q.q + 1) (digit 2 c.args.set)) × (sum c < 4 ^ 32)
step c =
    let set : ℕ = c.args.set in
    fill_next 4 32 c.loop-q.q _ _ _ (digit 2 set) (search rules)
    (λ k. omega (arith, digit_lt 2 set k (search rules))) (omega arith)
    c.loop-q.invariant c.bit.ensures c.only_stage.ensures

pub loop-q-init : goal.loop-q-init
unfolding fill
loop-q-init c = refl

pub overflow_mul-word : goal.overflow_mul-word
unfolding fill
overflow_mul-word c = omega (arith, step (goal.at.overflow_mul-word c).After-only_stage)

pub overflow_add-word : goal.overflow_add-word
unfolding fill
overflow_add-word c = omega (arith, step (goal.at.overflow_add-word c).After-only_stage)

pub loop-q-preserved : goal.loop-q-preserved
unfolding fill
loop-q-preserved c = (step (goal.at.loop-q-preserved c).After-only_stage).0

pub returns : goal.returns
returns c =
    let set : ℕ = c.args.set in
    let n : ℕ = c.args.n in
    let all : c.loop-q.q ≡ min n 32 = omega arith in
    c.loop-q.invariant ∙ rw all (fill_min 4 32 n (digit 2 set) (λ q h. digit_past 2 set 32 q (search rules) h))
