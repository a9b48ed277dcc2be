-- `words::with_stage` takes the old digit out and puts the new one in; past the word's last digit there is none.
use borrow.Author.Rules.{rules}
use mathlib.Core.Path.{sym, ◌∙◌}
use native.Mathlib.Omega.{arith}
use borrow.Author.Tests.{ne_eqb}
use Rattle.words.specs.Tests.{choose}
use Rattle.words.specs.Digits.{digit, with_stage}
use Rattle.words.proofs.Digits.{Staged, staged, fill_ext, fill_whole}
use Rattle.words.proofs.with_stage.Goals as goal
use Rattle.words.proofs.with_stage.Goals.{After-stage-old}

-- the new digit in the place of the old one
put : (c : After-stage-old) → Staged c.args.word c.args.q c.args.new c.stage-old.result c.only_stage-unit.result
put c = staged _ _ _ _ _ (search rules) (search rules) c.stage-old.ensures c.only_stage-unit.ensures

pub returns-then-q-ge32 : goal.returns-then-q-ge32
unfolding with_stage choose
returns-then-q-ge32 c =
    let a = c.args in
    sym
    (fill_ext 4 32 _ (digit 4 a.word) (λ k h. rw (ne_eqb k a.q (λ e. omega arith)))
    ∙ fill_whole 4 32 32 a.word (omega arith) (search rules) (omega arith))

pub overflow_mul-result : goal.overflow_mul-result
overflow_mul-result c = omega (arith, (put (goal.at.overflow_mul-result c).After-stage-old).taken)

pub overflow_sub-result : goal.overflow_sub-result
overflow_sub-result c = omega (arith, (put (goal.at.overflow_sub-result c).After-stage-old).taken)

pub overflow_mul-result-2 : goal.overflow_mul-result-2
overflow_mul-result-2 c = omega (arith, (put (goal.at.overflow_mul-result-2 c).After-stage-old).fits)

pub overflow_add-result : goal.overflow_add-result
overflow_add-result c = omega (arith, (put (goal.at.overflow_add-result c).After-stage-old).fits)

pub returns : goal.returns
returns c = (put (goal.at.returns c).After-stage-old).is
