-- `stage_numbered` goes by the number.
use native.Mathlib.Omega.{arith}
use borrow.Author.Tests.{ne_eqb}
use Rattle.words.specs.Tests.{choose}
use Rattle.register.specs.Views.{stage_numbered}
use Rattle.register.proofs.steps.places.stage_numbered.Goals as goal

pub returns-in-1 : goal.returns-in-1
unfolding stage_numbered choose
returns-in-1 c = rw c.in-1.is

pub returns-in-2 : goal.returns-in-2
unfolding stage_numbered choose
returns-in-2 c = rw c.in-2.is

pub returns-in-3 : goal.returns-in-3
unfolding stage_numbered choose
returns-in-3 c = rw c.in-3.is

pub returns-in_default : goal.returns-in_default
unfolding stage_numbered choose
returns-in_default c =
    let n = c.args.number in
    rw (ne_eqb n 1 (omega arith), ne_eqb n 2 (omega arith), ne_eqb n 3 (omega arith))
