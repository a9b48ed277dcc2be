-- `advance` refuses in the last epoch, and else sets the clock.
use mathlib.Core.Path.{refl}
use native.Mathlib.Omega.{arith}
use Rattle.words.proofs.Turns.{turns}
use Rattle.register.specs.Books.{book_of}
use Rattle.register.specs.Steps.{rule_of}
use Rattle.register.specs.Changes.{entries_of}
use Rattle.register.proofs.Answering.{refuses, accepts}
use Rattle.register.proofs.steps.advance.advance.Goals as goal

pub returns-then-register-epoch : goal.returns-then-register-epoch
unfolding rule_of entries_of book_of
returns-then-register-epoch c = refuses _ _ _ 24 (search turns depth 4) (λ e. omega arith)

pub returns : goal.returns
unfolding rule_of entries_of book_of
returns c = rw (c.accepted.ensures, c.timed.ensures) (accepts _ _ _ 0 (search turns depth 4) refl)
