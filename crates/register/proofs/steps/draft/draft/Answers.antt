-- `draft` makes the three tests in their order, and else names the block.
use mathlib.Core.Path.{refl}
use native.Mathlib.Omega.{arith}
use Rattle.register.specs.Books.{book_of}
use Rattle.register.specs.Steps.{rule_of}
use Rattle.register.specs.Changes.{entries_of}
use Rattle.register.proofs.Answering.{answers, refuses, accepts}
use Rattle.register.proofs.steps.draft.draft.Goals as goal

pub returns-then-register-parent : goal.returns-then-register-parent
unfolding rule_of entries_of book_of
returns-then-register-parent c = refuses _ _ _ 7 (search answers depth 6) (λ e. omega arith)

pub returns-then-epoch-gt-WIDEST_EPOCH : goal.returns-then-epoch-gt-WIDEST_EPOCH
unfolding rule_of entries_of book_of
returns-then-epoch-gt-WIDEST_EPOCH c = refuses _ _ _ 9 (search answers depth 6) (λ e. omega arith)

pub returns-then-b-gt-MOST_BLOCKS : goal.returns-then-b-gt-MOST_BLOCKS
unfolding rule_of entries_of book_of
returns-then-b-gt-MOST_BLOCKS c = refuses _ _ _ 25 (search answers depth 6) (λ e. omega arith)

pub returns : goal.returns
unfolding rule_of entries_of book_of
returns c =
    rw (c.accepted.ensures, c.named.ensures, c.name-b.ensures)
    (accepts _ _ _ 0 (search answers depth 6) refl)
