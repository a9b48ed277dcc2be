-- `propose` makes the tests of the parent, the blocks and the messages, and else names the block and sends its proposal.
use borrow.Author.Rules.{rules}
use Prim.Native.Nat.{ℕ}
use mathlib.Core.Path.{◌≡◌, refl}
use mathlib.Core.List.{List}
use native.Mathlib.Omega.{arith}
use Rattle.std.specs.Prelude.{Err}
use Rattle.refusals.proofs.Numbers.{number_some}
use Rattle.words.specs.Tests.{choose, both}
use Rattle.words.specs.Refusals.{Refusal, first, since}
use Rattle.words.proofs.Refusals.{positive}
use Rattle.register.specs.Books.{book_of}
use Rattle.register.specs.Effects.{sent_stage}
use Rattle.register.specs.Steps.{propose, rule_of}
use Rattle.register.specs.Changes.{entries_of}
use Rattle.register.proofs.Answering.{answers, early, late, refuses, accepts}
use Rattle.register.proofs.steps.propose.propose.Goals as goal
use Rattle.register.proofs.steps.propose.propose.Goals.{In_ok-check_parent}

-- the tests of the proposal that is asked for
abbrev tests : In_ok-check_parent → List Refusal
tests c = let a = c.args in (propose (book_of a.register.now) a.office a.parent a.payload).tests

-- past those of the parent those that are left decide
past : (c : In_ok-check_parent) (x : ℕ) → x ≡ first (since 25 (tests c)) → x ≡ first (tests c)
unfolding positive both
past c x rest = late 25 _ _ x refl c.in_ok-check_parent.ensures refl rest

pub returns-in_err-check_parent : goal.returns-in_err-check_parent
unfolding rule_of entries_of book_of
returns-in_err-check_parent c =
    let is : c.from_residual.result ≡ Err c.in_err-check_parent.field-0.0 = search rules in
    rw is (refuses _ _ _ _ (early 25 _ _ c.in_err-check_parent.ensures (number_some _)) (number_some _))

pub returns-then-b-gt-MOST_BLOCKS : goal.returns-then-b-gt-MOST_BLOCKS
unfolding rule_of entries_of since choose book_of
returns-then-b-gt-MOST_BLOCKS c =
    refuses _ _ _ 25 (past (goal.at.returns-then-b-gt-MOST_BLOCKS c).In_ok-check_parent 25 (search answers depth 4)) (λ e. omega arith)

pub returns-then-register-ge-MOST_MESSAGES : goal.returns-then-register-ge-MOST_MESSAGES
unfolding rule_of entries_of since choose book_of
returns-then-register-ge-MOST_MESSAGES c =
    refuses _ _ _ 26 (past (goal.at.returns-then-register-ge-MOST_MESSAGES c).In_ok-check_parent 26 (search answers depth 4)) (λ e. omega arith)

pub returns : goal.returns
unfolding rule_of entries_of since choose sent_stage book_of
returns c =
    rw (c.accepted.ensures, c.acted.ensures, c.sent-sent.ensures)
    (rw (c.named.ensures, c.sent_place-word.ensures)
    (rw c.name-b.ensures
    (accepts _ _ _ 0 (past (goal.at.returns c).In_ok-check_parent 0 (search answers depth 4)) refl)))
