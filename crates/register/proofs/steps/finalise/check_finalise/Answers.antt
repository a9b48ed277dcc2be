-- `check_finalise` makes the five tests in their order.
use borrow.Author.Rules.{rules}
use mathlib.Core.Path.{sym, ◌∙◌}
use native.Mathlib.Omega.{arith}
use Rattle.words.proofs.Turns.{turns}
use Rattle.register.specs.Books.{book_of}
use Rattle.register.specs.Chains.{chain}
use Rattle.register.proofs.Answering.{answers}
use Rattle.register.proofs.steps.finalise.check_finalise.Goals as goal

pub returns-then-register-office : goal.returns-then-register-office
unfolding book_of
returns-then-register-office c = search turns depth 7

pub returns-then-register-newest : goal.returns-then-register-newest
unfolding book_of
returns-then-register-newest c = search turns depth 7

pub returns-then-not-is_trusted : goal.returns-then-not-is_trusted
unfolding book_of
returns-then-not-is_trusted c = search turns depth 7

pub is_final-requires : goal.is_final-requires
unfolding book_of
is_final-requires c = (c.requires.0, search rules, c.requires.1)

pub returns-then-not-is_final : goal.returns-then-not-is_final
unfolding book_of
returns-then-not-is_final c = search answers depth 8

pub bounds-register-office : goal.bounds-register-office
unfolding book_of
bounds-register-office c =
    let below = c.if-register-office.false in
    omega (arith, below, c.requires.0.offices)

-- 32, by the parent that was found
pub returns-then-is_shorter : goal.returns-then-is_shorter
unfolding chain book_of
returns-then-is_shorter c =
    let shorter = rw c.parent-c.ensures at c.is_shorter.ensures in
    search (answers, sym shorter ∙ c.if-is_shorter.true) depth 8

pub returns : goal.returns
unfolding chain book_of
returns c =
    let shorter = rw c.parent-c.ensures at c.is_shorter.ensures in
    search (answers, sym shorter ∙ c.if-is_shorter.false) depth 8
