-- `check_extending` makes the two tests in their order.
use borrow.Author.Rules.{rules}
use Prim.Native.Nat.{◌<◌}
use mathlib.Core.Path.{◌≡◌, ap}
use mathlib.Core.Bool.{Bool, true, false, not}
use Rattle.register.specs.Books.{book_of}
use Rattle.register.specs.Refusals.{not_longest}
use Rattle.register.proofs.Answering.{answers, found_longest}
use Rattle.register.proofs.steps.extending.check_extending.Goals as goal
use Rattle.register.proofs.steps.extending.check_extending.Goals.{After-is_longest}

-- 19 is what the search found
searched : (c : After-is_longest) (u : Bool) → not c.is_longest.result ≡ u → (let a = c.args in not_longest (book_of a.register.now) a.office.0 a.parent.0 ≡ u)
unfolding book_of
searched c u found =
    let small : c.args.parent.0 < 256 = search rules in
    found_longest _ _ _ _ _ u c.requires.0.messages c.requires.0.offices c.requires.0.blocks small c.requires.1 c.view-view.ensures
    c.is_longest.ensures found

pub returns-then-not-is_longest : goal.returns-then-not-is_longest
unfolding book_of
returns-then-not-is_longest c =
    search (answers, searched (goal.at.returns-then-not-is_longest c).After-is_longest true (ap not c.if-not-is_longest.true)) depth 6

pub returns-then-epoch : goal.returns-then-epoch
unfolding book_of
returns-then-epoch c =
    search (answers, searched (goal.at.returns-then-epoch c).After-is_longest false (ap not c.if-not-is_longest.false)) depth 6

pub returns : goal.returns
unfolding book_of
returns c =
    search (answers, searched (goal.at.returns c).After-is_longest false (ap not c.if-not-is_longest.false)) depth 6
