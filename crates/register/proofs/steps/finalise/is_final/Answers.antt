-- `is_final` makes the tests of the three blocks, and then asks for the chain.
use borrow.Author.Rules.{rules}
use Prim.Native.Nat.{◌<◌}
use mathlib.Core.Path.{ap}
use mathlib.Core.Bool.{not}
use Rattle.register.specs.Books.{book_of}
use Rattle.register.specs.Refusals.{finalises}
use Rattle.register.proofs.Finalising.{not_final_lem, is_final}
use Rattle.register.proofs.Answering.{found_notarised}
use Rattle.register.proofs.steps.finalise.is_final.Goals as goal

pub returns-then-not-are_consecutive : goal.returns-then-not-are_consecutive
unfolding finalises book_of
returns-then-not-are_consecutive c =
    not_final_lem (book_of c.args.register.now) _ _ _ _ _ c.parent-c.ensures c.parent-d.ensures c.are_consecutive.ensures
    (ap not c.if-not-are_consecutive.true)

pub returns : goal.returns
unfolding finalises book_of
returns c =
    let counts = c.requires.0 in
    let base : c.args.base.0 < 256 = search rules in
    let newest : c.args.newest.0 < 256 = search rules in
    is_final (book_of c.args.register.now) _ _ _ _ _ c.parent-c.ensures c.parent-d.ensures c.are_consecutive.ensures _
    (ap not c.if-not-are_consecutive.false)
    (found_notarised (book_of c.args.register.now) _ _ _ _ counts.messages counts.offices base newest c.requires.1 c.requires.2
    c.is_notarised_above.ensures)
