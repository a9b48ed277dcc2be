-- `slip::checking::judge`: the rows of the history, and the test of the three newest blocks, are what the rules speak of.
use borrow.Author.Rules.{rules}
use Prim.Native.Nat.{◌<◌}
use native.Mathlib.Omega.{arith}
use Rattle.register.specs.Books.{book_of}
use Rattle.register.specs.Chains.{chain}
use Rattle.register.proofs.Ranges.{fit_counts, ranges}
use Rattle.slip.proofs.CheckLaws.{marks_told}
use Rattle.slip.proofs.checking.judge.Goals as goal

pub check_marks-requires : goal.check_marks-requires
unfolding chain book_of
check_marks-requires c =
    let given = c.requires in
    ((fit_counts _ given.0).offices, given.2, given.3, given.4)

pub returns : goal.returns
unfolding chain book_of
returns c =
    let given = c.requires in
    let small : c.args.b.0 < 256 = search rules in
    marks_told (book_of c.args.register.now) (ranges given.1 given.0) _ _ small (omega (arith, given.2, given.3)) _ _ _ _
    c.parent-c.ensures c.parent-d.ensures c.are_consecutive-three.ensures
    (rw c.history_rows-history.ensures at c.check_marks.ensures)
