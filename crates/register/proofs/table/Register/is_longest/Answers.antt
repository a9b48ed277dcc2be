-- `Register::is_longest`: the register is fit, and then the search over a trusted office's view finds it; in any other view it is genesis.
use borrow.Author.Rules.{rules}
use Prim.Native.Nat.{◌<◌}
use mathlib.Core.Path.{◌≡◌, sym, ◌∙◌}
use mathlib.Core.Bool.{true}
use Rattle.words.specs.Tests.{both}
use Rattle.register.specs.Books.{book_of}
use Rattle.register.specs.Fitness.{fit}
use Rattle.register.proofs.Longest.{longest_unseen, longest_seen}
use Rattle.register.proofs.table.Register.is_longest.Goals as goal
use Rattle.register.proofs.table.Register.is_longest.Goals.{Else-not-is_fit, Start}

-- once the first test has let it pass, the register is fit
fits : (c : Else-not-is_fit) → fit (book_of c.args.self.now) ≡ true
fits c = sym c.is_fit.ensures ∙ c.if-not-is_fit.false

-- a block's number is below 256
small : (s : Start) → s.args.b.0 < 256
small s = search rules

pub returns-then-not-is_fit : goal.returns-then-not-is_fit
unfolding both
returns-then-not-is_fit c = rw (sym c.is_fit.ensures ∙ c.if-not-is_fit.true)

pub returns-then-not-is_trusted : goal.returns-then-not-is_trusted
unfolding book_of both
returns-then-not-is_trusted c =
    let a = c.args in
    rw (fits (goal.at.returns-then-not-is_trusted c).Else-not-is_fit)
    (longest_unseen (book_of a.self.now) a.office.0 (fits (goal.at.returns-then-not-is_trusted c).Else-not-is_fit) (sym c.is_trusted.ensures ∙ c.if-not-is_trusted.true) a.b.0)

pub returns : goal.returns
unfolding book_of both
returns c =
    let a = c.args in
    rw (fits (goal.at.returns c).Else-not-is_fit)
    (longest_seen (book_of a.self.now) a.office.0 (fits (goal.at.returns c).Else-not-is_fit) a.b.0 _ _
    (sym c.is_trusted.ensures ∙ c.if-not-is_trusted.false)
    (small (goal.at.returns c).Start) c.view_of-view.ensures
    c.is_longest.ensures)
