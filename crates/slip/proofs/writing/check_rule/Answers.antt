-- `slip::writing::check_rule` makes the five tests in their order.
use borrow.Author.Rules.{rules}
use Prim.Native.Nat.{ℕ, ◌<◌}
use mathlib.Core.Path.{◌≡◌, sym, ap, ◌∙◌}
use mathlib.Core.Bool.{not}
use mathlib.Core.List.{[], ◌∷◌}
use native.Mathlib.Omega.{arith}
use Rattle.words.specs.Refusals.{◌⇒◌, first}
use Rattle.words.proofs.Turns.{turns, hit, skip, none, unanswered}
use Rattle.register.specs.declared.book.Book.{Book}
use Rattle.register.specs.Books.{book_of}
use Rattle.register.specs.Refusals.{finalises, not_final}
use Rattle.register.proofs.Ranges.{fit_counts}
use Rattle.register.proofs.Chains.{genesis_notarised}
use Rattle.register.proofs.Finalising.{not_final_lem, is_final}
use Rattle.register.proofs.Answering.{found_notarised}
use Rattle.slip.specs.Writing.{rule_tests}
use Rattle.slip.proofs.writing.check_rule.Goals as goal
use Rattle.slip.proofs.writing.check_rule.Goals.{After-is_notarised_above, Else-not-is_trusted}

-- past 10 the finalise rule decides
last : (c : Else-not-is_trusted) (x : ℕ) → (let r = book_of c.args.register.now in let office = c.args.office.0 in let b = c.args.b.0 in x ≡ first ((not_final r office b ⇒ 21) ∷ []) → x ≡ first (rule_tests r office b))
unfolding book_of
last c x rest = search turns depth 8

-- the rule, as it was found
found : (c : After-is_notarised_above) → c.is_notarised_above.result ≡ finalises (book_of c.args.register.now) c.args.office.0 c.args.b.0
unfolding finalises book_of
found c =
    let r : Book = book_of c.args.register.now in
    let counts = fit_counts r (sym c.is_fit.ensures ∙ c.if-not-is_fit.false) in
    let small : c.args.b.0 < 256 = search rules in
    is_final r _ _ _ _ _ c.parent-c.ensures c.parent-d.ensures c.are_consecutive.ensures _ (ap not c.if-not-are_consecutive.false)
    (found_notarised r _ _ _ _ counts.messages counts.offices (omega arith) small
    (sym c.is_trusted.ensures ∙ c.if-not-is_trusted.false) (genesis_notarised _ _) c.is_notarised_above.ensures)

pub returns-then-not-is_fit : goal.returns-then-not-is_fit
returns-then-not-is_fit c = search turns depth 7

pub returns-then-register-office : goal.returns-then-register-office
unfolding book_of
returns-then-register-office c = search turns depth 7

pub returns-then-blocks-b : goal.returns-then-blocks-b
unfolding book_of
returns-then-blocks-b c = search turns depth 7

pub returns-then-not-is_trusted : goal.returns-then-not-is_trusted
unfolding book_of
returns-then-not-is_trusted c = search turns depth 7

pub returns-then-not-are_consecutive : goal.returns-then-not-are_consecutive
unfolding finalises book_of
returns-then-not-are_consecutive c =
    last (goal.at.returns-then-not-are_consecutive c).Else-not-is_trusted _
    (hit _ _ _ (ap not (sym
    (not_final_lem (book_of c.args.register.now) _ _ _ _ _ c.parent-c.ensures c.parent-d.ensures c.are_consecutive.ensures
    (ap not c.if-not-are_consecutive.true)))))

pub returns-then-not-is_notarised_above : goal.returns-then-not-is_notarised_above
returns-then-not-is_notarised_above c =
    last (goal.at.returns-then-not-is_notarised_above c).Else-not-is_trusted _
    (hit _ _ _ (unanswered _ _ _ (found (goal.at.returns-then-not-is_notarised_above c).After-is_notarised_above) (ap not c.if-not-is_notarised_above.true)))

pub returns : goal.returns
returns c =
    last (goal.at.returns c).Else-not-is_trusted _
    (skip _ _ _ _ (unanswered _ _ _ (found (goal.at.returns c).After-is_notarised_above) (ap not c.if-not-is_notarised_above.false)) none)
