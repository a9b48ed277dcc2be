-- `check_proposal` makes the first eight tests of a vote in their order.
use Prim.Native.Nat.{ℕ}
use mathlib.Core.Path.{◌≡◌}
use mathlib.Core.List.{List}
use Rattle.words.specs.Tests.{choose}
use Rattle.words.specs.Refusals.{Refusal, first, until, since}
use Rattle.words.proofs.Turns.{turns}
use Rattle.tables.proofs.Columns.{vote_at}
use Rattle.register.specs.Books.{book_of}
use Rattle.register.specs.Views.{stage}
use Rattle.register.specs.Steps.{vote}
use Rattle.register.proofs.Places.{is_inbox}
use Rattle.register.proofs.steps.vote.check_proposal.Goals as goal
use Rattle.register.proofs.steps.vote.check_proposal.Goals.{Else-ne}

-- the tests up to 17 of the vote that is asked for
abbrev tests : Else-ne → List Refusal
tests c = until 18 (vote (book_of c.args.register.now) c.args.office c.args.message).tests

-- past the sixth test those that are left decide
past : (c : Else-ne) (x : ℕ) → x ≡ first (since 16 (tests c)) → x ≡ first (tests c)
unfolding until since choose stage book_of
past c x rest = rw (is_inbox, ← c.stage_of.ensures) (search turns depth 9)

pub returns-then-register-office : goal.returns-then-register-office
unfolding until since choose stage book_of
returns-then-register-office c = search turns depth 9

pub returns-then-register-message : goal.returns-then-register-message
unfolding until since choose stage book_of
returns-then-register-message c = search turns depth 9

pub returns-then-not-is_trusted : goal.returns-then-not-is_trusted
unfolding until since choose stage book_of
returns-then-not-is_trusted c = search turns depth 9

pub returns-then-has : goal.returns-then-has
unfolding until since choose stage book_of
returns-then-has c = search turns depth 9

pub returns-then-leads : goal.returns-then-leads
unfolding until since choose stage book_of
returns-then-leads c = search turns depth 9

pub returns-then-ne : goal.returns-then-ne
unfolding until since choose stage book_of
returns-then-ne c = rw (is_inbox, ← c.stage_of.ensures) (search turns depth 9)

pub returns-then-eq : goal.returns-then-eq
unfolding until since choose stage book_of
returns-then-eq c = past (goal.at.returns-then-eq c).Else-ne _ (rw vote_at (search turns depth 4))

pub returns-then-is_off_epoch : goal.returns-then-is_off_epoch
unfolding until since choose stage book_of
returns-then-is_off_epoch c = past (goal.at.returns-then-is_off_epoch c).Else-ne _ (rw vote_at (search turns depth 4))

pub returns : goal.returns
unfolding until since choose stage book_of
returns c = past (goal.at.returns c).Else-ne _ (rw vote_at (search turns depth 4))
