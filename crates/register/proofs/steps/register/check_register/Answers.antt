-- `check_register` makes the six tests in their order.
use borrow.Author.Rules.{rules}
use Rattle.words.proofs.Turns.{turns}
use Rattle.tables.proofs.Columns.{vote_at}
use Rattle.register.specs.Books.{book_of}
use Rattle.register.specs.Views.{stage, signed}
use Rattle.register.proofs.Places.{is_inbox}
use Rattle.register.proofs.steps.register.check_register.Goals as goal

pub returns-then-register-office : goal.returns-then-register-office
unfolding stage signed book_of
returns-then-register-office c = search turns depth 9

pub returns-then-register-message : goal.returns-then-register-message
unfolding stage signed book_of
returns-then-register-message c = search turns depth 9

pub returns-then-not-is_trusted : goal.returns-then-not-is_trusted
unfolding stage signed book_of
returns-then-not-is_trusted c = search turns depth 9

pub returns-then-ne : goal.returns-then-ne
unfolding stage signed book_of
returns-then-ne c = rw (is_inbox, ← c.stage_of.ensures) (search turns depth 9)

pub returns-then-ne-2 : goal.returns-then-ne-2
unfolding stage signed book_of
returns-then-ne-2 c = rw (is_inbox, ← c.stage_of.ensures, vote_at) (search turns depth 9)

pub is_entered-requires : goal.is_entered-requires
unfolding stage signed book_of
is_entered-requires c = (search rules, search rules, search rules)

pub returns-then-is_entered : goal.returns-then-is_entered
unfolding stage signed book_of
returns-then-is_entered c = rw (is_inbox, ← c.stage_of.ensures, vote_at) (search turns depth 9)

pub returns : goal.returns
unfolding stage signed book_of
returns c = rw (is_inbox, ← c.stage_of.ensures, vote_at) (search turns depth 9)
