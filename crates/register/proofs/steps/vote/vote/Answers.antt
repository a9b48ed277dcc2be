-- `vote` refuses what its tests refuse, and else moves the proposal and sends the vote.
use borrow.Author.Rules.{rules}
use Prim.Native.Nat.{◌<◌}
use mathlib.Core.Path.{◌≡◌, refl, sym, ap}
use native.Mathlib.Omega.{arith}
use borrow.Author.Tests.{leb-false}
use Rattle.std.specs.Prelude.{Err}
use Rattle.refusals.proofs.Numbers.{number_some}
use Rattle.words.proofs.Clearing.{clear}
use Rattle.register.specs.Books.{block, book_of}
use Rattle.tables.proofs.Columns.{block_entry}
use Rattle.register.specs.Effects.{sent_stage}
use Rattle.register.specs.Steps.{rule_of}
use Rattle.register.specs.Changes.{entries_of}
use Rattle.register.proofs.Answering.{refuses, accepts}
use Rattle.register.proofs.steps.vote.vote.Goals as goal
use Rattle.register.proofs.steps.vote.vote.Goals.{In_ok-check_vote}

-- the message has been sent, where nothing was refused
sent : (c : In_ok-check_vote) → c.args.message.0 < 1024
unfolding book_of
sent c = omega (arith, leb-false _ c.args.message.0 (clear _ (sym c.in_ok-check_vote.ensures)).1.0)

pub returns-in_err-check_vote : goal.returns-in_err-check_vote
unfolding rule_of entries_of book_of
returns-in_err-check_vote c =
    let is : c.from_residual.result ≡ Err c.in_err-check_vote.field-0.0 = search rules in
    rw is (refuses _ _ _ _ c.in_err-check_vote.ensures (number_some _))

pub bounds-register-at : goal.bounds-register-at
unfolding book_of
bounds-register-at c = sent (goal.at.bounds-register-at c).In_ok-check_vote

pub bounds-register-at-2 : goal.bounds-register-at-2
unfolding book_of
bounds-register-at-2 c = sent (goal.at.bounds-register-at-2 c).In_ok-check_vote

pub returns : goal.returns
unfolding rule_of entries_of sent_stage book_of
returns c =
    let about = block_entry c.args.register.now.messages.about c.args.message.0 in
    rw (c.accepted.ensures, c.acted.ensures, c.moved-sent.ensures)
    (rw (c.sent.ensures, c.with_stage-entered.ensures)
    (rw (c.sent_place-word.ensures, ap block (sym about)) (accepts _ _ _ _ c.in_ok-check_vote.ensures refl)))
