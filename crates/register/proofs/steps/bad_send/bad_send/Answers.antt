-- `bad_send` refuses what its tests refuse, and else sends the message.
use borrow.Author.Rules.{rules}
use mathlib.Core.Path.{◌≡◌, refl}
use Rattle.std.specs.Prelude.{Err}
use Rattle.refusals.proofs.Numbers.{number_some}
use Rattle.register.specs.Books.{book_of}
use Rattle.register.specs.Effects.{sent_stage}
use Rattle.register.specs.Steps.{rule_of}
use Rattle.register.specs.Changes.{entries_of}
use Rattle.register.proofs.Answering.{refuses, accepts}
use Rattle.register.proofs.steps.bad_send.bad_send.Goals as goal

pub returns-in_err-check_bad_send : goal.returns-in_err-check_bad_send
unfolding rule_of entries_of book_of
returns-in_err-check_bad_send c =
    let is : c.from_residual.result ≡ Err c.in_err-check_bad_send.field-0.0 = search rules in
    rw is (refuses _ _ _ _ c.in_err-check_bad_send.ensures (number_some _))

pub returns : goal.returns
unfolding rule_of entries_of sent_stage book_of
returns c =
    rw (c.accepted.ensures, c.sent.ensures)
    (rw c.sent_place-word.ensures (accepts _ _ _ _ c.in_ok-check_bad_send.ensures refl))
