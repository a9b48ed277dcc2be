-- `check_bad_send` makes the five tests in their order.
use Rattle.register.specs.Books.{book_of}
use Rattle.register.proofs.Answering.{answers}
use Rattle.register.proofs.steps.bad_send.check_bad_send.Goals as goal

pub returns-then-register-sender : goal.returns-then-register-sender
unfolding book_of
returns-then-register-sender c = search answers depth 8

pub returns-then-b-register : goal.returns-then-b-register
unfolding book_of
returns-then-b-register c = search answers depth 8

pub returns-then-is_trusted : goal.returns-then-is_trusted
unfolding book_of
returns-then-is_trusted c = search answers depth 8

pub returns-then-is_forged : goal.returns-then-is_forged
unfolding book_of
returns-then-is_forged c = search answers depth 8

pub returns-then-register-ge-MOST_MESSAGES : goal.returns-then-register-ge-MOST_MESSAGES
unfolding book_of
returns-then-register-ge-MOST_MESSAGES c = search answers depth 8

pub returns : goal.returns
unfolding book_of
returns c = search answers depth 8
