-- `check_vote`: past the proposal's tests the signature's decides, then the parent's, then the messages'.
use borrow.Author.Rules.{rules}
use Prim.Native.Nat.{ℕ, ◌<◌, ◌≤◌}
use mathlib.Core.Path.{◌≡◌, refl, sym, ◌∙◌}
use mathlib.Core.Bool.{true, false}
use mathlib.Core.List.{List}
use native.Mathlib.Omega.{arith}
use borrow.Author.Tests.{leb-false, not-false}
use Rattle.std.specs.Prelude.{Err}
use Rattle.refusals.proofs.Numbers.{number_some}
use Rattle.words.specs.Tests.{choose, both}
use Rattle.words.specs.Refusals.{Refusal, first, until, since}
use Rattle.words.proofs.Refusals.{positive}
use Rattle.words.proofs.Clearing.{Clear, clear}
use Rattle.words.proofs.Turns.{turns, hit, skip}
use Rattle.register.specs.Books.{book_of}
use Rattle.tables.proofs.Columns.{block_entry}
use Rattle.register.specs.Types.{Office, Message, Book}
use Rattle.register.specs.Tables.{trusted}
use Rattle.register.specs.Views.{stage, signed}
use Rattle.register.specs.Refusals.{entered}
use Rattle.register.specs.Steps.{vote}
use Rattle.register.proofs.Answering.{early, late}
use Rattle.register.proofs.steps.vote.check_vote.Goals as goal

-- where the proposal's tests refuse nothing
module _ (r : Book) (office : Office) (message : Message) (none : 0 ≡ first (until 18 (vote r office message).tests)) where
  abbrev tests : List Refusal
  tests = (vote r office message).tests

  -- those that are left decide
  past : (x : ℕ) → x ≡ first (since 18 tests) → x ≡ first tests
  unfolding positive both
  past x rest = late 18 _ 0 x refl none refl rest

  -- each of them fails: the message has been sent, and the office is trusted
  fails : Clear (until 18 tests)
  fails = clear _ (sym none)

  sent : r.count ≤ 1024 → message.0 < 1024
  unfolding until choose
  sent few = omega (arith, leb-false _ message.0 fails.1.0)

  trusts : trusted r office.0 ≡ true
  unfolding until choose
  trusts = not-false _ fails.1.1.0

  -- where the signature is not in the view either, those of the parent and of the messages decide
  module _ (unentered : entered r office.0 message.0 ≡ false) where
    later : (x : ℕ) → x ≡ first (since 19 tests) → x ≡ first tests
    unfolding since choose stage signed
    later x rest = past x (skip _ x _ _ unentered rest)

    -- where those of the parent refuse nothing, that of the messages decides
    last : 0 ≡ first (until 26 (since 19 tests)) → (x : ℕ) → x ≡ first (since 26 tests) → x ≡ first tests
    unfolding since choose positive both
    last on x rest = later x (late 26 _ 0 x refl on refl rest)

pub returns-in_err-check_proposal : goal.returns-in_err-check_proposal
unfolding book_of
returns-in_err-check_proposal c =
    let is : c.from_residual.result ≡ Err c.in_err-check_proposal.field-0.0 = search rules in
    rw is (early 18 _ _ c.in_err-check_proposal.ensures (number_some _))

pub is_entered-requires : goal.is_entered-requires
unfolding book_of
is_entered-requires c =
    let none = c.in_ok-check_proposal.ensures in
    (c.requires, sent (book_of c.args.register.now) c.args.office c.args.message none c.requires.messages, trusts (book_of c.args.register.now) c.args.office c.args.message none)

pub returns-then-is_entered : goal.returns-then-is_entered
unfolding since choose stage signed book_of
returns-then-is_entered c =
    past (book_of c.args.register.now) c.args.office c.args.message c.in_ok-check_proposal.ensures 18 (hit _ _ _ (sym c.is_entered.ensures ∙ c.if-is_entered.true))

pub bounds-register-message : goal.bounds-register-message
unfolding book_of
bounds-register-message c = sent (book_of c.args.register.now) c.args.office c.args.message c.in_ok-check_proposal.ensures c.requires.messages

pub check_extending-requires : goal.check_extending-requires
unfolding book_of
check_extending-requires c = (c.requires, trusts (book_of c.args.register.now) c.args.office c.args.message c.in_ok-check_proposal.ensures)

pub returns-in_err-check_extending : goal.returns-in_err-check_extending
unfolding until since choose book_of
returns-in_err-check_extending c =
    let is : c.from_residual-in_err-check_extending.result ≡ Err c.in_err-check_extending.field-0.0 = search rules in
    let found = rw (c.parent-parent.ensures, c.epoch-epoch.ensures, ← block_entry) at c.in_err-check_extending.ensures in
    rw is
    (later (book_of c.args.register.now) c.args.office c.args.message c.in_ok-check_proposal.ensures (sym c.is_entered.ensures ∙ c.if-is_entered.false) _
    (early 26 _ _ found (number_some _)))

pub returns-then-register-ge-MOST_MESSAGES : goal.returns-then-register-ge-MOST_MESSAGES
unfolding until since choose book_of
returns-then-register-ge-MOST_MESSAGES c =
    let found = rw (c.parent-parent.ensures, c.epoch-epoch.ensures, ← block_entry) at c.in_ok-check_extending.ensures in
    last (book_of c.args.register.now) c.args.office c.args.message c.in_ok-check_proposal.ensures (sym c.is_entered.ensures ∙ c.if-is_entered.false) found 26 (search turns depth 3)

pub returns : goal.returns
unfolding until since choose book_of
returns c =
    let found = rw (c.parent-parent.ensures, c.epoch-epoch.ensures, ← block_entry) at c.in_ok-check_extending.ensures in
    last (book_of c.args.register.now) c.args.office c.args.message c.in_ok-check_proposal.ensures (sym c.is_entered.ensures ∙ c.if-is_entered.false) found 0 (search turns depth 3)
