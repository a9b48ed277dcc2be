-- The eight steps. Each has its tests in the order in which they are made, its effect and its value; test 5, of the register itself,
-- comes before them all.
use Rattle.std.specs.Prelude.{ℕ, ◌+◌, Bool, not, List, [], ◌∷◌, eqb}
use Rattle.words.specs.Tests.{choose, either}
use Rattle.words.specs.Refusals.{Refusal, ◌⇒◌, first}
use Rattle.register.specs.Types.{Office, Epoch, Block, Message, Kind, Step, Header, Register, Stepped, Book}
use Rattle.tables.specs.Messages.{inbox, view}
use Rattle.register.specs.Books.{block, book_of, register_of}
use Rattle.register.specs.Tables.{trusted, acted, state_of, parent_of, epoch_of, named, about_of}
use Rattle.register.specs.Fitness.{fit}
use Rattle.register.specs.Refusals.{
  no_office,
  no_block,
  no_message,
  wide,
  barred,
  leads,
  not_in_hand,
  votes,
  off_epoch,
  entered,
  not_longest,
  epochs,
  not_final,
  forged,
  not_sent,
  spent,
  blocks_full,
  messages_full,
  behind,
}
use Rattle.register.specs.Effects.{with_named, with_sent, with_moved, with_acted, with_state, finalising, with_next_epoch}

-- what a step's rule says: its tests, and what an accepted step gives
pub record Rule : Type 0 where
  pub tests : List Refusal
  pub effect : Book
  pub value : ℕ

-- Propose: the block of the current epoch is named; its proposal is sent, is in the office's view, and the office has acted.
abbrev pub propose : Book → Office → Block → (payload : ℕ) → Rule
propose r office parent w =
    let q : ℕ = office.0 in
    let p : ℕ = parent.0 in
    let new : Header = record { parent = parent; epoch = r.epoch; payload = w } in
    record {
      tests =
          (no_office r q ⇒ 6)
          ∷ (no_block r p ⇒ 7)
          ∷ (barred r q ⇒ 10)
          ∷ (acted r q ⇒ 12)
          ∷ (not (leads r q) ⇒ 13)
          ∷ (not_longest r q p ⇒ 19)
          ∷ (epochs r.epoch.0 (epoch_of r p) ⇒ 20)
          ∷ (blocks_full r new ⇒ 25)
          ∷ (messages_full r ⇒ 26)
          ∷ [];
      effect =
          with_acted
          (with_sent (with_named r new) q (record { kind = Kind.Proposal; signer = office; about = block (named r new) }))
          q;
      value = r.count;
    }

-- Vote: the proposal moves from inbox to view; a vote for its block is sent and is in the view; the office has acted.
abbrev pub vote : Book → Office → Message → Rule
vote r office message =
    let q : ℕ = office.0 in
    let m : ℕ = message.0 in
    let b : ℕ = about_of r m in
    record {
      tests =
          (no_office r q ⇒ 6)
          ∷ (no_message r m ⇒ 8)
          ∷ (barred r q ⇒ 10)
          ∷ (acted r q ⇒ 12)
          ∷ (leads r q ⇒ 14)
          ∷ (not_in_hand r q m ⇒ 15)
          ∷ (votes r m ⇒ 16)
          ∷ (off_epoch r m ⇒ 17)
          ∷ (entered r q m ⇒ 18)
          ∷ (not_longest r q (parent_of r b) ⇒ 19)
          ∷ (epochs (epoch_of r b) (epoch_of r (parent_of r b)) ⇒ 20)
          ∷ (messages_full r ⇒ 26)
          ∷ [];
      effect =
          with_acted
          (with_sent (with_moved r m q view) q (record { kind = Kind.Vote; signer = office; about = block b }))
          q;
      value = r.count;
    }

-- Register: a vote moves from inbox to view.
abbrev pub register : Book → Office → Message → Rule
register r office message =
    let q : ℕ = office.0 in
    let m : ℕ = message.0 in
    record {
      tests =
          (no_office r q ⇒ 6)
          ∷ (no_message r m ⇒ 8)
          ∷ (barred r q ⇒ 10)
          ∷ (not_in_hand r q m ⇒ 15)
          ∷ (not (votes r m) ⇒ 16)
          ∷ (entered r q m ⇒ 18)
          ∷ [];
      effect = with_moved r m q view;
      value = m;
    }

-- Finalise: the final block becomes the parent of a block that meets the condition, unless the final chain would get shorter.
abbrev pub finalise : Book → Office → Block → Rule
finalise r office newest =
    let q : ℕ = office.0 in
    let b : ℕ = newest.0 in
    record {
      tests =
          (no_office r q ⇒ 6)
          ∷ (no_block r b ⇒ 7)
          ∷ (barred r q ⇒ 10)
          ∷ (not_final r q b ⇒ 21)
          ∷ (behind r q b ⇒ 32)
          ∷ [];
      effect = with_state r q (finalising (state_of r q) (parent_of r b));
      value = parent_of r b;
    }

-- Deliver: a message moves from transit to the inbox.
abbrev pub deliver : Book → Message → Office → Rule
deliver r message office =
    let q : ℕ = office.0 in
    let m : ℕ = message.0 in
    record {
      tests = (no_office r q ⇒ 6) ∷ (no_message r m ⇒ 8) ∷ (not_sent r q m ⇒ 23) ∷ [];
      effect = with_moved r m q inbox;
      value = m;
    }

-- Bad send: an untrusted office sends what it likes, but for the signatures of trusted offices that they never sent. Block 0 is
-- refused with 7.
abbrev pub bad_send : Book → Office → Kind → Office → Block → Rule
bad_send r sender kind signer about =
    let b : ℕ = about.0 in
    record {
      tests =
          (either (no_office r sender.0) (no_office r signer.0) ⇒ 6)
          ∷ (either (eqb b 0) (no_block r b) ⇒ 7)
          ∷ (trusted r sender.0 ⇒ 11)
          ∷ (forged r kind signer.0 b ⇒ 22)
          ∷ (messages_full r ⇒ 26)
          ∷ [];
      effect = with_sent r sender.0 (record { kind = kind; signer = signer; about = about });
      value = r.count;
    }

-- Draft: names a block, sends nothing.
abbrev pub draft : Book → Block → Epoch → (payload : ℕ) → Rule
draft r parent epoch w =
    let new : Header = record { parent = parent; epoch = epoch; payload = w } in
    record {
      tests = (no_block r parent.0 ⇒ 7) ∷ (wide epoch.0 ⇒ 9) ∷ (blocks_full r new ⇒ 25) ∷ [];
      effect = with_named r new;
      value = named r new;
    }

-- Advance: next epoch, every trusted office ready.
abbrev pub advance : Book → Rule
advance r = record { tests = (spent r ⇒ 24) ∷ []; effect = with_next_epoch r; value = r.epoch.0 + 1 }

-- the rule of a step
unfoldable pub rule_of : Book → Step → Rule
rule_of r (Step.Propose office parent payload) = propose r office parent payload
rule_of r (Step.Vote office message) = vote r office message
rule_of r (Step.Register office message) = register r office message
rule_of r (Step.Finalise office newest) = finalise r office newest
rule_of r (Step.Deliver message office) = deliver r message office
rule_of r (Step.BadSend sender kind signer about) = bad_send r sender kind signer about
rule_of r (Step.Draft parent epoch payload) = draft r parent epoch payload
rule_of r Step.Advance = advance r

-- the refusal of a step: 5 where the register is not fit, else the first of the rule's tests that holds
unfoldable pub refusal : (fits : Bool) → Rule → ℕ
refusal fits rule = first ((not fits ⇒ 5) ∷ rule.tests)

-- what a step gives, by the book: the book after it, 0 or the refusal, and the value
pub record Outcome : Type 0 where
  pub book : Book
  pub refusal : ℕ
  pub value : ℕ

-- a refused step leaves the book as it was, with value 0; an accepted one gives the effect and the value
unfoldable pub judged : (fits : Bool) → Book → Rule → Outcome
judged fits r rule =
    record {
      book = choose (eqb (refusal fits rule) 0) rule.effect r;
      refusal = refusal fits rule;
      value = choose (eqb (refusal fits rule) 0) rule.value 0;
    }

unfoldable pub book_rule : Book → Step → Outcome
book_rule r step = judged (fit r) r (rule_of r step)

-- what a step gives
unfoldable pub step_rule : Register → Step → Stepped
step_rule r step =
    let given : Outcome = book_rule (book_of r) step in
    record { register = register_of given.book; refusal = given.refusal; value = given.value }
