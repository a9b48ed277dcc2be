-- What the tests of an accepted step tell: one record for each step.
use Prim.Native.Nat.{ℕ, ◌<◌, ◌≤◌}
use mathlib.Core.Path.{◌≡◌}
use mathlib.Core.Bool.{true, false}
use native.Mathlib.Omega.{arith}
use borrow.Author.Tests.{eqb-true, eqb-false, ltb-true, ltb-false, leb-false, not-false}
use lib.Dec.{eqb, leb}
use Rattle.words.specs.Refusals.{first}
use Rattle.words.proofs.Tests.{both_left, both_false, either_false_left, either_false_right}
use Rattle.words.proofs.Clearing.{clear}
use Rattle.tables.specs.Blocks.{trusted_in}
use Rattle.register.specs.Types.{Office, Block, Message, Kind, Step, Header, Book}
use Rattle.register.specs.Tables.{trusted, acted, final_of, parent_of, epoch_of, about_of}
use Rattle.register.specs.Views.{notarised}
use Rattle.register.specs.Chains.{chain_length, longest}
use Rattle.register.specs.Refusals.{finalises, not_in_hand, in_history, blocks_full}
use Rattle.register.specs.Steps.{propose, vote, register, finalise, deliver, bad_send, draft, advance, rule_of}
use Rattle.register.proofs.Places.{Placed, placed}
use Rattle.register.proofs.Finalising.{Consecutive, three_blocks}

-- a trusted office is below n
pub trusted_below : (r : Book) (q : ℕ) → trusted r q ≡ true → q < r.n
unfolding trusted_in
trusted_below r q t = ltb-true q r.n (both_left _ _ t)

-- a message in the inbox
in_hand : (r : Book) (q m : ℕ) → not_in_hand r q m ≡ false → Placed r q m 2
in_hand r q m h = placed r q m 1 (eqb-true _ 2 (not-false _ h))

-- a trusted office that is ready signs a block of the current epoch on a longest chain, and there is room for its message
pub record Signs (r : Book) (q parent epoch : ℕ) : Type 0 where
  pub trusted : trusted r q ≡ true
  pub ready : acted r q ≡ false
  pub longest : longest r q parent ≡ true
  pub later : epoch_of r parent < epoch
  pub room : r.count < 1024

pub record Proposes (r : Book) (q : ℕ) (new : Header) : Type 0 where
  pub parent : new.parent.0 ≤ r.last.0
  pub signs : Signs r q new.parent.0 new.epoch.0
  pub blocks : blocks_full r new ≡ false

-- message m is a proposal in the office's inbox, whose block b is of the current epoch
pub record Votes (r : Book) (q m b : ℕ) : Type 0 where
  pub message : Placed r q m 2
  pub current : epoch_of r b ≡ r.epoch.0
  pub signs : Signs r q (parent_of r b) (epoch_of r b)

pub record Finalises (r : Book) (q b : ℕ) : Type 0 where
  pub block : b ≤ r.last.0
  pub trusted : trusted r q ≡ true
  pub three : Consecutive r (notarised r q) b (parent_of r b) (parent_of r (parent_of r b))
  pub forward : chain_length r (final_of r q) ≤ chain_length r (parent_of r b)

pub record BadSends (r : Book) (kind : Kind) (signer b : ℕ) : Type 0 where
  pub office : signer < r.n
  pub above : 1 ≤ b
  pub made : b ≤ r.last.0
  pub known : trusted r signer ≡ true → in_history r kind signer b ≡ true
  pub room : r.count < 1024

pub record Drafts (r : Book) (new : Header) : Type 0 where
  pub parent : new.parent.0 ≤ r.last.0
  pub epoch : new.epoch.0 ≤ 511
  pub blocks : blocks_full r new ≡ false

-- what is known of any accepted step
abbrev pub Accepted : Book → Step → Type 0
Accepted r (Step.Propose office parent w) = Proposes r office.0 (record { parent = parent; epoch = r.epoch; payload = w })
Accepted r (Step.Vote office message) = Votes r office.0 message.0 (about_of r message.0)
Accepted r (Step.Register office message) = Placed r office.0 message.0 2
Accepted r (Step.Finalise office newest) = Finalises r office.0 newest.0
Accepted r (Step.Deliver message office) = Placed r office.0 message.0 1
Accepted r (Step.BadSend sender kind signer about) = BadSends r kind signer.0 about.0
Accepted r (Step.Draft parent epoch w) = Drafts r (record { parent = parent; epoch = epoch; payload = w })
Accepted r Step.Advance = r.epoch.0 < r.scheduled

module _ (r : Book) where
  proposes : (office : Office) (parent : Block) (w : ℕ) → first (propose r office parent w).tests ≡ 0
      → Accepted r (Step.Propose office parent w)
  proposes office parent w h =
      let fails = clear (propose r office parent w).tests h in
      record {
        parent = ltb-false _ _ fails.1.0;
        signs =
            record {
              trusted = not-false _ fails.1.1.0;
              ready = fails.1.1.1.0;
              longest = not-false _ fails.1.1.1.1.1.0;
              later = leb-false _ _ fails.1.1.1.1.1.1.0;
              room = leb-false _ _ fails.1.1.1.1.1.1.1.1.0;
            };
        blocks = fails.1.1.1.1.1.1.1.0;
      }

  votes : (office : Office) (message : Message) → first (vote r office message).tests ≡ 0 → Accepted r (Step.Vote office message)
  votes office message h =
      let fails = clear (vote r office message).tests h in
      record {
        message = in_hand r office.0 message.0 fails.1.1.1.1.1.0;
        current = eqb-true _ _ (not-false _ (either_false_right _ _ fails.1.1.1.1.1.1.1.0));
        signs =
            record {
              trusted = not-false _ fails.1.1.0;
              ready = fails.1.1.1.0;
              longest = not-false _ fails.1.1.1.1.1.1.1.1.1.0;
              later = leb-false _ _ fails.1.1.1.1.1.1.1.1.1.1.0;
              room = leb-false _ _ fails.1.1.1.1.1.1.1.1.1.1.1.0;
            };
      }

  finalised : (office : Office) (newest : Block) → first (finalise r office newest).tests ≡ 0 → Accepted r (Step.Finalise office newest)
  unfolding finalises
  finalised office newest h =
      let fails = clear (finalise r office newest).tests h in
      record {
        block = ltb-false _ _ fails.1.0;
        trusted = not-false _ fails.1.1.0;
        three = three_blocks r (notarised r office.0) newest.0 (not-false _ fails.1.1.1.0);
        forward = ltb-false _ _ fails.1.1.1.1.0;
      }

  bad_sends : (sender : Office) (kind : Kind) (signer : Office) (about : Block) → first (bad_send r sender kind signer about).tests ≡ 0
      → Accepted r (Step.BadSend sender kind signer about)
  bad_sends sender kind signer about h =
      let fails = clear (bad_send r sender kind signer about).tests h in
      let none : about.0 ≡ 0 → ⊥ = eqb-false _ 0 (either_false_left _ _ fails.1.0) in
      record {
        office = leb-false _ _ (either_false_right (leb r.n sender.0) _ fails.0);
        above = omega arith;
        made = ltb-false _ _ (either_false_right (eqb about.0 0) _ fails.1.0);
        known = λ t. not-false _ (both_false _ _ fails.1.1.1.0 t);
        room = leb-false _ _ fails.1.1.1.1.0;
      }

  -- a step of which no test holds
  pub accepted : (step : Step) → first (rule_of r step).tests ≡ 0 → Accepted r step
  unfolding rule_of
  accepted (Step.Propose office parent w) h = proposes office parent w h
  accepted (Step.Vote office message) h = votes office message h
  accepted (Step.Register office message) h = in_hand r office.0 message.0 (clear (register r office message).tests h).1.1.1.0
  accepted (Step.Finalise office newest) h = finalised office newest h
  accepted (Step.Deliver message office) h =
      placed r office.0 message.0 0 (eqb-true _ 1 (not-false _ (clear (deliver r message office).tests h).1.1.0))
  accepted (Step.BadSend sender kind signer about) h = bad_sends sender kind signer about h
  accepted (Step.Draft parent epoch w) h =
      let fails = clear (draft r parent epoch w).tests h in
      record { parent = ltb-false _ _ fails.0; epoch = ltb-false _ _ fails.1.0; blocks = fails.1.1.0 }
  accepted Step.Advance h = leb-false _ _ (clear (advance r).tests h).0
