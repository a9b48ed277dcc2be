-- The change of a step carries the step out: what is written and answered is what the rule gives.
use Prim.Native.Nat.{ℕ, ◌<◌}
use mathlib.Core.Path.{◌≡◌, refl, ap, ◌∙◌}
use mathlib.Core.Bool.{Bool, true, false}
use native.Mathlib.Omega.{arith}
use borrow.Author.Tests.{eqb-true}
use lib.Dec.{eqb, leb}
use Rattle.words.specs.Tests.{choose}
use Rattle.words.specs.Refusals.{first}
use Rattle.register.specs.Types.{Step, Header, OfficeState, Book, Change}
use Rattle.register.specs.Books.{block}
use Rattle.register.specs.Tables.{state_of, parent_of, named, about_of}
use Rattle.register.specs.Refusals.{blocks_full}
use Rattle.register.specs.Effects.{with_state, finalising}
use Rattle.register.specs.Steps.{Outcome, refusal, judged, rule_of}
use Rattle.register.specs.Counted.{CountedBook}
use Rattle.register.specs.Changes.{unchanged_of, refusing, accepting, naming, holding, entries_of, change_by, change_of}
use Rattle.register.specs.Settled.{actor_of}
use Rattle.register.proofs.Accepted.{Accepted, accepted, trusted_below}
use Rattle.register.proofs.Naming.{named_room}
use Rattle.register.specs.Written.{InBounds, InTables, written}
use Rattle.register.proofs.Writing.{same, writes_nothing, writes_moved, writes_state, writes_epoch, writes_sent, writes_vote, writes_named, writes_propose}

-- what a change gives once it is written
abbrev pub outcome : Book → Change → Outcome
outcome r c = record { book = written r c; refusal = c.answer.refusal; value = c.answer.value }

-- a change carries out a step: what is written and answered is what the rule gives
pub record CarriesOut (fits : Bool) (r : Book) (step : Step) (c : Change) : Type 0 where
  pub answer : outcome r c ≡ judged fits r (rule_of r step)
  pub within : InTables c

-- what the entries of an accepted step are: written, they give its effect, and they are within the tables
abbrev Enters : Book → Step → Change → Type 0
Enters r step c = (written r c ≡ (rule_of r step).effect) × InTables c

module _ (r : Book) (at : ℕ) (within : at < 32) where
  -- the entries of the change that leaves the book as it is
  still : InBounds 0 0 0 at
  still = record { block = omega arith; message = omega arith; place = omega arith; office = within }

  -- a refused step
  refuses : (fits : Bool) (step : Step) (k : ℕ) → refusal fits (rule_of r step) ≡ k → eqb k 0 ≡ false
      → CarriesOut fits r step (refusing (same r at) k)
  unfolding judged choose written unchanged_of
  refuses fits step k is some =
      record {
        answer = rw (is, some) (λ i. record { book = writes_nothing r at i; refusal = k; value = 0 });
        within = still;
      }

  -- an accepted step, by its entries
  takes : (step : Step) (c : Change) → first (rule_of r step).tests ≡ 0 → Enters r step c
      → CarriesOut true r step (accepting c (rule_of r step).value)
  unfolding judged refusal first choose written
  takes step c none enters =
      record { answer = rw none (λ i. record { book = enters.0 i; refusal = 0; value = (rule_of r step).value }); within = enters.1 }

  module _ (c : CountedBook r) where
    -- the entry of a block that is named
    named_entry : (new : Header) → blocks_full r new ≡ false → (naming (same r at) (named r new) new).block.at < 256
    unfolding naming unchanged_of
    named_entry new full = by (leb (named r new) r.last.0)
      where
        by : (t : Bool) → (choose t (same r at).block (record { last = block (named r new); at = named r new; header = new })).at < 256
        by true = unfold choose unchanged_of in omega arith
        by false = unfold choose in omega (arith, named_room r new c.blocks full)

    -- the entries of each accepted step; the office that finalises is the acting one
    enters : (step : Step) → ((actor_of step).0 < 32 → at ≡ (actor_of step).0) → Accepted r step → Enters r step (entries_of (same r at) r step)
    unfolding entries_of rule_of unchanged_of naming actor_of
    enters (Step.Propose office parent w) own a =
        let new : Header = record { parent = parent; epoch = r.epoch; payload = w } in (
          writes_propose r at new office,
          record { block = named_entry new a.blocks; message = a.signs.room; place = a.signs.room; office = within },
        )
    enters (Step.Vote office message) own a = (
      writes_vote r at message.0 (about_of r message.0) office (λ e. omega (arith, a.message.sent)),
      record { block = omega arith; message = a.signs.room; place = omega (arith, a.message.sent, c.messages); office = within },
    )
    enters (Step.Register office message) own a = (
      writes_moved r at message.0 office.0 3,
      record { block = omega arith; message = omega arith; place = omega (arith, a.sent, c.messages); office = within },
    )
    enters (Step.Finalise office newest) own a =
        let is : at ≡ office.0 = own (omega (arith, trusted_below r office.0 a.trusted, c.offices)) in
        let new : ℕ → OfficeState = λ q. finalising (state_of r q) (parent_of r newest.0) in
        let wrote : written r (holding (same r at) (new at)) ≡ with_state r office.0 (new office.0) =
        writes_state r at (new at) ∙ ap (λ (q : ℕ). with_state r q (new q)) is in
        (wrote, still)
    enters (Step.Deliver message office) own a = (
      writes_moved r at message.0 office.0 2,
      record { block = omega arith; message = omega arith; place = omega (arith, a.sent, c.messages); office = within },
    )
    enters (Step.BadSend sender kind signer about) own a = (
      writes_sent r at sender.0 (record { kind = kind; signer = signer; about = about }),
      record { block = omega arith; message = a.room; place = a.room; office = within },
    )
    enters (Step.Draft parent epoch w) own a =
        let new : Header = record { parent = parent; epoch = epoch; payload = w } in (
          writes_named r at new,
          record { block = named_entry new a.blocks; message = omega arith; place = omega arith; office = within },
        )
    enters Step.Advance own a = (writes_epoch r at, still)

    -- a step of a fit book, by the first of its tests that holds
    carries_by : (step : Step) (k : ℕ) (t : Bool) → ((actor_of step).0 < 32 → at ≡ (actor_of step).0) → first (rule_of r step).tests ≡ k
        → eqb k 0 ≡ t
        → CarriesOut true r step (choose t (accepting (entries_of (same r at) r step) (rule_of r step).value) (refusing (same r at) k))
    unfolding choose refusal first
    carries_by step k true own is zero =
        let none : first (rule_of r step).tests ≡ 0 = is ∙ eqb-true k 0 zero in
        takes step _ none (enters step own (accepted r step none))
    carries_by step k false own is some = refuses true step k is some

  -- a step of any book
  pub carries : (fits : Bool) (step : Step)
      → (fits ≡ true → CountedBook r)
      → ((actor_of step).0 < 32 → at ≡ (actor_of step).0) → CarriesOut fits r step (change_of fits r at step)
  unfolding change_of change_by choose
  carries true step counts own = carries_by (counts refl) step _ _ own refl refl
  carries false step counts own = refuses false step 5 (unfold refusal first choose in refl) refl
