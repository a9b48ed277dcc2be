-- What a change writes to the book is the effect of the step.
use Prim.Native.Nat.{ℕ, ◌+◌}
use mathlib.Core.Path.{◌≡◌, refl, ap, ◌∙◌, subst⁻¹}
use mathlib.Core.Bool.{Bool, true, false}
use mathlib.Core.List.{List}
use lib.Dec.{leb}
use lib.ListN.{get_or, set}
use lib.Seq.{set-get_or, set-set, set_comm}
use Rattle.words.specs.Tests.{choose}
use Rattle.register.specs.Types.{Office, Kind, Header, Content, OfficeState, Book, BlockEntry, Change}
use Rattle.register.specs.Books.{Blocks, Messages, block, epoch, blocks_of, messages_of, changed}
use Rattle.register.specs.Tables.{state_of, named}
use Rattle.register.specs.Effects.{with_block, with_named, sent_stage, sent_place, with_sent, with_moved, with_acted, with_state, with_next_epoch}
use Rattle.register.specs.Changes.{unchanged_of, change, timing, acting, naming, sending, moving, holding, moved_place}
use Rattle.register.specs.Written.{blocks_after, messages_after, written}
use Rattle.register.proofs.Typing.{vote_kind}
use Rattle.register.proofs.Naming.{next_block}

-- a change, by what it makes of each table
by_tables : (r : Book) (c : Change) {B : Blocks} {M : Messages} {O : List OfficeState}
    → blocks_after r c ≡ B → messages_after r c ≡ M → set r.offices c.office.at c.office.state ≡ O
    → written r c ≡ changed r c.clock.epoch c.clock.acted B M O
unfolding written
by_tables r c b m o = λ i. changed r c.clock.epoch c.clock.acted (b i) (m i) (o i)

-- a table of messages with other words of places
abbrev placed : Messages → (places : List ℕ) → Messages
placed t places = record { count = t.count; votes = t.votes; signers = t.signers; about = t.about; places = places }

-- an entry that a column has already changes nothing
kept : {A : Type 0} (l : List A) (d : A) → set l 0 (get_or l 0 d) ≡ l
kept l d = set-get_or l 0 d

module _ (r : Book) (at : ℕ) where
  -- the change that leaves the book as it is
  abbrev pub same : Change
  same = unchanged_of r at (state_of r at)

  -- it leaves each table as it is
  kept_blocks : blocks_after r same ≡ blocks_of r
  unfolding unchanged_of
  kept_blocks = λ i. record { last = r.last; parents = kept r.parents 0 i; epochs = kept r.epochs 0 i; payloads = kept r.payloads 0 i }

  kept_office : set r.offices at (state_of r at) ≡ r.offices
  kept_office = set-get_or r.offices at _

  -- and the table of messages but for one word of places that is set
  kept_messages : (m w : ℕ) → messages_after r (moving same m w) ≡ placed (messages_of r) (set r.places m w)
  unfolding unchanged_of
  kept_messages m w =
      λ i.
      record {
        count = r.count;
        votes = (ap (set r.votes 0) (vote_kind _) ∙ kept r.votes false) i;
        signers = kept r.signers 0 i;
        about = kept r.about 0 i;
        places = set (kept r.places 0 i) m w;
      }

  kept_all : messages_after r same ≡ messages_of r
  unfolding unchanged_of
  kept_all = kept_messages 0 (get_or r.places 0 0) ∙ ap (placed (messages_of r)) (kept r.places 0)

  -- a refused step
  pub writes_nothing : written r same ≡ r
  unfolding unchanged_of
  writes_nothing = by_tables r same kept_blocks kept_all kept_office

  -- register and deliver
  pub writes_moved : (m q stage : ℕ) → written r (moving same m (moved_place r m q stage)) ≡ with_moved r m q stage
  unfolding unchanged_of with_moved
  writes_moved m q stage =
      by_tables r (moving same m (moved_place r m q stage)) kept_blocks (kept_messages m (moved_place r m q stage)) kept_office

  -- finalise
  pub writes_state : (new : OfficeState) → written r (holding same new) ≡ with_state r at new
  unfolding unchanged_of with_state
  writes_state new = by_tables r (holding same new) kept_blocks kept_all refl

  -- advance
  pub writes_epoch : written r (timing same (record { epoch = epoch (r.epoch.0 + 1); acted = 0 })) ≡ with_next_epoch r
  unfolding unchanged_of with_next_epoch
  writes_epoch = by_tables r (timing same (record { epoch = epoch (r.epoch.0 + 1); acted = 0 })) kept_blocks kept_all kept_office

  -- bad send: the word of the message's places is set twice
  pub writes_sent : (actor : ℕ) (new : Content)
      → written r (sending same r.count new.kind new.signer new.about (sent_place r actor)) ≡ with_sent r actor new
  unfolding unchanged_of with_sent
  writes_sent actor new =
      let w : ℕ = sent_place r actor in
      let c : Change = sending same r.count new.kind new.signer new.about w in
      by_tables r c kept_blocks (ap (placed (messages_after r c)) (set-set r.places r.count w w)) kept_office

  -- vote: the proposal comes into the view, and a vote for its block is sent
  pub writes_vote : (m b : ℕ) (office : Office) → (r.count ≡ m → ⊥)
      → written r
      (acting (moving (sending same r.count Kind.Vote office (block b) (sent_place r office.0)) m (moved_place r m office.0 3)) office.0)
      ≡ with_acted (with_sent (with_moved r m office.0 3) office.0 (record { kind = Kind.Vote; signer = office; about = block b })) office.0
  unfolding unchanged_of with_acted with_sent with_moved sent_stage
  writes_vote m b office other =
      let w : ℕ = sent_place r office.0 in
      let moved : ℕ = moved_place r m office.0 3 in
      let c : Change = acting (moving (sending same r.count Kind.Vote office (block b) w) m moved) office.0 in
      by_tables r c kept_blocks (ap (placed (messages_after r c)) (set_comm r.places r.count m w moved other)) kept_office

  module _ (new : Header) where
    -- the change that names a block, by the test whether it is there already
    entry : Bool → ℕ → BlockEntry
    entry there b = choose there same.block (record { last = block b; at = b; header = new })

    called : Bool → ℕ → Change
    called there b = change same.clock (entry there b) same.message same.place same.office same.answer

    writes_called : (there : Bool) (b : ℕ) → (there ≡ false → b ≡ r.last.0 + 1)
        → written r (called there b) ≡ choose there r (with_block r new)
    unfolding called entry unchanged_of choose with_block
    writes_called true b next = writes_nothing
    writes_called false b next =
        subst⁻¹ (λ (x : ℕ). written r (called false x) ≡ with_block r new) (next refl)
        (by_tables r (called false (r.last.0 + 1)) refl kept_all kept_office)

    -- draft
    pub writes_named : written r (naming same (named r new) new) ≡ with_named r new
    unfolding naming with_named called entry unchanged_of
    writes_named = writes_called (leb (named r new) r.last.0) (named r new) (next_block r new)

    -- the proposal of a block that is named so
    proposed : (office : Office) → Bool → ℕ → Change
    proposed office there b =
        acting (sending (called there b) r.count Kind.Proposal office (block b) (sent_place r office.0)) office.0

    -- what it writes, by the same test
    writes_proposed : (office : Office) (there : Bool) (b : ℕ) → (there ≡ false → b ≡ r.last.0 + 1)
        → written r (proposed office there b)
        ≡ with_acted
        (with_sent (choose there r (with_block r new)) office.0 (record { kind = Kind.Proposal; signer = office; about = block b })) office.0
    unfolding proposed called entry unchanged_of choose with_acted with_sent with_block sent_stage
    writes_proposed office true b next =
        let w : ℕ = sent_place r office.0 in
        let c : Change = proposed office true b in
        by_tables r c kept_blocks (ap (placed (messages_after r c)) (set-set r.places r.count w w)) kept_office
    writes_proposed office false b next =
        let w : ℕ = sent_place r office.0 in
        let c : Change = proposed office false (r.last.0 + 1) in
        subst⁻¹
        (λ (x : ℕ).
        written r (proposed office false x)
        ≡ with_acted (with_sent (with_block r new) office.0 (record { kind = Kind.Proposal; signer = office; about = block x })) office.0)
        (next refl) (by_tables r c refl (ap (placed (messages_after r c)) (set-set r.places r.count w w)) kept_office)

    -- propose
    pub writes_propose : (office : Office)
        → written r
        (acting
        (sending (naming same (named r new) new) r.count Kind.Proposal office (block (named r new)) (sent_place r office.0)) office.0)
        ≡ with_acted
        (with_sent (with_named r new) office.0 (record { kind = Kind.Proposal; signer = office; about = block (named r new) })) office.0
    unfolding naming with_named proposed called entry unchanged_of
    writes_propose office = writes_proposed office (leb (named r new) r.last.0) (named r new) (next_block r new)
