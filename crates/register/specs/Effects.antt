-- What the steps change. Each definition changes the fields that it is named for and no other.
use Rattle.std.specs.Prelude.{ℕ, ◌+◌, eqb, leb, get_or, set}
use Rattle.words.specs.Tests.{choose}
use Rattle.words.specs.Digits.{fill, with_member, with_stage}
use Rattle.tables.specs.Messages.{absent, transit, view}
use Rattle.register.specs.Types.{Header, Content, OfficeState, Book}
use Rattle.register.specs.Books.{epoch, block, is_vote, blocks_of, messages_of, changed}
use Rattle.register.specs.Tables.{trusted, named}

-- the next block is made so
unfoldable pub with_block : Book → Header → Book
with_block r new =
    let b : ℕ = r.last.0 + 1 in
    changed r r.epoch r.acted
    (record {
      last = block b;
      parents = set r.parents b new.parent.0;
      epochs = set r.epochs b new.epoch.0;
      payloads = set r.payloads b new.payload;
    })
    (messages_of r) r.offices

-- a block of that parent, epoch and payload is named, and made where there is none
unfoldable pub with_named : Book → Header → Book
with_named r new = choose (leb (named r new) r.last.0) r (with_block r new)

-- the stage in which a message that an office sends starts for office q: in transit to every trusted office but the one that acted,
-- which has it in its view if it is trusted
unfoldable pub sent_stage : Book → (actor : ℕ) → (q : ℕ) → ℕ
sent_stage r actor q = choose (trusted r q) (choose (eqb q actor) view transit) absent

-- the word of the places of a message that an office sends
abbrev pub sent_place : Book → (actor : ℕ) → ℕ
sent_place r actor = fill 4 r.n (sent_stage r actor)

-- an office sends a message: it gets the next number
unfoldable pub with_sent : Book → (actor : ℕ) → Content → Book
with_sent r actor new =
    let m : ℕ = r.count in
    changed r r.epoch r.acted (blocks_of r)
    (record {
      count = m + 1;
      votes = set r.votes m (is_vote new.kind);
      signers = set r.signers m new.signer.0;
      about = set r.about m new.about.0;
      places = set r.places m (sent_place r actor);
    })
    r.offices

-- message m comes to a stage for office q
unfoldable pub with_moved : Book → (m q : ℕ) → (stage : ℕ) → Book
with_moved r m q stage =
    changed r r.epoch r.acted (blocks_of r)
    (record {
      count = r.count;
      votes = r.votes;
      signers = r.signers;
      about = r.about;
      places = set r.places m (with_stage (get_or r.places m 0) q stage);
    })
    r.offices

-- office q has acted
unfoldable pub with_acted : Book → (q : ℕ) → Book
with_acted r q = changed r r.epoch (with_member r.acted q) (blocks_of r) (messages_of r) r.offices

-- what office q holds becomes that state
unfoldable pub with_state : Book → (q : ℕ) → OfficeState → Book
with_state r q state = changed r r.epoch r.acted (blocks_of r) (messages_of r) (set r.offices q state)

-- a state whose final block is b
abbrev pub finalising : OfficeState → (b : ℕ) → OfficeState
finalising state b = record { finalised = block b }

-- the next epoch, in which every office is ready
unfoldable pub with_next_epoch : Book → Book
with_next_epoch r = changed r (epoch (r.epoch.0 + 1)) 0 (blocks_of r) (messages_of r) r.offices
