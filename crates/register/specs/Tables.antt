-- Offices, blocks and messages as the book holds them. Inside the rules a number is an ℕ; a rule's own parameters are of the four sorts. A
-- definition that ends in `_in` speaks of columns and stands in the specs of `tables`; here it is said of a book.
use Rattle.std.specs.Prelude.{ℕ, ◌-◌, Bool, false, List, ltb, leb, get_or}
use Rattle.words.specs.Tests.{choose, both, between}
use Rattle.words.specs.Digits.{in_set}
use Rattle.tables.specs.Blocks.{trusted_in, made_in, parent_in, epoch_in, named_in}
use Rattle.register.specs.Types.{Office, Kind, Header, Content, OfficeState, Book}
use Rattle.register.specs.Limits.{most_epochs, most_messages}
use Rattle.register.specs.Books.{office, epoch, block, kind_of}

-- the office is there, and its bit in the trust word is 1
abbrev pub trusted : Book → ℕ → Bool
trusted r q = trusted_in r.n r.trust q

-- the office's bit in the word of those that have acted is 1
abbrev pub acted : Book → ℕ → Bool
acted r q = in_set r.acted q

-- the leader of an epoch
abbrev pub leader_of : Book → ℕ → ℕ
leader_of r e = get_or r.leaders (e - 1) 0

-- an epoch of a schedule of that length, of which there are at most 256
abbrev pub scheduled_in : (scheduled : ℕ) → ℕ → Bool
scheduled_in scheduled e = both (between 1 scheduled e) (leb e most_epochs)

-- the leader that is told of an epoch; office 0 for one that is not in the schedule
unfoldable pub leader_for : Book → ℕ → Office
leader_for r e = office (choose (scheduled_in r.scheduled e) (leader_of r e) 0)

-- what an office holds
abbrev pub state_in : List OfficeState → ℕ → OfficeState
state_in offices q = get_or offices q (record { finalised = block 0 })

abbrev pub state_of : Book → ℕ → OfficeState
state_of r q = state_in r.offices q

-- an office's final block
abbrev pub final_of : Book → ℕ → ℕ
final_of r q = (state_of r q).finalised.0

-- the final block of a trusted office; genesis for a number that is none
abbrev pub final_for : Book → ℕ → ℕ
final_for r q = choose (trusted r q) (final_of r q) 0

-- what a block is made of
abbrev pub header_of : Book → ℕ → Header
header_of r b =
    record { parent = block (get_or r.parents b 0); epoch = epoch (get_or r.epochs b 0); payload = get_or r.payloads b 0 }

-- a block from 1 up to the last
abbrev pub made : Book → ℕ → Bool
made r b = made_in r.last.0 b

-- a block's parent; genesis where the block has none, or where its entry names no smaller block
abbrev pub parent_of : Book → ℕ → ℕ
parent_of r b = parent_in r.parents r.last.0 b

-- a block's epoch; genesis has epoch 0
abbrev pub epoch_of : Book → ℕ → ℕ
epoch_of r b = epoch_in r.epochs r.last.0 b

-- what is told of a block: its parent, its epoch and its payload; zeros of genesis, and of a number above the last block's
unfoldable pub header_for : Book → ℕ → Header
header_for r b =
    record {
      parent = block (parent_of r b);
      epoch = epoch (epoch_of r b);
      payload = choose (made r b) (get_or r.payloads b 0) 0;
    }

-- the lowest block from 1 up that has that parent, epoch and payload; the next number where there is none
abbrev pub named : Book → Header → ℕ
named r h = named_in r.parents r.epochs r.payloads r.last.0 h.parent.0 h.epoch.0 h.payload

-- what message m says: its kind, its signer and its block
abbrev pub content_of : Book → ℕ → Content
content_of r m =
    record {
      kind = kind_of (get_or r.votes m false);
      signer = office (get_or r.signers m 0);
      about = block (get_or r.about m 0);
    }

-- a message of so many that were sent, of which there are at most 1,024
abbrev pub sent_in : (count : ℕ) → ℕ → Bool
sent_in count m = both (ltb m count) (ltb m most_messages)

-- what is told of message m; of a number that was not sent, a proposal of office 0 about genesis, as none of a fit book is
unfoldable pub content_for : Book → ℕ → Content
content_for r m =
    choose (sent_in r.count m) (content_of r m) (record { kind = Kind.Proposal; signer = office 0; about = block 0 })

abbrev pub signer_of : Book → ℕ → ℕ
signer_of r m = get_or r.signers m 0

abbrev pub about_of : Book → ℕ → ℕ
about_of r m = get_or r.about m 0
