-- A register is typed: its columns are of the four sorts and of kinds. The rules read its book, which has the same fields in plain numbers and flags; a
-- book's effect is turned back into a register. A register is the register of its book, and a book the book of its register (proofs/Typing.antt).
use Rattle.std.specs.Prelude.{ℕ, Bool, true, false, List, map}
pub use Rattle.tables.specs.Columns.{office_number, epoch_number, block_number}
unfoldable pub use Rattle.tables.specs.Columns.{is_vote}
use Rattle.tables.specs.Columns.{parents_of, epochs_of, votes_of, signers_of, about_of}
use Rattle.register.specs.Types.{Office, Epoch, Block, Kind, OfficeState, Register, Book}

-- a number as one of the sorts
abbrev pub office : ℕ → Office
office q = record { 0 = q }

abbrev pub epoch : ℕ → Epoch
epoch e = record { 0 = e }

abbrev pub block : ℕ → Block
block b = record { 0 = b }

-- a message is a vote or a proposal
unfoldable pub kind_of : (vote : Bool) → Kind
kind_of true = Kind.Vote
kind_of false = Kind.Proposal

-- the book of a register
unfoldable pub book_of : Register → Book
book_of r =
    record {
      n = r.n;
      trust = r.trust;
      scheduled = r.scheduled;
      leaders = map office_number r.leaders;
      epoch = r.epoch;
      last = r.blocks.last;
      parents = parents_of r.blocks;
      epochs = epochs_of r.blocks;
      payloads = r.blocks.payloads;
      count = r.messages.count;
      votes = votes_of r.messages;
      signers = signers_of r.messages;
      about = about_of r.messages;
      places = r.messages.places;
      acted = r.acted;
      offices = r.offices;
    }

-- the register of a book
unfoldable pub register_of : Book → Register
register_of b =
    record {
      n = b.n;
      trust = b.trust;
      scheduled = b.scheduled;
      leaders = map office b.leaders;
      epoch = b.epoch;
      blocks = record { last = b.last; parents = map block b.parents; epochs = map epoch b.epochs; payloads = b.payloads };
      messages =
          record {
            count = b.count;
            kinds = map kind_of b.votes;
            signers = map office b.signers;
            about = map block b.about;
            places = b.places;
          };
      acted = b.acted;
      offices = b.offices;
    }

-- the table of blocks: the last block, and each block's parent, epoch and payload
pub record Blocks : Type 0 where
  pub last : Block
  pub parents : List ℕ
  pub epochs : List ℕ
  pub payloads : List ℕ

abbrev pub blocks_of : Book → Blocks
blocks_of b = record { last = b.last; parents = b.parents; epochs = b.epochs; payloads = b.payloads }

-- the table of messages: how many there are, and of each whether it is a vote, its signer, the block that it is about and the word of its places
pub record Messages : Type 0 where
  pub count : ℕ
  pub votes : List Bool
  pub signers : List ℕ
  pub about : List ℕ
  pub places : List ℕ

abbrev pub messages_of : Book → Messages
messages_of b = record { count = b.count; votes = b.votes; signers = b.signers; about = b.about; places = b.places }

-- The builder of a changed book: what is given is new, and what no step changes stays. Every effect goes through it, and so does the code's writing.
abbrev pub changed : Book → Epoch → (acted : ℕ) → Blocks → Messages → List OfficeState → Book
changed b e acted blocks messages offices =
    record {
      n = b.n;
      trust = b.trust;
      scheduled = b.scheduled;
      leaders = b.leaders;
      epoch = e;
      last = blocks.last;
      parents = blocks.parents;
      epochs = blocks.epochs;
      payloads = blocks.payloads;
      count = messages.count;
      votes = messages.votes;
      signers = messages.signers;
      about = messages.about;
      places = messages.places;
      acted = acted;
      offices = offices;
    }
