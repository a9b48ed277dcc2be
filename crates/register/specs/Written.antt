-- What a change writes to a book. Only contracts inside this crate cite these definitions.
use Rattle.std.specs.Prelude.{ℕ, ◌<◌, set}
use Rattle.register.specs.Types.{Book, Change}
use Rattle.register.specs.Limits.{most_offices, block_entries, most_messages}
use Rattle.register.specs.Books.{is_vote, Blocks, Messages, changed}

-- every entry of a change is within its table
pub record InBounds (b m p q : ℕ) : Type 0 where
  pub block : b < block_entries
  pub message : m < most_messages
  pub place : p < most_messages
  pub office : q < most_offices

abbrev pub InTables : Change → Type 0
InTables c = InBounds c.block.at c.message.at c.place.at c.office.at

-- the tables of blocks and of messages with a change's entries in them, and the book with a change written to it
abbrev pub blocks_after : Book → Change → Blocks
blocks_after r c =
    record {
      last = c.block.last;
      parents = set r.parents c.block.at c.block.header.parent.0;
      epochs = set r.epochs c.block.at c.block.header.epoch.0;
      payloads = set r.payloads c.block.at c.block.header.payload;
    }

abbrev pub messages_after : Book → Change → Messages
messages_after r c =
    record {
      count = c.message.count;
      votes = set r.votes c.message.at (is_vote c.message.kind);
      signers = set r.signers c.message.at c.message.signer.0;
      about = set r.about c.message.at c.message.about.0;
      places = set (set r.places c.message.at c.message.place) c.place.at c.place.place;
    }

unfoldable pub written : Book → Change → Book
written r c =
    changed r c.clock.epoch c.clock.acted (blocks_after r c) (messages_after r c) (set r.offices c.office.at c.office.state)
