-- The limits that document 01 sets. Each is named here once, and once in src/limits.rt.
use Rattle.std.specs.Prelude.{ℕ}

-- n is from 1 to 32
abbrev pub most_offices : ℕ
most_offices = 32

-- a schedule has 1 to 256 entries
abbrev pub most_epochs : ℕ
most_epochs = 256

-- blocks 1 to 255 are made
abbrev pub most_blocks : ℕ
most_blocks = 255

-- the table of blocks has an entry for each of them, and one for genesis
abbrev pub block_entries : ℕ
block_entries = 256

-- messages 0 to 1,023 are sent
abbrev pub most_messages : ℕ
most_messages = 1024

-- a block's epoch is from 0 to 511
abbrev pub widest_epoch : ℕ
widest_epoch = 511

-- so many steps make a batch
abbrev pub batch : ℕ
batch = 256
