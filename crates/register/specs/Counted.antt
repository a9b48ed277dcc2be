-- What a function inside the crate asks of the register that it is lent, so that no index leaves a table: the single numbers are in their ranges.
use Rattle.std.specs.Prelude.{ℕ, ◌≤◌}
use Rattle.register.specs.Types.{Register, Book}
use Rattle.register.specs.Limits.{most_offices, most_epochs, most_blocks, most_messages}

-- numbers of offices and epochs, the current epoch, the last block and the number of messages that are in their ranges
pub record InRanges (n scheduled epoch last count : ℕ) : Type 0 where
  pub some : 1 ≤ n
  pub offices : n ≤ most_offices
  pub schedule : scheduled ≤ most_epochs
  pub first : 1 ≤ epoch
  pub current : epoch ≤ scheduled
  pub blocks : last ≤ most_blocks
  pub messages : count ≤ most_messages

-- those of a register, and of a book
abbrev pub Counted : Register → Type 0
Counted r = InRanges r.n r.scheduled r.epoch.0 r.blocks.last.0 r.messages.count

abbrev pub CountedBook : Book → Type 0
CountedBook b = InRanges b.n b.scheduled b.epoch.0 b.last.0 b.count
