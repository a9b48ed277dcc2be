-- Opening a register.
use Rattle.std.specs.Prelude.{ℕ, ◌-◌, false, List, ◌++◌, eqb, length, replicate}
use Rattle.words.specs.Tests.{choose}
use Rattle.words.specs.Digits.{digit, fill}
use Rattle.quorum.specs.Opening.{opening_refusal}
use Rattle.register.specs.Types.{Register, Opened, Book}
use Rattle.register.specs.Limits.{most_offices, most_epochs, block_entries, most_messages}
use Rattle.register.specs.Books.{epoch, block, register_of}

-- the table of leaders: the schedule, and office 0 from its end up to entry 255
unfoldable pub leader_table : List ℕ → List ℕ
leader_table schedule = schedule ++ replicate (most_epochs - length schedule) 0

-- a book of epoch e with no blocks but genesis and no messages, in which all are ready and all final blocks are 0
unfoldable pub blank : (n trust scheduled e : ℕ) → (leaders : List ℕ) → Book
blank n trust scheduled e leaders =
    record {
      n = n;
      trust = trust;
      scheduled = scheduled;
      leaders = leaders;
      epoch = epoch e;
      last = block 0;
      parents = replicate block_entries 0;
      epochs = replicate block_entries 0;
      payloads = replicate block_entries 0;
      count = 0;
      votes = replicate most_messages false;
      signers = replicate most_messages 0;
      about = replicate most_messages 0;
      places = replicate most_messages 0;
      acted = 0;
      offices = replicate most_offices (record { finalised = block 0 });
    }

-- the register of a refused opening: n = 0, and every other field 0, empty or ready
unfoldable pub closed : Register
closed = register_of (blank 0 0 0 0 (replicate most_epochs 0))

-- the fresh book. Bits of the trust word from n up are stored as 0.
unfoldable pub fresh_book : (n trust : ℕ) → (schedule : List ℕ) → Book
fresh_book n trust schedule = blank n (fill 2 n (digit 2 trust)) (length schedule) 1 (leader_table schedule)

unfoldable pub fresh : (n trust : ℕ) → (schedule : List ℕ) → Register
fresh n trust schedule = register_of (fresh_book n trust schedule)

-- what opening gives
unfoldable pub opening : (n trust : ℕ) → (schedule : List ℕ) → Opened
opening n trust schedule =
    record {
      register = choose (eqb (opening_refusal n trust schedule) 0) (fresh n trust schedule) closed;
      refusal = opening_refusal n trust schedule;
    }
