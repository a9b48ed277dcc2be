-- What whoever hands slips on may rely on.
use Rattle.std.specs.Prelude.{ℕ, ◌≡◌, List, take}
use Rattle.register.specs.Types.{Office, Block}
use Rattle.register.specs.declared.table.Register.{Register}
use Rattle.register.specs.Books.{block, book_of}
use Rattle.register.specs.Tables.{parent_of}
use Rattle.slip.specs.Checking.{checked}
use Rattle.slip.specs.Writing.{written, buffer_after}

-- Every slip that is written is accepted by the register that it was written from, and the answer is the parent of the block that it is about. The slip
-- is the first bytes of the buffer, as many as the writer says.
unfoldable pub SlipsAccepted : Type 0
SlipsAccepted =
    (r : Register) (office : Office) (b : Block) (buffer : List ℕ) → (written (book_of r) office.0 b.0 buffer).refusal ≡ 0
    → checked (book_of r) (take (written (book_of r) office.0 b.0 buffer).length (buffer_after (book_of r) office.0 b.0 buffer))
    ≡ record { refusal = 0; block = block (parent_of (book_of r) b.0) }
