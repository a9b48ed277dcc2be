-- What the C calls about slips answer, and what they leave in the buffer. Both run the log and then look at the register behind its last step.
use Rattle.std.specs.Prelude.{ℕ, ◌+◌, ◌*◌, List, eqb}
use Rattle.words.specs.Tests.{choose}
use Rattle.register.specs.Books.{book_of}
use Rattle.replay.specs.declared.ending.Ended.{Ended}
use Rattle.replay.specs.Endings.{end_of}
use Rattle.slip.specs.declared.checking.Checked.{Checked}
use Rattle.slip.specs.declared.writing.Written.{Written}
use Rattle.slip.specs.Checking.{checked}
use Rattle.slip.specs.Writing.{written, buffer_after}

-- a refusal and a value in one number of 32 bits: the value in the lower 16
abbrev pub answer_of : (refusal value : ℕ) → ℕ
answer_of refusal value = value + 65536 * refusal

-- what checking a slip and what writing one tell, so
unfoldable pub tells_checked : Checked → ℕ
tells_checked c = answer_of c.refusal c.block.0

unfoldable pub tells_written : Written → ℕ
tells_written w = answer_of w.refusal w.length

-- the answer about a slip: the block that it proves final, or its refusal; and of a log that does not read, the log's own refusal
unfoldable pub slip_checked : (log slip : List ℕ) → ℕ
slip_checked log slip =
    let end : Ended = end_of log in
    choose (eqb end.refusal 0) (tells_checked (checked (book_of end.register) slip)) (answer_of end.refusal 0)

-- the answer to writing one about that block, from that office's view: its length in bytes, or the refusal; and of a log that does not read, the log's own
unfoldable pub slip_written : (log : List ℕ) → (office block : ℕ) → (buffer : List ℕ) → ℕ
slip_written log office block buffer =
    let end : Ended = end_of log in
    choose (eqb end.refusal 0) (tells_written (written (book_of end.register) office block buffer)) (answer_of end.refusal 0)

-- the buffer after it: the slip stands in front, and later bytes stay. A refusal, of the log too, changes no byte.
unfoldable pub slip_after : (log : List ℕ) → (office block : ℕ) → (buffer : List ℕ) → List ℕ
slip_after log office block buffer =
    let end : Ended = end_of log in
    choose (eqb end.refusal 0) (buffer_after (book_of end.register) office block buffer) buffer
