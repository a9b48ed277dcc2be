-- What is claimed of whole logs.
use Rattle.std.specs.Prelude.{ℕ, ◌*◌, ◌≤◌, ◌≡◌, List, ◌++◌, length, drop}
use Rattle.packed_log.specs.Bits.{Bytes}
use Rattle.packed_log.specs.Logs.{Case, packed, Packable, Reads, after_calls}

-- what is packed reads back as the same opening and steps
unfoldable pub ReadsBack : Type 0
ReadsBack = (c : Case) → Packable c → Reads (packed c) c

-- a log that reads as an opening with steps is its packed form, byte for byte
unfoldable pub OneForm : Type 0
OneForm = (log : List ℕ) → Bytes log → (c : Case) → Reads log c → log ≡ packed c

-- the calls of the writer for an opening, its steps and the end write the packed form, leave the bytes behind it and give its last position
unfoldable pub CallsPack : Type 0
CallsPack = (buffer : List ℕ) → Bytes buffer → (c : Case) → Packable c → length (packed c) ≤ length buffer
    → after_calls buffer c ≡ record { buffer = packed c ++ drop (length (packed c)) buffer; at = 8 * length (packed c) }
