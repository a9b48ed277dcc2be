-- What the writer lays over a buffer, and what a call of it gives.
use Rattle.std.specs.Prelude.{ℕ, zero, suc, Result, Ok, Err, ◌+◌, ◌*◌, ◌-◌, ◌%◌, ◌^◌, ◌≤◌, ◌<◌, min, Bool, false, List, [], ◌∷◌, ◌++◌, eqb, ltb, leb, length, get_or, replicate}
use Rattle.refusals.specs.declared.Refusal.{Refusal}
use Rattle.refusals.specs.Numbers.{number_of}
use Rattle.quorum.specs.Opening.{opening_tests}
use Rattle.words.specs.Tests.{choose, either}
use Rattle.words.specs.Digits.{in_set}
use Rattle.words.specs.Refusals.{◌⇒◌, first}
use Rattle.register.specs.declared.step.Step.{Step}
use Rattle.packed_log.specs.declared.writing.Wrote.{Wrote}
use Rattle.packed_log.specs.Bits.{to_bits, put}
use Rattle.packed_log.specs.Rows.{Row, row_of}
use Rattle.packed_log.specs.Widths.{width}

-- a bit for each of n offices, office 0 first: whether it is in a set, as the trust word is one
unfoldable pub office_bits : (n set : ℕ) → List Bool
office_bits zero set = []
office_bits (suc n) set = office_bits n set ++ (in_set set n ∷ [])

-- the leaders of a schedule
unfoldable pub leader_bits : (schedule : List ℕ) → List Bool
leader_bits [] = []
leader_bits (q ∷ schedule) = to_bits 5 q ++ leader_bits schedule

-- the bits of an opening: n, the trust bits, the schedule's length, the leaders
unfoldable pub opening_bits : (n trust : ℕ) → (schedule : List ℕ) → List Bool
opening_bits n trust schedule = to_bits 6 n ++ office_bits n trust ++ to_bits 9 (length schedule) ++ leader_bits schedule

-- the bits of a row: its kind, and then its fields without gaps
unfoldable pub row_bits : Row → List Bool
row_bits r =
    to_bits 4 r.kind
    ++ to_bits (width r.kind 0) r.first
    ++ to_bits (width r.kind 1) r.second
    ++ to_bits (width r.kind 2) r.third
    ++ to_bits (width r.kind 3) r.fourth

-- the bits of a step
abbrev pub step_bits : Step → List Bool
step_bits s = row_bits (row_of s)

-- the bits of the end at position p: kind 0, and zero bits to the byte's end
unfoldable pub end_bits : (p : ℕ) → List Bool
end_bits p = to_bits 4 0 ++ replicate ((8 - (p + 4) % 8) % 8) false

-- some number of the row has no room in its column
unfoldable pub wide : Row → Bool
wide r =
    either (leb (2 ^ width r.kind 0) r.first)
    (either (leb (2 ^ width r.kind 1) r.second)
    (either (leb (2 ^ width r.kind 2) r.third)
    (leb (2 ^ width r.kind 3) r.fourth)))

-- how many bits the buffer has left from position p on; 0 at its end and past it. Positions are below 2^64, so that of a buffer of 2^61 bytes or
-- more, which no machine has, only the bits that have a position count.
abbrev pub room : (buffer : List ℕ) → (p : ℕ) → ℕ
room buffer p = 8 * min (length buffer) (2 ^ 61 - 1) - p

-- the refusal of so many bits from position p on: 31 where the buffer ends before they would
abbrev pub no_room : (buffer : List ℕ) → (p size : ℕ) → ℕ
no_room buffer p size = first ((ltb (room buffer p) size ⇒ 31) ∷ [])

-- the buffer ends before these bits would from position p on
abbrev pub short : (buffer : List ℕ) → (p : ℕ) → List Bool → Bool
short buffer p t = ltb (room buffer p) (length t)

-- so many bits from position p on are in the buffer, and the position behind them is below 2^64
abbrev pub HasRoom : (buffer : List ℕ) → (p size : ℕ) → Type 0
HasRoom buffer p size = (p + size ≤ 8 * length buffer) × (p + size < 2 ^ 64)

-- a schedule that an opening may have: at most 256 leaders, each with room in its 5 bits
pub record Led (schedule : List ℕ) : Type 0 where
  pub most : length schedule ≤ 256
  pub leader : (i : ℕ) → i < length schedule → get_or schedule i 0 < 32

-- the refusals of the writer, in their order
unfoldable pub opening_refused : (buffer : List ℕ) → (p n trust : ℕ) → (schedule : List ℕ) → ℕ
opening_refused buffer p n trust schedule =
    first (opening_tests n trust schedule ++ (short buffer p (opening_bits n trust schedule) ⇒ 31) ∷ [])

unfoldable pub row_refused : (buffer : List ℕ) → (p : ℕ) → Row → ℕ
row_refused buffer p r = first ((wide r ⇒ 9) ∷ (short buffer p (row_bits r) ⇒ 31) ∷ [])

abbrev pub step_refused : (buffer : List ℕ) → (p : ℕ) → Step → ℕ
step_refused buffer p s = row_refused buffer p (row_of s)

unfoldable pub end_refused : (buffer : List ℕ) → (p : ℕ) → ℕ
end_refused buffer p = first ((short buffer p (end_bits p) ⇒ 31) ∷ [])

-- what a call that was to lay these bits at position p gives: 0 or the refusal, and the next position, which is the given one if refused
unfoldable pub wrote : (refusal p : ℕ) → List Bool → Wrote
wrote refusal p t = record { refusal = refusal; next = choose (eqb refusal 0) (p + length t) p }

-- the same, told from the next position or the refusal
abbrev pub wrote_by : Result ℕ Refusal → (p : ℕ) → Wrote
wrote_by (Ok next) p = record { refusal = 0; next = next }
wrote_by (Err refusal) p = record { refusal = number_of refusal; next = p }

-- the buffer after that call: a refusal changes no bit
unfoldable pub laid : (buffer : List ℕ) → (refusal p : ℕ) → List Bool → List ℕ
laid buffer refusal p t = choose (eqb refusal 0) (put buffer p t) buffer
