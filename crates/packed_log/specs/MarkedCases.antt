-- The cases that the paper marks P, in a single list.
use Rattle.std.specs.Prelude.{ℕ, ◌-◌, ◌^◌, ◌≡◌, Bool, true, false, List, [], ◌∷◌}
use Rattle.quorum.specs.Enough.{enough}
use Rattle.quorum.specs.Opening.{opening_refusal}
use Rattle.packed_log.specs.Logs.{Case, packed}

pub data Marked : Type 0 where
  -- a block with so many signers of n offices is notarised, or is not
  signed : (signers n : ℕ) → (notarised : Bool) → Marked
  -- an opening with so many untrusted of n offices gets this number, 0 where it opens
  mistrusted : (untrusted n refusal : ℕ) → Marked
  -- an opening with steps has these bytes as its packed form
  packs : Case → (log : List ℕ) → Marked

-- what a case says. The untrusted offices are those with the lowest numbers, and office 0 leads the one epoch.
unfoldable pub Says : Marked → Type 0
Says (signed signers n notarised) = enough signers n ≡ notarised
Says (mistrusted untrusted n refusal) = opening_refusal n (2 ^ n - 2 ^ untrusted) (0 ∷ []) ≡ refusal
Says (packs c log) = packed c ≡ log

-- each case of a list holds
unfoldable pub AllHold : List Marked → Type 0
AllHold [] = record {}
AllHold (m ∷ ms) = Says m × AllHold ms

-- the list
unfoldable pub marked : List Marked
marked =
    signed 1 1 true
    ∷ signed 1 3 false
    ∷ signed 2 3 true
    ∷ signed 2 4 false
    ∷ signed 3 4 true
    ∷ signed 21 32 false
    ∷ signed 22 32 true
    ∷ mistrusted 1 3 4
    ∷ mistrusted 1 4 0
    ∷ mistrusted 10 32 0
    ∷ mistrusted 11 32 4
    -- three offices, all trusted, leaders 0 0 0, no steps: 0F 80 C0 00 00
    ∷ packs (record { n = 3; trust = 7; schedule = 0 ∷ 0 ∷ 0 ∷ []; steps = [] }) (15 ∷ 128 ∷ 192 ∷ 0 ∷ 0 ∷ [])
    ∷ []
