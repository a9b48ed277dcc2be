-- Rows that stand at a position of a log: the fields that are read from them, and back.
use Prim.Native.Nat.{ℕ, ◌+◌, ◌*◌, ◌^◌, ◌≤◌, ◌<◌}
use mathlib.Core.Path.{◌≡◌, refl, ap}
use mathlib.Core.{Bool.Bool, List.List, List.◌++◌}
use native.Mathlib.Omega.{arith}
use lib.ListN.{length, take, drop, length-take, length-drop, take-append-drop}
use lib.Seq.{take_at, drop_at, drop-drop}
use Rattle.packed_log.specs.Bits.{to_bits, num, bits, field}
use Rattle.packed_log.specs.Items.{left}
use Rattle.packed_log.proofs.BitRows.{length_to_bits, num_to_bits, to_bits_num}
use Rattle.packed_log.proofs.BitsLaws.{length_bits}

-- from position p on, the log's row is r
abbrev pub Stands : (log : List ℕ) → (p : ℕ) → List Bool → Type 0
Stands log p r = drop p (bits log) ≡ r

-- where a row stands up to the log's end, its bits are those that are left
pub left_stands : (log : List ℕ) (p : ℕ) (r : List Bool) → Stands log p r → left log p ≡ length r
left_stands log p r h = simp (length-drop, length_bits) at (ap length h)

module _ (log : List ℕ) (p : ℕ) (t u : List Bool) (stands : Stands log p (t ++ u)) where
  -- the number of a row is read where the row stands
  field_stands : field log p (length t) ≡ num t
  unfolding field
  field_stands = rw (stands, take_at t u (length t) refl)

  -- what stands behind a row
  pub stands_behind : Stands log (p + length t) u
  stands_behind = rw (← drop-drop (length t) p (bits log), stands, drop_at t u (length t) refl)

-- where the bits of a number stand, which has room in them, it is read, and what is behind them stands behind
pub record Value (log : List ℕ) (p w v : ℕ) (u : List Bool) : Type 0 where
  pub value : field log p w ≡ v
  pub behind : Stands log (p + w) u

pub value_read : (log : List ℕ) (p w v : ℕ) (u : List Bool) → v < 2 ^ w → Stands log p (to_bits w v ++ u) → Value log p w v u
value_read log p w v u room stands =
    record {
      value = rw (length_to_bits, num_to_bits w v room) at (field_stands log p (to_bits w v) u stands);
      behind = rw length_to_bits at (stands_behind log p (to_bits w v) u stands);
    }

-- where the log has w bits from position p on, those of the field stand there
pub stands_field : (log : List ℕ) (p w : ℕ) → p + w ≤ 8 * length log → Stands log p (to_bits w (field log p w) ++ drop (p + w) (bits log))
unfolding field
stands_field log p w room =
    let part : List Bool = take w (drop p (bits log)) in
    let long : length part ≡ w = simp (length-take, length-drop, length_bits) (omega arith) in
    let same : to_bits w (num part) ≡ part = rw long at (to_bits_num part) in
    rw (same, ← drop-drop w p (bits log), take-append-drop w (drop p (bits log)))
