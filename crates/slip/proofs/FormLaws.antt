-- The form of a slip: the block that it names, and its length and pad.
use Prim.Native.Nat.{ℕ, ◌+◌, ◌*◌, ◌-◌, ◌/◌, ◌≤◌, ◌<◌}
use mathlib.Core.Path.{◌≡◌, refl, sym, ap, ◌∙◌}
use mathlib.Core.Bool.{false}
use mathlib.Core.List.{List, [], ◌∷◌}
use native.Mathlib.Omega.{arith}
use borrow.Author.Tests.{leb-true, le-leb, lt-ltb, le-ltb}
use lib.Dec.{leb, eqb}
use lib.ListN.{length, get_or}
use lib.Seq.{take_at}
use Rattle.words.specs.Tests.{choose, both, conj}
use Rattle.words.proofs.Tests.{both_fails}
use Rattle.packed_log.specs.Bits.{to_bits, num, bits, field}
use Rattle.packed_log.specs.Fields.{there, field_at}
use Rattle.packed_log.specs.Items.{padded}
use Rattle.packed_log.proofs.BitRows.{length_to_bits, num_to_bits}

-- the first 8 bits are the first byte
pub first_byte : (l : List ℕ) → 0 < length l → get_or l 0 0 < 256 → get_or l 0 0 ≡ field l 0 8
unfolding field bits
first_byte [] some h = absurd (omega arith)
first_byte (x ∷ l) some h = sym (ap num (take_at (to_bits 8 x) (bits l) 8 (length_to_bits 8 x)) ∙ num_to_bits 8 x h)

-- where there is no byte, genesis is named
pub no_byte : (l : List ℕ) → length l ≡ 0 → 0 ≡ field l 0 8
unfolding field bits num
no_byte [] none = refl
no_byte (x ∷ l) none = absurd (omega arith)

-- a field that is there is read
pub field_there : (l : List ℕ) (p w : ℕ) → length l ≤ 65536 → w ≤ 32 → p + w ≤ 8 * length l → field_at l p w ≡ field l p w
unfolding field_at there conj both choose
field_there l p w short narrow room = rw (le-leb (length l) 65536 short, le-leb w 32 narrow, le-leb (p + w) (8 * length l) room)

-- a slip of another length is not formed
pub ill_sized : (l : List ℕ) (due : ℕ) → (length l ≡ (due + 7) / 8 → ⊥) → false ≡ both (leb due (8 * length l)) (padded l due)
unfolding padded both
ill_sized l due other =
    sym
    (both_fails (leb due (8 * length l)) _
    (λ within. rw (le-ltb (8 * length l - due) 8 (omega (arith, leb-true due (8 * length l) within, other)))))

-- a slip of the right length is formed where the bits of its pad are zero
pub well_sized : (l : List ℕ) (due pad : ℕ) → due ≤ 8168 → length l ≡ (due + 7) / 8 → pad ≡ field_at l due (8 * length l - due)
    → eqb pad 0 ≡ both (leb due (8 * length l)) (padded l due)
unfolding padded both
well_sized l due pad most long read =
    let room : due + (8 * length l - due) ≡ 8 * length l = omega arith in
    let pad-read : field_at l due (8 * length l - due) ≡ field l due (8 * length l - due) =
    field_there l due (8 * length l - due) (omega arith) (omega arith) (omega arith) in
    rw (read, pad-read, le-leb due (8 * length l) (omega arith), lt-ltb (8 * length l - due) 8 (omega arith))
