-- The cases that the paper marks P hold, by computation; and a case that can be packed.
use Prim.Native.Nat.{ℕ, ◌+◌, ◌*◌, ◌-◌, ◌^◌, ◌≤◌}
use mathlib.Core.Path.{◌≡◌, refl, sym, ap, ◌∙◌}
use mathlib.Core.{Bool.false, List.[], List.◌∷◌}
use native.Mathlib.Omega.{arith}
use borrow.Author.Tests.{lt-leb}
use lib.ListN.{length, length-append}
use Rattle.words.specs.Tests.{choose, either, any}
use Rattle.words.specs.Sums.{weigh, unit, tally}
use Rattle.words.specs.{Digits.digit, Refusals.first}
use Rattle.words.proofs.Tests.{between_make}
use Rattle.quorum.specs.Enough.{enough}
use Rattle.quorum.specs.Opening.{untrusted, too_many, stray, opening_refusal}
use Rattle.register.specs.declared.step.Step.TheVariants.{Propose, Advance}
use Rattle.register.specs.Books.{office, block}
use Rattle.packed_log.specs.Bits.{to_bits, num, pack, bytes}
use Rattle.packed_log.specs.{Rows.row_of, Widths.fields, Widths.width}
use Rattle.packed_log.specs.Writing.{office_bits, leader_bits, opening_bits, end_bits, wide}
use Rattle.packed_log.specs.Logs.{Case, steps_bits, body_bits, packed, any_wide, Packable}
use Rattle.packed_log.specs.MarkedCases.{Says, AllHold, marked}
use Rattle.packed_log.proofs.{BitsLaws.length_bits, RowLaws.◌&◌, LogsReadBack.packed_row}
use Rattle.packed_log.proofs.WritingLaws.{length_row, length_opening, length_end}

-- no leader is stray where office 0 leads
led : (n : ℕ) → 1 ≤ n → stray n (0 ∷ []) ≡ false
unfolding stray any either
led n some = lt-leb n 0 some

-- an opening of n offices and one epoch, which office 0 leads, is refused only for its untrusted offices
mistrusts : (u n : ℕ) → 1 ≤ n → n ≤ 32 → untrusted n (2 ^ n - 2 ^ u) ≡ u → opening_refusal n (2 ^ n - 2 ^ u) (0 ∷ []) ≡ choose (too_many u n) 4 0
unfolding opening_refusal first choose
mistrusts u n some most count =
    rw (between_make 1 32 n (some, most), between_make 1 256 1 (omega arith, omega arith), led n some, count)

-- how many offices are untrusted in the cases
counted : (untrusted 1 1 ≡ 0) × (untrusted 3 6 ≡ 1) × (untrusted 4 14 ≡ 1) × (untrusted 32 (2 ^ 32 - 2 ^ 10) ≡ 10) × (untrusted 32 (2 ^ 32 - 2 ^ 11) ≡ 11)
unfolding untrusted tally weigh unit digit choose
counted = (refl, refl, refl, refl, refl)

-- three offices, all trusted, leaders 0 0 0, no steps
abbrev alone : Case
alone = record { n = 3; trust = 7; schedule = 0 ∷ 0 ∷ 0 ∷ []; steps = [] }

-- its bits as one number, and as bytes
alone_bits : body_bits alone ≡ to_bits 33 520192000
unfolding body_bits opening_bits to_bits office_bits digit leader_bits steps_bits
alone_bits = refl

alone_bytes : packed alone ≡ 15 ∷ 128 ∷ 192 ∷ 0 ∷ 0 ∷ []
unfolding packed bytes pack num choose to_bits end_bits
alone_bytes = rw alone_bits

pub marked_hold : AllHold marked
unfolding Says AllHold marked enough too_many choose
marked_hold =
    refl & refl & refl & refl & refl & refl & refl
    & mistrusts 1 3 (omega arith) (omega arith) counted.1
    & mistrusts 1 4 (omega arith) (omega arith) counted.2
    & mistrusts 10 32 (omega arith) (omega arith) counted.3
    & mistrusts 11 32 (omega arith) (omega arith) counted.4
    & alone_bytes
    & record {}

-- one trusted office that leads one epoch; a proposal and an advance
abbrev pub two_steps : Case
two_steps = record { n = 1; trust = 1; schedule = 0 ∷ []; steps = Propose (office 0) (block 0) 7 ∷ Advance ∷ [] }

two_steps_long : length (body_bits two_steps) ≡ 58
unfolding body_bits steps_bits row_of width fields
two_steps_long = simp (length-append, length_opening, length_row)

-- it can be packed: what is claimed of such cases is not empty
pub can_be_packed : Packable two_steps
unfolding any_wide wide row_of width fields either too_many choose
can_be_packed =
    let body : ℕ = length (body_bits two_steps) in
    let whole : 8 * length (packed two_steps) ≡ body + length (end_bits body) = sym (length_bits (packed two_steps)) ∙ ap length (packed_row two_steps) ∙ length-append (body_bits two_steps) (end_bits body) in
    record { opens = mistrusts 0 1 (omega arith) (omega arith) counted.0; narrow = refl; small = omega (arith, two_steps_long, length_end body) }
