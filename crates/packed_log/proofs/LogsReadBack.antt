-- Whole logs: steps, one behind the other, with the end behind them, and the packed form; what stands in a log is read there, and back.
use Prim.Native.Nat.{ℕ, ◌+◌, ◌≤◌, ◌*◌, ◌/◌}
use mathlib.Core.Path.{◌≡◌, refl, sym, ap, ◌∙◌}
use mathlib.Core.Bool.{Bool, false}
use mathlib.Core.List.{List, [], ◌∷◌, ◌++◌, append_assoc}
use native.Mathlib.Nat.{add-zero, add_assoc, zero-add}
use native.Mathlib.Omega.{arith}
use lib.ListN.{length, drop, length-append, length-replicate}
use Rattle.words.proofs.Tests.{either_false_left, either_false_right}
use Rattle.quorum.specs.Opening.{opening_refusal}
use Rattle.register.specs.declared.step.Step.{Step}
use Rattle.register.specs.Opening.{fresh}
use Rattle.packed_log.specs.declared.{item.Read.Read, opening.Opening.Opening}
use Rattle.packed_log.specs.declared.item.Item.TheVariants as items
use Rattle.packed_log.specs.{Bits.bits, Items.read, Items.item_at, Openings.opened, Openings.opening_in}
use Rattle.packed_log.specs.Writing.{step_bits, end_bits, opening_bits}
use Rattle.packed_log.specs.Logs.{steps_bits, any_wide, ReadsFrom, Case, body_bits, packed, Reads}
use Rattle.packed_log.proofs.{Standing.Stands, Standing.stands_behind, BitRows.length_to_bits, BitsLaws.bits_bytes}
use Rattle.packed_log.proofs.ItemLaws.{step_reads, end_reads, Found, item_found}
use Rattle.packed_log.proofs.OpeningsReadBack.{opening_reads, opening_stands}

-- the bits of some steps from position p on, and of the end behind them
abbrev pub rest_bits : (ss : List Step) → (p : ℕ) → List Bool
rest_bits ss p = steps_bits ss ++ end_bits (p + length (steps_bits ss))

-- one step more in front of them
rest_step : (s : Step) (ss : List Step) (p next : ℕ) → next ≡ p + length (step_bits s) → rest_bits (s ∷ ss) p ≡ step_bits s ++ rest_bits ss next
unfolding steps_bits
rest_step s ss p next e = rw (e, length-append, add_assoc, append_assoc)

-- steps within the widths that stand at a position with the end behind them are read there
pub steps_read : (log : List ℕ) → length log ≤ 65536 → (p : ℕ) (ss : List Step) → any_wide ss ≡ false
    → Stands log p (rest_bits ss p) → ReadsFrom log p ss
unfolding ReadsFrom steps_bits any_wide
steps_read log small p [] narrow h = ap (λ (r : Read). r.item) (end_reads log p small (rw add-zero at h))
steps_read log small p (s ∷ ss) narrow h =
    let next : ℕ = p + length (step_bits s) in
    let stands : Stands log p (step_bits s ++ rest_bits ss next) = h ∙ rest_step s ss p next refl in
    let one : item_at log p ≡ read (items.Step s) next = step_reads log p s (rest_bits ss next) small (either_false_left _ _ narrow) stands in
    rw one (refl, steps_read log small next ss (either_false_right _ _ narrow) (stands_behind log p (step_bits s) (rest_bits ss next) stands))

-- steps that are read with the end behind them stand there
pub steps_stand : (log : List ℕ) (p : ℕ) (ss : List Step) → ReadsFrom log p ss → Stands log p (rest_bits ss p)
unfolding ReadsFrom steps_bits Found
steps_stand log p [] h = rw add-zero (rw h at (item_found log p))
steps_stand log p (s ∷ ss) h =
    let next : ℕ = (item_at log p).next in
    let found : Stands log p (step_bits s ++ drop next (bits log)) × (next ≡ p + length (step_bits s)) = rw h.0 at (item_found log p) in
    found.0 ∙ rw (steps_stand log next ss h.1) (sym (rest_step s ss p next found.1))

-- the row of an opening with steps and the end
abbrev pub case_bits : Case → List Bool
case_bits c = body_bits c ++ end_bits (length (body_bits c))

-- the end goes up to the end of a byte
whole_bytes : (r : List Bool) → length (r ++ end_bits (length r)) ≡ 8 * ((length r + 11) / 8)
unfolding end_bits
whole_bytes r = simp (length-append, length_to_bits, length-replicate) (omega arith)

-- the row of the packed form
pub packed_row : (c : Case) → bits (packed c) ≡ case_bits c
unfolding packed
packed_row c = bits_bytes ((length (body_bits c) + 11) / 8) (case_bits c) (whole_bytes (body_bits c))

-- the row of a case's opening
abbrev pub first_bits : Case → List Bool
first_bits c = opening_bits c.n c.trust c.schedule

-- the row of a case is that of its opening, then its steps and the end
case_parts : (c : Case) → case_bits c ≡ first_bits c ++ rest_bits c.steps (length (first_bits c))
unfolding body_bits
case_parts c = rw (length-append, append_assoc)

-- a log that is not too long, and has the row of a case with an opening that is not refused and steps within the widths, reads as that case
pub log_reads : (log : List ℕ) (c : Case) → length log ≤ 65536
    → opening_refusal c.n c.trust c.schedule ≡ 0 → any_wide c.steps ≡ false → Stands log 0 (case_bits c) → Reads log c
log_reads log c small opens narrow h =
    let next : ℕ = length (first_bits c) in
    let rest : List Bool = rest_bits c.steps next in
    let stands : Stands log 0 (first_bits c ++ rest) = h ∙ case_parts c in
    let opening : opening_in log ≡ opened (fresh c.n c.trust c.schedule) 0 next =
    opening_reads log c.n c.trust c.schedule rest small opens stands in
    let behind : Stands log next rest = rw zero-add at (stands_behind log 0 (first_bits c) rest stands) in
    record {
      opens = ap (λ (o : Opening). o.refusal) opening;
      register = ap (λ (o : Opening). o.register) opening;
      steps = rw opening (steps_read log small next c.steps narrow behind);
    }

-- a log that reads as a case has its row
pub log_stands : (log : List ℕ) (c : Case) → Reads log c → Stands log 0 (case_bits c)
log_stands log c h =
    let next : ℕ = (opening_in log).next in
    let opening : Stands log 0 (first_bits c ++ drop next (bits log)) × (next ≡ length (first_bits c)) =
    opening_stands log c.n c.trust c.schedule h.opens h.register in
    let rest : Stands log next (rest_bits c.steps next) = steps_stand log next c.steps h.steps in
    opening.0 ∙ rw (rest, opening.1) (sym (case_parts c))
