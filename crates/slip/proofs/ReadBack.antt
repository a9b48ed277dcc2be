-- A slip that is written is accepted: its bits are read back, its marks are the signatures in the view that it was written from, and those are in the history.
use Prim.Native.Nat.{ℕ, ◌+◌, ◌*◌, ◌-◌, ◌/◌, ◌%◌, ◌≤◌, ◌<◌}
use mathlib.Core.Path.{◌≡◌, refl, sym, ap, ◌∙◌, subst⁻¹}
use mathlib.Core.Bool.{Bool, true, false, not}
use mathlib.Core.List.{List, ◌++◌, append_assoc}
use mathlib.Core.Logic.{⊎_elim}
use native.Mathlib.Decide.{ℕ_discrete}
use native.Mathlib.Omega.{arith}
use borrow.Author.Tests.{eq-eqb, eqb-true, ne_eqb, le-leb, lt-ltb, le-ltb, ltb-false}
use lib.Dec.{eqb}
use lib.ListN.{length, get_or, take, replicate, length-append, length-replicate, get_or-append}
use lib.Pow.{pow_pos}
use lib.Seq.{sets-eq, take_at, take_all, drop_at, get_or-append-add}
use Rattle.words.specs.Tests.{choose, either, every, member}
use Rattle.words.specs.Sums.{tally}
use Rattle.words.specs.Digits.{in_set}
use Rattle.words.specs.Refusals.{first}
use Rattle.words.proofs.Tests.{clash, both_left, both_right, both_make, either_cases, implies, all_make, every_same}
use Rattle.words.proofs.Sums.{tally_ext, tally_below}
use Rattle.words.proofs.Clearing.{clear}
use Rattle.words.proofs.Refusals.{first_before}
use Rattle.words.proofs.Turns.{skip, none as nothing}
use Rattle.tables.proofs.Chains.{parent_in_lt, climb_induction}
use Rattle.register.specs.declared.book.Book.{Book}
use Rattle.register.specs.Books.{block, book_of}
use Rattle.register.specs.Tables.{parent_of}
use Rattle.register.specs.Views.{signed, signers, signer_set, notarised}
use Rattle.register.specs.Chains.{chain, chain_length, chain_notarised_by}
use Rattle.register.specs.Refusals.{finalises_by, finalises}
use Rattle.register.proofs.Chains.{chain_genesis, chain_step, length_step}
use Rattle.register.proofs.Ranges.{fit_counts}
use Rattle.register.proofs.Growth.{ever_signed_lem}
use Rattle.packed_log.specs.Bits.{to_bits, num, bits, field, put}
use Rattle.packed_log.specs.Items.{padded}
use Rattle.packed_log.specs.Writing.{office_bits, laid}
use Rattle.packed_log.proofs.BitRows.{length_to_bits, num_to_bits, zero_bits}
use Rattle.packed_log.proofs.BitsLaws.{length_bits, bits_put, take_bits}
use Rattle.packed_log.proofs.WritingLaws.{length_trust}
use Rattle.slip.specs.Slips.{block_in, marked, bits_due, formed}
use Rattle.slip.specs.Checking.{truly, marked_enough, check_refusal, checked}
use Rattle.slip.specs.Writing.{rows_bits, front_bits, slip_bits, rule_tests, write_refusal, written, buffer_after}
use Rattle.slip.specs.Claims.{SlipsAccepted}
use Rattle.slip.proofs.WritingLaws.{bit_office, signer_bit, length_rows, length_front, length_slip, Allowed, allowed, by_room}

-- the first bytes of a buffer that whole bytes were laid over have the bits that were laid
bits_front : (l : List ℕ) (k : ℕ) (t : List Bool) → length t ≡ 8 * k → k ≤ length l → bits (take k (put l 0 t)) ≡ t
bits_front l k t whole within =
    let room : 0 + length t ≤ length (bits l) = rw length_bits (omega arith) in
    take_bits k (put l 0 t) ∙ ap (take (8 * k)) (bits_put l 0 t ∙ sets-eq t (bits l) 0 room) ∙ take_at t _ (8 * k) whole

-- zero bits are the number 0
num_zeros : (w : ℕ) → num (replicate w false) ≡ 0
num_zeros w = rw zero_bits at (num_to_bits w 0 (pow_pos w))

module _ (r : Book) (q : ℕ) where
  -- among the rows of block c's chain stands office s's bit for block x
  record RowAt (x s c : ℕ) : Type 0 where
    pub above : 0 < x
    pub within : r.n * (chain_length r x - 1) + s < length (rows_bits r q (chain r c))
    pub bit : get_or (rows_bits r q (chain r c)) (r.n * (chain_length r x - 1) + s) false ≡ in_set (signer_set r q x) s

  -- the rows of a chain are those of the parent's, and then the newest block's
  rows_step : (c : ℕ) → 0 < c → rows_bits r q (chain r c) ≡ rows_bits r q (chain r (parent_of r c)) ++ office_bits r.n (signer_set r q c)
  unfolding rows_bits
  rows_step c h = rw (chain_step r c h)

  -- so the newest block's stand there
  row_newest : (s c : ℕ) → s < r.n → 0 < c → RowAt c s c
  row_newest s c l h =
      let older : List Bool = rows_bits r q (chain r (parent_of r c)) in
      let rank : chain_length r c - 1 ≡ chain_length r (parent_of r c) = omega (arith, length_step r c h) in
      let place : r.n * (chain_length r c - 1) + s ≡ length older + s = rw (rank, length_rows) in
      record {
        above = h;
        within = rw (rows_step c h, length-append, length_trust) (omega (arith, place));
        bit = rw (place, rows_step c h) (get_or-append-add older _ s false ∙ bit_office r.n _ s l);
      }

  -- and those of the parent's chain
  row_older : (x s c : ℕ) → 0 < c → RowAt x s (parent_of r c) → RowAt x s c
  row_older x s c h i =
      record {
        above = i.above;
        within = rw (rows_step c h, length-append) (omega (arith, i.within));
        bit = rw (rows_step c h) (get_or-append (rows_bits r q (chain r (parent_of r c))) _ false _ i.within ∙ i.bit);
      }

  -- so does every block of the chain
  row_at : (x s : ℕ) → s < r.n → (c : ℕ) → member x (chain r c) ≡ true → RowAt x s c
  unfolding member
  row_at x s l =
      climb_induction (parent_of r) (parent_in_lt r.parents r.last.0) (λ (c : ℕ). member x (chain r c) ≡ true → RowAt x s c)
      (λ m. clash (rw (chain_genesis r) at m) refl)
      (λ c h ih m.
      ⊎_elim (λ e. subst⁻¹ (λ (y : ℕ). RowAt y s c) (eqb-true x c e) (row_newest s c l h)) (λ on. row_older x s c h (ih on))
      (either_cases (eqb x c) (member x (chain r (parent_of r c))) (rw (chain_step r c h) at m)))

-- a slip of these bits, about a block that the rule allows
module _ (r : Book) (q b : ℕ) (slip : List ℕ) (e : bits slip ≡ slip_bits r q b) (h : Allowed r q b) where
  -- it takes just the bytes that are due
  long : length slip ≡ (bits_due r b + 7) / 8
  long = omega (arith, sym (length_bits slip) ∙ ap length e ∙ length_slip r q b)

  -- it names the block
  names : block_in slip ≡ b
  unfolding field slip_bits front_bits
  names =
      rw (e, append_assoc)
      (ap num (take_at (to_bits 8 b) _ 8 (length_to_bits 8 b)) ∙ num_to_bits 8 b (omega (arith, h.made, (fit_counts r h.fits).blocks)))

  -- its pad is of zero bits
  zero_pad : field slip (bits_due r b) (8 * length slip - bits_due r b) ≡ 0
  unfolding field slip_bits
  zero_pad =
      let front : List Bool = front_bits r q b in
      let pad : ℕ = (8 - length front % 8) % 8 in
      let all : length (replicate pad false) ≤ 8 * length slip - bits_due r b = rw length-replicate (omega (arith, long, length_front r q b)) in
      rw (e, drop_at front _ (bits_due r b) (length_front r q b), take_all _ (replicate pad false) all) (num_zeros pad)

  -- it is formed
  well_formed : formed r slip b ≡ true
  unfolding formed padded
  well_formed =
      both_make _ _ (le-leb (bits_due r b) (8 * length slip) (omega (arith, long)))
      (both_make _ _ (lt-ltb (8 * length slip - bits_due r b) 8 (omega (arith, long))) (eq-eqb _ 0 zero_pad))

  module _ (x : ℕ) (on : member x (chain r b) ≡ true) where
    -- its marks on a block of the chain are the signatures in the view
    marks : (s : ℕ) → s < r.n → marked r slip x s ≡ signed r q s x
    unfolding marked slip_bits front_bits
    marks s l =
        let i : RowAt r q x s b = row_at r q x s l b on in
        let place : 8 + r.n * (chain_length r x - 1) + s ≡ length (to_bits 8 b) + (r.n * (chain_length r x - 1) + s) = rw length_to_bits (omega arith) in
        rw (e, place, append_assoc)
        (get_or-append-add (to_bits 8 b) _ _ false
        ∙ get_or-append (rows_bits r q (chain r b)) _ false _ i.within
        ∙ i.bit
        ∙ signer_bit r q x s (fit_counts r h.fits).offices l)

    -- so those that are set are in the history
    true_marks : truly r slip x ≡ true
    unfolding truly
    true_marks = all_make _ r.n (λ s l. rw (marks s l) (implies _ _ (ever_signed_lem r q s x)))

    -- as many offices are marked as signed there
    count_marks : signers r q x ≡ tally r.n (marked r slip x)
    count_marks = tally_below r.n 32 (λ s. signed r q s x) (fit_counts r h.fits).offices ∙ sym (tally_ext r.n _ _ marks)

    -- so they are enough where the block is notarised there
    enough_marks : notarised r q x ≡ true → marked_enough r slip x ≡ true
    unfolding marked_enough notarised either
    enough_marks holds =
        let above : 0 < x = (row_at r q x 0 (omega (arith, (fit_counts r h.fits).some)) b on).above in
        rw (ne_eqb x 0 (omega arith), count_marks) at holds

  -- every block of the chain is notarised in the view
  all_notarised : every (notarised r q) (chain r b) ≡ true
  unfolding finalises chain_notarised_by
  all_notarised = both_right _ _ (both_right _ _ h.final)

  -- so all its marks are in the history
  all_true : every (truly r slip) (chain r b) ≡ true
  all_true = every_same (notarised r q) _ (chain r b) (λ x on t. true_marks x on) all_notarised

  -- and by the marks the finalise rule holds
  final_marks : finalises_by r (marked_enough r slip) b ≡ true
  unfolding finalises chain_notarised_by
  final_marks =
      both_make _ _ (both_left _ _ h.final)
      (both_make _ _ (both_left _ _ (both_right _ _ h.final)) (every_same (notarised r q) _ (chain r b) enough_marks all_notarised))

  -- so no test refuses it
  unrefused : 0 ≡ check_refusal r slip
  unrefused =
      rw names
      (skip _ 0 5 _ (ap not h.fits)
      (skip _ 0 7 _ (le-ltb _ _ h.made)
      (skip _ 0 33 _ (ap not well_formed) (skip _ 0 34 _ (ap not all_true) (skip _ 0 21 _ (ap not final_marks) nothing)))))

  -- it is accepted
  accepted : checked r slip ≡ record { refusal = 0; block = block (parent_of r b) }
  unfolding checked choose
  accepted = rw (← unrefused, names)

-- where the writer refuses nothing, the rule does not
rule_clear : (r : Book) (q b : ℕ) (l : List ℕ) → write_refusal r q b l ≡ 0 → first (rule_tests r q b) ≡ 0
rule_clear r q b l none =
    elim (ℕ_discrete (first (rule_tests r q b)) 0) as (λ _. first (rule_tests r q b) ≡ 0) [
      | yes e ↦ e
      | no some ↦ sym (first_before (rule_tests r q b) _ some) ∙ none
    ]

-- what was written from a book is accepted
read_back : (r : Book) (q b : ℕ) (l : List ℕ) → write_refusal r q b l ≡ 0
    → checked r (take (length (slip_bits r q b) / 8) (put l 0 (slip_bits r q b))) ≡ record { refusal = 0; block = block (parent_of r b) }
read_back r q b l none =
    let clear-rule : first (rule_tests r q b) ≡ 0 = rule_clear r q b l none in
    let enough : length (slip_bits r q b) ≤ 8 * length l = ltb-false _ _ (clear _ (sym (by_room r q b l _ refl clear-rule) ∙ none)).0 in
    let size : ℕ = length (slip_bits r q b) / 8 in
    accepted r q b _ (bits_front l size (slip_bits r q b) (omega (arith, length_slip r q b)) (omega arith)) (allowed r q b clear-rule)

-- and so of every register
pub slips_accepted : SlipsAccepted
unfolding SlipsAccepted written buffer_after laid choose
slips_accepted r office b buffer none = rw none (read_back (book_of r) office.0 b.0 buffer none)
