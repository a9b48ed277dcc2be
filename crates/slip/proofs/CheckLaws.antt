-- What the tests that the code makes of a slip say in the rules' terms.
use Prim.Native.Nat.{ℕ, zero, suc, ◌+◌, ◌*◌, ◌-◌, ◌^◌, ◌≤◌, ◌<◌, min}
use mathlib.Core.Path.{◌≡◌, sym, ap, ◌∙◌}
use mathlib.Core.Bool.{Bool, true, not}
use mathlib.Core.List.{List, [], ◌∷◌, map}
use native.Mathlib.Nat.{mul-suc, mul-le-mul}
use native.Mathlib.Omega.{arith}
use borrow.Author.Tests.{leb-true, ltb-true, ne_eqb}
use lib.Dec.{ltb, leb}
use lib.ListN.{length}
use Rattle.words.specs.Tests.{choose, both, every}
use Rattle.words.specs.Digits.{in_set}
use Rattle.words.specs.Refusals.{◌⇒◌, first}
use Rattle.words.proofs.Tests.{both_left, both_right, every_both}
use Rattle.quorum.specs.Enough.{enough}
use Rattle.tables.specs.Chains.{chain_by}
use Rattle.tables.specs.Searches.{view_in}
use Rattle.tables.proofs.Chains.{parent_in_lt}
use Rattle.register.specs.declared.book.Book.{Book}
use Rattle.register.specs.Books.{block}
use Rattle.register.specs.Tables.{parent_of, epoch_of}
use Rattle.register.specs.Views.{ever_signed}
use Rattle.register.specs.Chains.{chain, chain_notarised_by}
use Rattle.register.specs.Refusals.{consecutive, finalises_by}
use Rattle.register.proofs.Ranges.{Ranges}
use Rattle.packed_log.specs.Items.{padded}
use Rattle.packed_log.proofs.BitsLaws.{field_lt}
use Rattle.slip.specs.Slips.{block_in, place, marked, bits_due, formed}
use Rattle.slip.specs.Checking.{truly, marked_enough, check_tests, check_refusal, checked}
use Rattle.slip.specs.Rows.{mirror, everywhere, row_in, truth_in, link_in}
use Rattle.slip.proofs.Mirrors.{within_mirror, tally_marks}
use Rattle.slip.proofs.RowLaws.{bit_field, history_row}
use Rattle.slip.proofs.OnChain.{On, every_on}

-- what a slip gets by the tests of a register's book and of the block that was found in it
module _ (r book : Book) (slip : List ℕ) (b k : ℕ) (same : book ≡ r) (named : b ≡ block_in slip) (tested : k ≡ first (check_tests book slip b)) where
  -- that is its refusal
  refusal_is : k ≡ check_refusal r slip
  refusal_is = tested ∙ rw (same, named)

  -- a slip with a refusal has no answer
  pub refused_by : (k ≡ 0 → ⊥) → record { refusal = k; block = block 0 } ≡ checked r slip
  unfolding checked choose
  refused_by some = rw (← refusal_is, ne_eqb k 0 some)

  -- that of a slip without is the block's parent
  pub accepted_by : (c : ℕ) → k ≡ 0 → c ≡ parent_of book b → record { refusal = k; block = block c } ≡ checked r slip
  unfolding checked choose
  accepted_by c none parent = rw (← refusal_is, none, parent, same, named)

-- the last of l rows ends where all of them do
row_end : (n l : ℕ) → 0 < l → n * (l - 1) + n ≡ n * l
row_end n zero h = absurd (omega arith)
row_end n (suc l) h = rw mul-suc (ap (λ (k : ℕ). n * k + n) (omega arith))

module _ (r : Book) (z : Ranges r) (slip : List ℕ) (b : ℕ) (low : b < 256) (room : 8 + r.n * length (chain_by (parent_of r) b) ≤ 8 * length slip) where
  -- the row of each block on the chain is within the slip
  row_room : (x : ℕ) → On (parent_of r) (parent_in_lt r.parents r.last.0) x b → place r x + r.n ≤ 8 * length slip
  unfolding chain
  row_room x on =
      let most : r.n * length (chain_by (parent_of r) x) ≤ r.n * length (chain_by (parent_of r) b) =
      mul-le-mul {m₂ = length (chain_by (parent_of r) b)} (omega arith) on.short in
      omega (arith, row_end r.n (length (chain_by (parent_of r) x)) on.long)

  -- and has no bit from n up
  row_narrow : (x : ℕ) → row_in slip (parent_of r) r.n x < 2 ^ r.n
  unfolding row_in
  row_narrow x = field_lt slip _ r.n

  -- a mark is at its office's place in the row
  row_marked : (x : ℕ) → On (parent_of r) (parent_in_lt r.parents r.last.0) x b → (q : ℕ) → q < r.n
      → in_set (row_in slip (parent_of r) r.n x) (r.n - 1 - q) ≡ marked r slip x q
  unfolding row_in marked chain
  row_marked x on q h = bit_field slip (place r x) r.n q (row_room x on) h

  -- the rows of the history
  abbrev history : List ℕ
  history = view_in everywhere (map (mirror r.n) r.signers) r.about (min r.count 1024) 0

  -- a row's members are among the history's where every mark is true
  row_true : (x : ℕ) → On (parent_of r) (parent_in_lt r.parents r.last.0) x b
      → truth_in slip history (parent_of r) r.n x ≡ truly r slip x
  unfolding truth_in truly
  row_true x on =
      within_mirror r.n (row_in slip (parent_of r) r.n x) _ (marked r slip x) (λ q. ever_signed r q x) z.counts.offices
      (row_narrow x) (row_marked x on) (λ q h. history_row r z q x h (omega (arith, on.low)))

  -- a row's members are enough where the marks are
  row_link : (x : ℕ) → On (parent_of r) (parent_in_lt r.parents r.last.0) x b
      → link_in slip (parent_of r) (epoch_of r) r.n x
      ≡ both (ltb (epoch_of r (parent_of r x)) (epoch_of r x)) (marked_enough r slip x)
  unfolding link_in marked_enough
  row_link x on =
      ap (λ (k : ℕ). both (ltb (epoch_of r (parent_of r x)) (epoch_of r x)) (enough k r.n))
      (tally_marks r.n (row_in slip (parent_of r) r.n x) (marked r slip x) (row_marked x on))

  -- the refusal that the marks bring, in the rules' terms, where c was found to be b's parent and d c's
  pub marks_told : (k c d : ℕ) (three : Bool) → c ≡ parent_of r b → d ≡ parent_of r c → three ≡ consecutive (epoch_of r) b c d
      → k
      ≡ first
      ((not (every (truth_in slip history (parent_of r) r.n) (chain_by (parent_of r) b)) ⇒ 34)
      ∷ (not (both three (every (link_in slip (parent_of r) (epoch_of r) r.n) (chain_by (parent_of r) b))) ⇒ 21)
      ∷ [])
      → k ≡ first ((not (every (truly r slip) (chain r b)) ⇒ 34) ∷ (not (finalises_by r (marked_enough r slip) b) ⇒ 21) ∷ [])
  unfolding chain chain_notarised_by
  marks_told k c d three parent grandparent run is =
      let down = parent_in_lt r.parents r.last.0 in
      let truths : every (truth_in slip history (parent_of r) r.n) (chain_by (parent_of r) b) ≡ every (truly r slip) (chain_by (parent_of r) b) =
      every_on (parent_of r) down _ _ b row_true in
      let links : every (link_in slip (parent_of r) (epoch_of r) r.n) (chain_by (parent_of r) b) ≡ chain_notarised_by r (marked_enough r slip) b =
      every_on (parent_of r) down _ _ b row_link ∙ sym (every_both _ (marked_enough r slip) (chain_by (parent_of r) b)) in
      is ∙ rw (truths, links, run, grandparent, parent)

-- the test of a slip's form, by the length of the chain that was found
module _ (r : Book) (slip : List ℕ) (b due long : ℕ) (t : Bool) (found : long ≡ length (chain_by (parent_of r) b)) (sum : due ≡ 8 + r.n * long)
    (tested : t ≡ both (leb due (8 * length slip)) (padded slip due))
  where
    -- so many bits are due
    pub bits_due_by : due ≡ bits_due r b
    unfolding chain
    bits_due_by = rw (sum, found)

    -- the test is that of the rules
    pub formed_by : t ≡ formed r slip b
    unfolding formed
    formed_by = rw (← bits_due_by) tested

    -- where it holds the bits are there, and where so few are due the slip is short
    pub formed_room : t ≡ true → due ≤ 8168 → (due ≤ 8 * length slip) × (length slip ≤ 65536)
    unfolding padded
    formed_room holds few =
        let there = sym tested ∙ holds in
        let room = leb-true due (8 * length slip) (both_left _ _ there) in
        let pad = ltb-true (8 * length slip - due) 8 (both_left _ _ (both_right _ _ there)) in
        (room, omega (arith, room, pad))
