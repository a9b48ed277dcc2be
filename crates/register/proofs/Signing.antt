-- The word of a block's signers in an office's view, and their count: what its bits tell in a fit register, and that the code finds both in every register.
use Prim.Native.Nat.{ℕ, ◌≤◌, ◌<◌}
use mathlib.Core.Path.{◌≡◌, refl, sym, ◌∙◌}
use mathlib.Core.Bool.{true, false}
use native.Mathlib.Omega.{arith}
use native.Mathlib.Decide.{dec_lt}
use borrow.Author.Tests.{ne_eqb, lt-ltb, le-ltb}
use lib.Dec.{ltb}
use lib.ListN.{get_or}
use Rattle.words.specs.Tests.{choose, both, either}
use Rattle.words.specs.Sums.{tally}
use Rattle.words.specs.Digits.{digit, fill, in_set, set_bits}
use Rattle.words.proofs.Tests.{any_fails, both_none}
use Rattle.words.proofs.Sums.{tally_ext, tally_past}
use Rattle.words.proofs.Digits.{in_set_lem, in_set_past, set_below, set_ext, set_none}
use Rattle.quorum.specs.declared.SignerCount.{SignerCount}
use Rattle.quorum.specs.Enough.{count_of}
use Rattle.tables.specs.Messages.{says_in}
use Rattle.tables.specs.Searches.{signers_in, view_in}
use Rattle.tables.proofs.Views.{view_entry}
use Rattle.register.specs.Types.{Book}
use Rattle.register.specs.Books.{book_of}
use Rattle.register.specs.Tables.{trusted, signer_of, about_of}
use Rattle.register.specs.Views.{stage, says, signed, signs, signers, signer_set, notarised, signers_on, notarised_test}
use Rattle.register.specs.Fitness.{fit}
use Rattle.register.specs.Promises.{SignersAreBits, GenesisUnsigned}
use Rattle.register.proofs.Ranges.{fit_counts, fit_messages}
use Rattle.register.proofs.Searching.{signed_columns}

module _ (r : Book) (q : ℕ) where
  -- in every register as many bits are set as there are signers
  bits_count : (b : ℕ) → set_bits (signer_set r q b) ≡ signers r q b
  unfolding signer_set
  bits_count b = tally_ext 32 _ (signs r q b) (λ s l. in_set_lem (signs r q b) s l)

  -- and none of them from n up
  no_bit : (b s : ℕ) → r.n ≤ s → in_set (signer_set r q b) s ≡ false
  unfolding signer_set both
  no_bit b s past =
      elim (dec_lt s 32) as (λ _. in_set (signer_set r q b) s ≡ false) [
        | no long ↦ in_set_past (signs r q b) s (omega arith)
        | yes within ↦ in_set_lem (signs r q b) s within ∙ rw (le-ltb s r.n past)
      ]

  -- so those below n are the signers, however many offices the register says
  members_count : (b : ℕ) → tally r.n (in_set (signer_set r q b)) ≡ signers r q b
  unfolding signer_set
  members_count b =
      elim (dec_lt 32 r.n) as (λ _. tally r.n (in_set (signer_set r q b)) ≡ signers r q b) [
        | no few ↦ sym (tally_past r.n 32 _ (omega arith) (λ s past. no_bit b s past)) ∙ bits_count b
        | yes many ↦ tally_past 32 r.n _ (omega arith) (λ s past. in_set_past (signs r q b) s past) ∙ bits_count b
      ]

  -- and what their count tells of a block other than genesis is the notarised test
  pub test_by_count : (b set : ℕ) (count : SignerCount) → (b ≡ 0 → ⊥) → set ≡ signer_set r q b → count ≡ count_of (tally r.n (in_set set)) r.n
      → record { holds = count.enough; signers = count.signers } ≡ notarised_test r q b
  unfolding notarised signers_on either choose
  test_by_count b set count other same told = rw (told, same, members_count b, ne_eqb b 0 other)

  -- what no message says, no view has a signature for
  unsaid : (s b : ℕ) → ((m : ℕ) → m < r.count → says r s b m ≡ false) → signed r q s b ≡ false
  unfolding signed
  unsaid s b none = any_fails _ r.count (λ m l. rw (none m l, both_none))

  -- an office that is not trusted has no view
  pub unseen : trusted r q ≡ false → (s b : ℕ) → signed r q s b ≡ false
  unfolding signed stage choose both
  unseen t s b = any_fails _ r.count (λ m l. rw t)

  -- in a fit register no number from n up has signed, for every signer is an office
  no_stranger : fit r ≡ true → (s b : ℕ) → r.n ≤ s → signed r q s b ≡ false
  unfolding says_in both
  no_stranger h s b past = unsaid s b (λ m l. rw (ne_eqb (signer_of r m) s (omega (arith, (fit_messages r h m l).0))))

  -- and nobody has signed genesis, for every message is about a block from 1 up
  no_genesis : fit r ≡ true → (s : ℕ) → signed r q s 0 ≡ false
  unfolding says_in
  no_genesis h s =
      unsaid s 0 (λ m l. rw (ne_eqb (about_of r m) 0 (omega (arith, (fit_messages r h m l).1.0)), both_none))

  -- so in a fit register each bit tells of one signature
  bits_tell : fit r ≡ true → (b s : ℕ) → in_set (signer_set r q b) s ≡ signed r q s b
  unfolding signer_set both
  bits_tell h b s =
      let few : r.n ≤ 32 = (fit_counts r h).offices in
      elim (dec_lt s 32) as (λ _. in_set (signer_set r q b) s ≡ signed r q s b) [
        | no past ↦ in_set_past _ s (omega arith) ∙ sym (no_stranger h s b (omega arith))
        | yes within ↦ in_set_lem _ s within ∙ (elim (dec_lt s r.n) as (λ _. both (ltb s r.n) (signed r q s b) ≡ signed r q s b) [
          | yes office ↦ rw (lt-ltb s r.n office)
          | no stranger ↦ rw (no_stranger h s b (omega arith), both_none)
        ])
      ]

  -- the set that is found in no view
  pub set_unseen : (b : ℕ) → trusted r q ≡ false → 0 ≡ signer_set r q b
  unfolding signer_set
  set_unseen b t = sym (set_none _ (λ s. rw (unseen t s b, both_none)))

  -- the set that is found in a trusted office's view
  pub set_seen : (b : ℕ) → trusted r q ≡ true → b < 256
      → fill 2 r.n (digit 2 (get_or (view_in r.places r.signers r.about r.count q) b 0)) ≡ signer_set r q b
  unfolding signer_set signers_in
  set_seen b t l =
      rw (view_entry r.places r.signers r.about r.count q b l)
      (set_below r.n _ ∙ set_ext _ _ (λ s h. rw (signed_columns r q s b t)))

-- in a fit register the word of every block, in every office's view, tells who signed, and how many
pub signers_are_bits : SignersAreBits
unfolding SignersAreBits
signers_are_bits r h q b =
    record { bits = bits_tell (book_of r) q h b; count = bits_count (book_of r) q b }

-- there genesis has no signers
pub genesis_unsigned : GenesisUnsigned
unfolding GenesisUnsigned signer_set notarised signers_on either choose book_of
genesis_unsigned r h q = (set_none _ (λ s. rw (no_genesis (book_of r) q h s, both_none)), refl)
