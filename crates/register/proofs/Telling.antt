-- What is told of an epoch, a block or a message: the entry of its table where it is there, else zeros.
use Prim.Native.Nat.{ℕ, ◌-◌, ◌<◌, ◌≤◌}
use mathlib.Core.Path.{◌≡◌, refl, sym, ap}
use mathlib.Core.Bool.{Bool, true, false}
use native.Mathlib.Omega.{arith}
use borrow.Author.Tests.{ltb-true, ltb-false, leb-true}
use lib.Dec.{ltb}
use lib.ListN.{length, get_or, get_or-eq_default, get_or-map}
use Rattle.words.specs.Tests.{choose, both}
use Rattle.words.specs.Digits.{digit}
use Rattle.words.proofs.Tests.{both_left, both_right, both_none, between_true}
use Rattle.words.proofs.Digits.{digit_zero}
use Rattle.tables.specs.Messages.{absent}
use Rattle.tables.specs.Blocks.{parent_in, epoch_in}
use Rattle.register.specs.Types.{Block, Kind, Register}
use Rattle.register.specs.Books.{office, epoch, block, office_number, epoch_number, block_number, book_of}
use Rattle.register.specs.Tables.{trusted, scheduled_in, leader_for, made, parent_of, header_for, sent_in, content_for}
use Rattle.register.specs.Views.{stage}
use Rattle.tables.proofs.Columns.{vote_entry}
use Rattle.register.proofs.Typing.{kind_vote}

module _ (r : Register) (e : ℕ) where
  -- an epoch of the schedule is from 1 to 256
  pub scheduled : scheduled_in r.scheduled e ≡ true → (1 ≤ e) × (e ≤ 256)
  scheduled found = ((between_true _ _ _ (both_left _ _ found)).0, leb-true e 256 (both_right _ _ found))

  -- its leader is the entry before it in the table
  pub leader_found : scheduled_in r.scheduled e ≡ true → get_or r.leaders (e - 1) (office 0) ≡ leader_for (book_of r) e
  unfolding leader_for choose book_of
  leader_found found = rw found (ap office (sym (get_or-map office_number r.leaders (e - 1) (office 0))))

  -- any other has office 0
  pub leader_none : scheduled_in r.scheduled e ≡ false → office 0 ≡ leader_for (book_of r) e
  unfolding leader_for choose book_of
  leader_none none = rw none

module _ (r : Register) (b : ℕ) where
  -- a block that was made has its entries; one that names no smaller parent counts as on genesis
  pub header_found : (parent : Block) → made (book_of r) b ≡ true → parent.0 ≡ parent_of (book_of r) b
      → record { parent = parent; epoch = get_or r.blocks.epochs b (epoch 0); payload = get_or r.blocks.payloads b 0 } ≡ header_for (book_of r) b
  unfolding header_for parent_in epoch_in choose both book_of
  header_found parent found named =
      rw (ap block named, found, get_or-map epoch_number r.blocks.epochs b (epoch 0))

  -- genesis, and a number above the last block's, has zeros
  pub header_none : made (book_of r) b ≡ false → record { parent = block 0; epoch = epoch 0; payload = 0 } ≡ header_for (book_of r) b
  unfolding header_for parent_in epoch_in choose both
  header_none none = rw none

-- to choose between nothing and nothing
neither : (x : Bool) → ◌≡◌ {A = ℕ} (choose x 0 0) 0
unfolding choose
neither true = refl
neither false = refl

module _ (r : Register) (m : ℕ) where
  -- a message that was sent is one of 1,024
  pub in_table : sent_in r.messages.count m ≡ true → m < 1024
  in_table found = ltb-true m 1024 (both_right _ _ found)

  -- it says what its entries say
  pub content_found : sent_in r.messages.count m ≡ true
      → record {
        kind = get_or r.messages.kinds m Kind.Proposal;
        signer = get_or r.messages.signers m (office 0);
        about = get_or r.messages.about m (block 0);
      }
      ≡ content_for (book_of r) m
  unfolding content_for choose book_of
  content_found found =
      rw (found, vote_entry, kind_vote, get_or-map office_number r.messages.signers m (office 0), get_or-map block_number r.messages.about m (block 0))

  -- any other number has zeros
  pub content_none : sent_in r.messages.count m ≡ false
      → record { kind = Kind.Proposal; signer = office 0; about = block 0 } ≡ content_for (book_of r) m
  unfolding content_for choose book_of
  content_none none = rw none

  -- for a trusted office a message that was sent is where its word says
  pub stage_found : (q : ℕ) → trusted (book_of r) q ≡ true → sent_in r.messages.count m ≡ true
      → stage (book_of r) q m ≡ digit 4 (get_or r.messages.places m 0) q
  unfolding stage choose both book_of
  stage_found q t found = rw (t, both_left (ltb m r.messages.count) (ltb m 1024) found)

  -- for any other it is absent
  pub stage_untrusted : (q : ℕ) → trusted (book_of r) q ≡ false → stage (book_of r) q m ≡ absent
  unfolding stage choose both
  stage_untrusted q t = rw t

  -- and so is, for every office, a number that was not sent: past the table all places are 0
  absent_past : (q : ℕ) → length r.messages.places ≡ 1024 → (x : Bool) → ltb m r.messages.count ≡ x → both x (ltb m 1024) ≡ false
      → stage (book_of r) q m ≡ absent
  unfolding stage choose both book_of
  absent_past q long true h none =
      rw (get_or-eq_default r.messages.places 0 {n = m} (omega (arith, long, ltb-false m 1024 none)), digit_zero 4 q)
      (neither (both (trusted (book_of r) q) (ltb m r.messages.count)))
  absent_past q long false h none = rw (h, both_none)

  pub stage_none : (q : ℕ) → length r.messages.places ≡ 1024 → sent_in r.messages.count m ≡ false → stage (book_of r) q m ≡ absent
  stage_none q long none = absent_past q long _ refl none
