-- Rows of a slip: as bits, and as what the history or a view has for a block.
use Prim.Native.Nat.{ℕ, zero, suc, ◌+◌, ◌*◌, ◌-◌, ◌≤◌, ◌<◌, min}
use mathlib.Core.Path.{◌≡◌, sym, ap, ◌∙◌}
use mathlib.Core.Bool.{Bool, true, false}
use mathlib.Core.List.{List, map}
use native.Mathlib.Omega.{arith}
use lib.ListN.{length, get_or, take, drop, length-take, length-drop, get_or-replicate}
use lib.Seq.{get_or-take, get_or-drop}
use Rattle.words.specs.Tests.{both}
use Rattle.words.specs.Digits.{in_set, digit}
use Rattle.words.proofs.Tests.{any_same}
use Rattle.words.proofs.Digits.{in_set_lem}
use Rattle.tables.specs.Searches.{signed_in, signers_in, view_in}
use Rattle.tables.proofs.Views.{view_entry}
use Rattle.register.specs.declared.book.Book.{Book}
use Rattle.register.specs.Tables.{trusted}
use Rattle.register.specs.Views.{signed, ever_signed}
use Rattle.register.proofs.Ranges.{Ranges}
use Rattle.register.proofs.Searching.{signed_in_lem}
use Rattle.packed_log.specs.Bits.{to_bits, num, bits, field}
use Rattle.packed_log.proofs.BitRows.{to_bits_num}
use Rattle.packed_log.proofs.BitsLaws.{length_bits}
use Rattle.slip.specs.Rows.{mirror, everywhere}
use Rattle.slip.proofs.Mirrors.{signed_mirror}

-- bit q of a number's bits, the highest first
pub bit_to_bits : (w v q : ℕ) → q < w → get_or (to_bits w v) q false ≡ in_set v (w - 1 - q)
unfolding to_bits digit
bit_to_bits zero v q h = absurd (omega arith)
bit_to_bits (suc w) v zero h = ap (in_set v) (omega arith)
bit_to_bits (suc w) v (suc q) h = bit_to_bits w v q (omega arith) ∙ ap (in_set v) (omega arith)

-- bit q of a field's bits is in its number at place w - 1 - q
pub bit_field : (l : List ℕ) (p w q : ℕ) → p + w ≤ 8 * length l → q < w → in_set (field l p w) (w - 1 - q) ≡ get_or (bits l) (p + q) false
unfolding field
bit_field l p w q room h =
    let row : List Bool = take w (drop p (bits l)) in
    let long : length row ≡ w = simp (length-take, length-drop, length_bits) (omega arith) in
    sym (bit_to_bits w (num row) q h)
    ∙ ap (λ (t : List Bool). get_or t q false) (rw long at (to_bits_num row))
    ∙ get_or-take w (drop p (bits l)) q false h
    ∙ get_or-drop p (bits l) q false

-- the rows of a view have an office's signature at the office's place
row_signed : (places signers about : List ℕ) (count n q s b : ℕ) → count ≤ length signers → ((m : ℕ) → m < count → get_or signers m 0 < n)
    → n ≤ 32 → s < n → b < 256
    → in_set (get_or (view_in places (map (mirror n) signers) about count q) b 0) (n - 1 - s) ≡ signed_in places signers about count q s b
unfolding signers_in
row_signed places signers about count n q s b sent below few hs hb =
    ap (λ (x : ℕ). in_set x (n - 1 - s)) (view_entry places (map (mirror n) signers) about count q b hb)
    ∙ in_set_lem (λ k. signed_in places (map (mirror n) signers) about count q k b) (n - 1 - s) (omega arith)
    ∙ signed_mirror places signers about count n q s b sent below hs

module _ (r : Book) (z : Ranges r) where
  -- every signer is an office
  signers_below : (m : ℕ) → m < min r.count 1024 → get_or r.signers m 0 < r.n
  signers_below m l = (z.messages m (omega arith)).0

  -- every message that is counted has its entry
  all_sent : min r.count 1024 ≤ length r.signers
  all_sent = omega (arith, z.sizes.signers)

  -- the rows of a trusted office's view have an office's signature on a block at the office's place
  pub view_row : (q s b : ℕ) → trusted r q ≡ true → s < r.n → b < 256
      → in_set (get_or (view_in r.places (map (mirror r.n) r.signers) r.about (min r.count 1024) q) b 0) (r.n - 1 - s) ≡ signed r q s b
  view_row q s b t hs hb =
      row_signed r.places r.signers r.about _ r.n q s b all_sent signers_below z.counts.offices hs hb
      ∙ sym (signed_in_lem r z.counts.messages q s b t)

  -- and those of the history
  pub history_row : (s b : ℕ) → s < r.n → b < 256
      → in_set (get_or (view_in everywhere (map (mirror r.n) r.signers) r.about (min r.count 1024) 0) b 0) (r.n - 1 - s) ≡ ever_signed r s b
  unfolding ever_signed signed_in everywhere digit both
  history_row s b hs hb =
      let sent : min r.count 1024 ≡ r.count = omega (arith, z.counts.messages) in
      row_signed everywhere r.signers r.about _ r.n 0 s b all_sent signers_below z.counts.offices hs hb
      ∙ rw sent
      (any_same _ _ r.count (λ m l. rw (get_or-replicate {A = ℕ} 1024 m 18446744073709551615 0 (omega (arith, z.counts.messages)))))
