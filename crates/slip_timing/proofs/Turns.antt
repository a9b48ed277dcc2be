-- Laws of turns: each takes the whole slip, and writing a slip over itself changes no byte.
use Prim.Native.Nat.{ℕ, zero, suc, ◌*◌, ◌-◌, ◌≤◌, ◌<◌}
use mathlib.Core.Path.{◌≡◌, refl, sym, ap, ◌∙◌}
use mathlib.Core.Bool.{Bool, false}
use mathlib.Core.List.{List, [], ◌∷◌, ◌++◌, append-nil}
use mathlib.Core.Logic.{⊎_elim}
use native.Mathlib.Nat.{sub-zero, zero-add}
use native.Mathlib.Omega.{arith}
use borrow.Author.Tests.{eqb-true, ltb-false}
use lib.Dec.{eqb, ltb}
use lib.ListN.{length, take, drop, length-append}
use lib.Seq.{sets, sets-eq, take-length, drop-length, drop-append_seam}
use Rattle.words.specs.Tests.{choose}
use Rattle.words.specs.Refusals.{Refusal, ◌⇒◌}
use Rattle.words.proofs.Tests.{decided}
use Rattle.words.proofs.Clearing.{clear}
use Rattle.register.specs.declared.book.Book.{Book}
use Rattle.packed_log.specs.Bits.{bits, put}
use Rattle.packed_log.specs.Writing.{laid}
use Rattle.packed_log.proofs.BitsLaws.{length_bits, put_pack, length_put, bits_put}
use Rattle.slip.specs.declared.writing.Written.{Written}
use Rattle.slip.specs.Writing.{slip_bits, rule_tests, write_refusal, written, buffer_after}
use Rattle.skovarnek_slip.specs.Answers.{tells_written}

module _ (l : List ℕ) (start : ℕ) (first : start ≡ 0) where
  -- the part from the first byte on is the whole
  pub whole : take (length l - start) (drop start l) ≡ l
  whole = rw (first, sub-zero) (take-length l)

  -- and what stands in its place later is the whole then
  whole_after : (m : List ℕ) → take start l ++ (m ++ drop (length l - start) (drop start l)) ≡ m
  whole_after m = rw (first, sub-zero, drop-length l) (append-nil m)

-- a row laid a second time over the same bits changes none
sets_again : (r t : List Bool) → length t ≤ length r → sets (sets r 0 t) 0 t ≡ sets r 0 t
sets_again r t within =
    let rest : List Bool = drop (length t) r in
    let once : sets r 0 t ≡ t ++ rest = rw zero-add at (sets-eq t r 0 (omega arith)) in
    rw once (sets-eq t (t ++ rest) 0 (rw length-append (omega arith)) ∙ rw (zero-add, drop-append_seam t rest))

-- nor does it over a buffer
put_again : (l : List ℕ) (t : List Bool) → length t ≤ 8 * length l → put (put l 0 t) 0 t ≡ put l 0 t
put_again l t within =
    put_pack (put l 0 t) 0 t
    ∙ rw (length_put l 0 t, bits_put l 0 t, sets_again (bits l) t (rw length_bits within)) (sym (put_pack l 0 t))

module _ (r : Book) (q b : ℕ) where
  -- the tests of a call that writes
  abbrev writeTests : (l : List ℕ) → List Refusal
  writeTests l = rule_tests r q b ++ (ltb (8 * length l) (length (slip_bits r q b)) ⇒ 31) ∷ []

  -- a slip that is written a second time over itself changes no byte
  after_again : (l : List ℕ) → buffer_after r q b (buffer_after r q b l) ≡ buffer_after r q b l
  unfolding buffer_after laid choose
  after_again l =
      let t : List Bool = slip_bits r q b in
      ⊎_elim
      (λ none.
      let tests = clear (writeTests l) (eqb-true _ 0 none) in
      let room : length t ≤ 8 * length l = ltb-false _ _ tests.1.1.1.1.1.0 in
      rw (none, length_put l 0 t, none) (put_again l t room))
      (λ (some : eqb (write_refusal r q b l) 0 ≡ false). rw (some, some))
      (decided (eqb (write_refusal r q b l) 0))

  -- so writing it gives after any number of turns what it gave in the first
  after_same : (turn : ℕ) (l m : List ℕ) → (turn ≡ 0 → m ≡ l) → (0 < turn → m ≡ buffer_after r q b l) → buffer_after r q b m ≡ buffer_after r q b l
  after_same zero l m fresh later = ap (buffer_after r q b) (fresh refl)
  after_same (suc turn) l m fresh later = ap (buffer_after r q b) (later (omega arith)) ∙ after_again l

  module _ (l m : List ℕ) (start : ℕ) (first : start ≡ 0) where
    -- a turn over a buffer of the same length answers as the first
    pub turn_answer : (w : Written) → length m ≡ length l → w ≡ written r q b (take (length m - start) (drop start m))
        → tells_written w ≡ tells_written (written r q b l)
    unfolding written
    turn_answer w same e = ap tells_written (e ∙ rw (whole m start first, same))

    -- and leaves the buffer as the first did
    pub turn_buffer : (turn : ℕ) (part : List ℕ) → part ≡ buffer_after r q b (take (length m - start) (drop start m))
        → (turn ≡ 0 → m ≡ l) → (0 < turn → m ≡ buffer_after r q b l)
        → take start m ++ (part ++ drop (length m - start) (drop start m)) ≡ buffer_after r q b l
    turn_buffer turn part e fresh later = whole_after m start first part ∙ e ∙ rw (whole m start first) (after_same turn l m fresh later)
