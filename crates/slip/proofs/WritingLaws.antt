-- Laws of writing a slip: laying its rows from the newest on, the rows of a view as the bits that are due, and what a call gives.
use Prim.Native.Nat.{ℕ, zero, suc, ◌+◌, ◌*◌, ◌-◌, ◌/◌, ◌%◌, ◌≤◌, ◌<◌, min}
use mathlib.Core.Path.{◌≡◌, refl, sym, ap, ◌∙◌}
use mathlib.Core.Bool.{Bool, true, false}
use mathlib.Core.List.{List, [], ◌∷◌, ◌++◌, map, append_assoc, append-nil}
use native.Mathlib.Decide.{dec_lt}
use native.Mathlib.Nat.{mul-suc, mul-zero}
use native.Mathlib.Omega.{arith}
use borrow.Author.Tests.{le-leb, lt-ltb, le-ltb, ltb-false, ne_eqb, not-false}
use lib.Dec.{ltb}
use lib.ListN.{length, get_or, take, drop, replicate, length-append, length-take, length-replicate, take-append-drop, get_or-append}
use lib.Seq.{get_or_at, get_or-drop, ext_get_or, length-take-le}
use Rattle.std.specs.Prelude.{Result, Ok, Err}
use Rattle.refusals.specs.declared.Refusal.{Refusal}
use Rattle.refusals.specs.Numbers.{outcome}
use Rattle.words.specs.Tests.{choose, both}
use Rattle.words.specs.Digits.{in_set}
use Rattle.words.specs.Refusals.{◌⇒◌, first}
use Rattle.words.proofs.Clearing.{hold, clear}
use Rattle.words.proofs.Digits.{in_set_lem}
use Rattle.words.proofs.Refusals.{positive, first_before, first_behind}
use Rattle.words.proofs.Turns.{hit, skip, none as nothing}
use Rattle.tables.specs.Chains.{chain_by}
use Rattle.tables.specs.Searches.{view_in}
use Rattle.tables.proofs.Chains.{Down, parent_in_lt, chain_by_genesis, chain_by_step, climb_induction}
use Rattle.register.specs.declared.book.Book.{Book}
use Rattle.register.specs.Tables.{trusted, parent_of}
use Rattle.register.specs.Views.{signed, signs, signer_set}
use Rattle.register.specs.Chains.{chain}
use Rattle.register.specs.Refusals.{finalises}
use Rattle.register.specs.Fitness.{fit}
use Rattle.register.proofs.Chains.{chain_genesis, chain_step}
use Rattle.register.proofs.Ranges.{Ranges}
use Rattle.packed_log.specs.Bits.{Bytes, to_bits, put}
use Rattle.packed_log.specs.Fields.{there, with_field}
use Rattle.packed_log.specs.Writing.{office_bits, laid}
use Rattle.packed_log.proofs.BitRows.{length_to_bits, zero_bits}
use Rattle.packed_log.proofs.BitsLaws.{length_put, put_before, put_left}
use Rattle.packed_log.proofs.WritingLaws.{length_trust}
use Rattle.slip.specs.declared.writing.Written.{Written}
use Rattle.slip.specs.Slips.{bits_due}
use Rattle.slip.specs.Writing.{rows_bits, front_bits, slip_bits, rule_tests, write_refusal, written, buffer_after}
use Rattle.slip.specs.Rows.{mirror, rows_in}
use Rattle.slip.proofs.RowLaws.{bit_to_bits, view_row}

-- rows of n bits are n bits long each
length_rows_in : (rows : List ℕ) (n : ℕ) (blocks : List ℕ) → length (rows_in rows n blocks) ≡ n * length blocks
unfolding rows_in
length_rows_in rows n [] = rw mul-zero
length_rows_in rows n (newest ∷ older) = rw (length-append, length_to_bits, length_rows_in rows n older, mul-suc)

-- a field that is there is laid
field_laid : (l : List ℕ) (p w v : ℕ) → length l ≤ 65536 → w ≤ 32 → p + w ≤ 8 * length l → with_field l p w v ≡ put l p (to_bits w v)
unfolding with_field there choose
field_laid l p w v long narrow room =
    let all : there l p w ≡ true = hold _ (le-leb _ 65536 long, (le-leb w 32 narrow, (le-leb (p + w) _ room, tt))) in
    rw all

-- what laying a slip about block b asks for: at most 32 offices, so many bits before the pad, and just the bytes that these take
abbrev pub Due : (l : List ℕ) → (parent : ℕ → ℕ) → (n b due : ℕ) → Type 0
Due l parent n b due =
    (n ≤ 32) × (due ≡ 8 + n * length (chain_by parent b)) × (length l ≡ (due + 7) / 8) × (length l ≤ 65536)

-- the zero bits behind them
abbrev padding : (l : List ℕ) → (due : ℕ) → List Bool
padding l due = replicate (8 * length l - due) false

-- the pad is laid, and in front of it those rows of block b's chain that are newer than block `at`'s, which is to end at `end`
pub record Laid (l rows : List ℕ) (parent : ℕ → ℕ) (n b due : ℕ) (m : List ℕ) (end at : ℕ) : Type 0 where
  pub done : List Bool
  pub rest : rows_in rows n (chain_by parent b) ≡ rows_in rows n (chain_by parent at) ++ done
  pub place : end ≡ 8 + n * length (chain_by parent at)
  pub bytes : m ≡ put l end (done ++ padding l due)
  pub below : at ≤ b

module _ (l rows : List ℕ) (parent : ℕ → ℕ) (n b due : ℕ) (h : Due l parent n b due) where
  -- the pad has room, and is at most 7 bits long
  pad_fits : (due ≤ 8 * length l) × (8 * length l - due ≤ 7)
  pad_fits = (omega (arith, h.2), omega (arith, h.2))

  -- the pad is laid, and no row yet
  pub laid_pad : (m : List ℕ) → m ≡ with_field l due (8 * length l - due) 0 → Laid l rows parent n b due m due b
  laid_pad m e =
      record {
        done = [];
        rest = simp append-nil;
        place = h.1;
        bytes = e ∙ field_laid l due _ 0 h.3 (omega (arith, pad_fits.1)) (omega (arith, pad_fits)) ∙ ap (put l due) (zero_bits _);
        below = omega arith;
      }

  -- the rows that are left and those that are laid are all of the chain's
  laid_parts : {m : List ℕ} {end at : ℕ} (i : Laid l rows parent n b due m end at)
      → n * length (chain_by parent b) ≡ n * length (chain_by parent at) + length i.done
  laid_parts i = simp (length-append, length_rows_in) at (ap length i.rest)

  -- so those that are left end within the bytes
  laid_room : {m : List ℕ} {end at : ℕ} → Laid l rows parent n b due m end at → (end ≤ 8 * length l) × (length m ≡ length l)
  laid_room i = (omega (arith, laid_parts i, h.1, pad_fits.0, i.place), ap length i.bytes ∙ length_put _ _ _)

  -- a block above genesis has one row more than its parent's chain
  row_more : Down parent → {at : ℕ} → 0 < at → n * length (chain_by parent at) ≡ n * length (chain_by parent (parent at)) + n
  row_more down {at} above = rw (chain_by_step parent down at above, mul-suc)

  -- so that row has its room
  pub laid_next : Down parent → {m : List ℕ} {end at : ℕ} → 0 < at → Laid l rows parent n b due m end at → n ≤ end
  laid_next down above i = omega (arith, i.place, row_more down above)

  -- it is laid in front of the others
  pub laid_row : Down parent → {m m' : List ℕ} {end at : ℕ} → 0 < at → Laid l rows parent n b due m end at
      → m' ≡ with_field m (end - n) n (get_or rows at 0) → Laid l rows parent n b due m' (end - n) (parent at)
  unfolding rows_in
  laid_row down {m} {m'} {end} {at} above i e =
      let row : List Bool = to_bits n (get_or rows at 0) in
      let room : (end ≤ 8 * length l) × (length m ≡ length l) = laid_room i in
      let behind : end ≡ end - n + length row = rw length_to_bits (omega (arith, laid_next down above i)) in
      record {
        done = row ++ i.done;
        rest = i.rest ∙ rw (chain_by_step parent down at above, append_assoc);
        place = omega (arith, i.place, row_more down above);
        bytes = e
            ∙ field_laid m _ n _ (omega (arith, room.1, h.3)) h.0 (omega (arith, room, laid_next down above i))
            ∙ ap (λ (x : List ℕ). put x (end - n) row) (i.bytes ∙ ap (λ (p : ℕ). put l p (i.done ++ padding l due)) behind)
            ∙ put_before l (end - n) row _
            ∙ rw append_assoc;
        below = omega (arith, i.below, down at above);
      }

  -- the block's number is laid in front of all rows
  pub laid_all : {m m' : List ℕ} {end at : ℕ} → at ≡ 0 → Laid l rows parent n b due m end at → m' ≡ with_field m 0 8 b
      → m' ≡ put l 0 (to_bits 8 b ++ rows_in rows n (chain_by parent b) ++ padding l due)
  unfolding rows_in
  laid_all {m} {m'} {end} {at} foot i e =
      let none : chain_by parent at ≡ [] = rw (foot, chain_by_genesis parent) in
      let room : (end ≤ 8 * length l) × (length m ≡ length l) = laid_room i in
      let all : rows_in rows n (chain_by parent b) ≡ i.done = i.rest ∙ rw none in
      let eight : end ≡ 8 = i.place ∙ rw (none, mul-zero) in
      let front : end ≡ 0 + length (to_bits 8 b) = rw length_to_bits eight in
      e ∙ field_laid m 0 8 b (omega (arith, room.1, h.3)) (omega arith) (omega (arith, room, eight))
      ∙ rw (all, i.bytes, front, append_assoc) (put_before l 0 (to_bits 8 b) (i.done ++ padding l due))

-- office s's bit among the offices' bits
pub bit_office : (n set s : ℕ) → s < n → get_or (office_bits n set) s false ≡ in_set set s
unfolding office_bits
bit_office zero set s h = absurd (omega arith)
bit_office (suc n) set s h =
    elim (dec_lt s n) as (λ _. get_or (office_bits n set ++ (in_set set n ∷ [])) s false ≡ in_set set s) [
      | yes l ↦ get_or-append (office_bits n set) _ false s (rw length_trust l) ∙ bit_office n set s l
      | no past ↦ let last : s ≡ n = omega arith in
          rw last (get_or_at (office_bits n set) (in_set set n) [] false n (length_trust n set))
    ]

module _ (r : Book) (q : ℕ) where
  -- office s's bit in the word of a block's signers
  pub signer_bit : (x s : ℕ) → r.n ≤ 32 → s < r.n → in_set (signer_set r q x) s ≡ signed r q s x
  unfolding signer_set both
  signer_bit x s few h = in_set_lem (signs r q x) s (omega arith) ∙ rw (lt-ltb s r.n h)

  -- the rows of some blocks are n bits long each
  pub length_rows : (blocks : List ℕ) → length (rows_bits r q blocks) ≡ r.n * length blocks
  unfolding rows_bits
  length_rows [] = rw mul-zero
  length_rows (newest ∷ older) = rw (length-append, length_trust, length_rows older, mul-suc)

  -- what stands before the pad is as long as is due
  pub length_front : (b : ℕ) → length (front_bits r q b) ≡ bits_due r b
  unfolding front_bits
  length_front b = rw (length-append, length_to_bits, length_rows)

  -- the pad fills the last byte
  pub length_slip : (b : ℕ) → length (slip_bits r q b) ≡ 8 * ((bits_due r b + 7) / 8)
  unfolding slip_bits
  length_slip b = rw (length-append, length-replicate, length_front) (omega arith)

-- laying a row over the first bytes of a buffer is laying it over the buffer
put_front : (l : List ℕ) (k : ℕ) (t : List Bool) → Bytes l → k ≤ length l → length t ≤ 8 * k → put (take k l) 0 t ++ drop k l ≡ put l 0 t
put_front l k t h within room =
    let few : 0 + length t ≤ 8 * length (take k l) = simp length-take (omega arith) in
    sym (put_left (take k l) (drop k l) 0 t (λ i. rw get_or-drop (h (k + i))) few) ∙ rw (take-append-drop k l)

module _ (r : Book) (z : Ranges r) (q : ℕ) (t : trusted r q ≡ true) where
  -- the rows of the office's view, as words
  abbrev rows_of : List ℕ
  rows_of = view_in r.places (map (mirror r.n) r.signers) r.about (min r.count 1024) q

  -- a row's bits are the offices' bits in the word of the block's signers
  row_bits_lem : (x : ℕ) → x < 256 → to_bits r.n (get_or rows_of x 0) ≡ office_bits r.n (signer_set r q x)
  row_bits_lem x l =
      ext_get_or false _ _ (length_to_bits r.n _ ∙ sym (length_trust r.n _))
      (λ s k.
      let office : s < r.n = rw length_to_bits at k in
      bit_to_bits r.n _ s office
      ∙ view_row r z q s x t office l
      ∙ sym (signer_bit r q x s z.counts.offices office)
      ∙ sym (bit_office r.n _ s office))

  -- so are those of a whole chain
  rows_bits_lem : (b : ℕ) → b < 256 → rows_in rows_of r.n (chain r b) ≡ rows_bits r q (chain r b)
  unfolding rows_in rows_bits
  rows_bits_lem =
      climb_induction (parent_of r) (parent_in_lt r.parents r.last.0)
      (λ (b : ℕ). b < 256 → rows_in rows_of r.n (chain r b) ≡ rows_bits r q (chain r b))
      (λ l. rw (chain_genesis r))
      (λ b h ih l. rw (chain_step r b h, row_bits_lem b l, ih (omega (arith, parent_in_lt r.parents r.last.0 b h))))

  -- what is laid is the slip
  slip_bits_lem : (b size due : ℕ) → b < 256 → due ≡ bits_due r b → size ≡ (due + 7) / 8
      → to_bits 8 b ++ rows_in rows_of r.n (chain r b) ++ replicate (8 * size - due) false ≡ slip_bits r q b
  unfolding slip_bits front_bits
  slip_bits_lem b size due small measured sized =
      let pad : 8 * size - due ≡ (8 - length (front_bits r q b) % 8) % 8 = rw (length_front r q b) (omega arith) in
      rw (rows_bits_lem b small, pad)

  -- laying it over the first bytes of a buffer is laying it over the buffer
  pub slip_over : (b size due : ℕ) (l rows part : List ℕ) → b < 256 → Bytes l → rows ≡ rows_of → due ≡ bits_due r b → size ≡ (due + 7) / 8
      → size ≤ length l
      → part ≡ put (take size l) 0 (to_bits 8 b ++ rows_in rows r.n (chain r b) ++ replicate (8 * length (take size l) - due) false)
      → part ++ drop size l ≡ put l 0 (slip_bits r q b)
  slip_over b size due l rows part small h seen measured sized within e =
      rw (e, seen, length-take-le size l within, slip_bits_lem b size due small measured sized)
      (put_front l size (slip_bits r q b) h within (omega (arith, length_slip r q b)))

-- what the rule's tests say where none of them refuses
pub record Allowed (r : Book) (q b : ℕ) : Type 0 where
  pub fits : fit r ≡ true
  pub made : b ≤ r.last.0
  pub trusts : trusted r q ≡ true
  pub final : finalises r q b ≡ true

-- so says a refusal of 0
pub allowed : (r : Book) (q b : ℕ) → first (rule_tests r q b) ≡ 0 → Allowed r q b
allowed r q b none =
    let tests = clear (rule_tests r q b) none in
    record {
      fits = not-false _ tests.0;
      made = ltb-false _ _ tests.1.1.0;
      trusts = not-false _ tests.1.1.1.0;
      final = not-false _ tests.1.1.1.1.0;
    }

-- an outcome that is no refusal has the number 0
pub not_refused : (o : Result Unit Refusal) → ((refusal : Refusal) → o ≡ Err refusal → ⊥) → outcome o ≡ 0
not_refused (Ok done) other = refl
not_refused (Err refusal) other = absurd (other refusal refl)

module _ (r : Book) (q b : ℕ) (l : List ℕ) where
  -- what a call of the writer promises: its answer, the buffer after it, and the most bytes that a slip takes
  abbrev Promised : (m : List ℕ) → Written → Type 0
  Promised m answer = (answer ≡ written r q b l) × (m ≡ buffer_after r q b l) × (answer.length ≤ 1021)

  -- the buffer ends before the slip would
  abbrev short : Bool
  short = ltb (8 * length l) (length (slip_bits r q b))

  -- a refusal gives no length and changes no byte
  call_refused : (k : ℕ) → k ≡ write_refusal r q b l → (k ≡ 0 → ⊥) → Promised l (record { refusal = k; length = 0 })
  unfolding written buffer_after laid choose
  call_refused k e some = rw (← e, ne_eqb k 0 some) (refl, refl, omega arith)

  module _ (k : ℕ) (e : k ≡ first (rule_tests r q b)) where
    -- the rule refuses before the buffer is looked at
    pub slip_refused : (k ≡ 0 → ⊥) → Promised l (record { refusal = k; length = 0 })
    slip_refused some = call_refused k (e ∙ sym (first_before (rule_tests r q b) _ (λ none. some (e ∙ none)))) some

    -- where it does not, the buffer decides
    pub by_room : k ≡ 0 → write_refusal r q b l ≡ first ((short ⇒ 31) ∷ [])
    unfolding positive both
    by_room none = first_behind (rule_tests r q b) _ refl (sym e ∙ none)

    -- it is too short
    pub slip_short : k ≡ 0 → length l < (bits_due r b + 7) / 8 → Promised l (record { refusal = 31; length = 0 })
    slip_short none few =
        let less : short ≡ true = lt-ltb (8 * length l) (length (slip_bits r q b)) (omega (arith, length_slip r q b)) in
        call_refused 31 (hit _ 31 [] less ∙ sym (by_room none)) (λ h. omega arith)

    -- it is long enough
    pub slip_laid : (size : ℕ) (m : List ℕ) → k ≡ 0 → size ≡ (bits_due r b + 7) / 8 → size ≤ length l → size ≤ 1021 → m ≡ put l 0 (slip_bits r q b)
        → Promised m (record { refusal = k; length = size })
    unfolding written buffer_after laid choose
    slip_laid size m none sized within few h =
        let enough : short ≡ false = le-ltb (8 * length l) (length (slip_bits r q b)) (omega (arith, length_slip r q b)) in
        let clear : write_refusal r q b l ≡ 0 = by_room none ∙ sym (skip _ 0 31 [] enough nothing) in
        let long : size ≡ length (slip_bits r q b) / 8 = omega (arith, length_slip r q b) in
        (rw (clear, none, long), rw clear h, few)
