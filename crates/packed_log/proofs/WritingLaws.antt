-- Laws of what the writer lays over a buffer: rows, openings, ends, and what its calls give.
use Prim.Native.Nat.{ℕ, zero, suc, ◌+◌, ◌*◌, ◌-◌, ◌%◌, ◌^◌, ◌≤◌, ◌<◌}
use mathlib.Core.Path.{◌≡◌, refl, sym, ◌∙◌}
use mathlib.Core.Bool.{Bool, true, false}
use mathlib.Core.List.{List, [], ◌∷◌, ◌++◌, append_assoc, append-nil}
use native.Mathlib.Nat.{add_assoc, zero-mul, mul-le-mul_right, mod-eq_of_lt}
use native.Mathlib.{Numerals.add-one, Omega.arith}
use borrow.Author.Tests.{ltb-false, ne_eqb}
use lib.{Dec.leb, Dec.ltb, Pow.pow-add, Pow.pow_mono, Pow.pow_pos, Seq.length-take-le, Seq.take-suc}
use lib.ListN.{length, length-append, length-replicate, get_or, take}
use Rattle.std.proofs.Common.{Result, Err}
use Rattle.refusals.specs.declared.Refusal.{Refusal as Refused}
use Rattle.refusals.specs.Numbers.{number_of}
use Rattle.refusals.proofs.Numbers.{number_some}
use Rattle.words.specs.Tests.{any, choose, both, either}
use Rattle.words.specs.Refusals.{◌⇒◌, first, Refusal}
use Rattle.words.specs.Digits.{digit}
use Rattle.words.proofs.{Digits.digit_lt}
use Rattle.words.proofs.Refusals.{positive, Clear, first_clear, first_before, first_behind}
use Rattle.quorum.specs.Opening.{opening_tests, opening_refusal}
use Rattle.packed_log.specs.{Rows.Row, declared.writing.Wrote.Wrote, Bits.to_bits, Bits.put, Rows.Narrow}
use Rattle.packed_log.specs.Widths.{kinds, width, due}
use Rattle.packed_log.specs.Writing.{office_bits, leader_bits, opening_bits, row_bits, end_bits, wide, room, short, HasRoom, no_room, row_refused, end_refused, wrote, wrote_by, laid, opening_refused}
use Rattle.packed_log.proofs.BitRows.{length_to_bits, zero_bits, join_bits, bit_row}
use Rattle.packed_log.proofs.{BitsLaws.put_put, RowLaws.narrow, RowLaws.ahead, RowLaws.of_list}

-- what is laid where the row before it ends
pub put_next : (l : List ℕ) (p : ℕ) (t u : List Bool) (q : ℕ) → q ≡ p + length t → put (put l p t) q u ≡ put l p (t ++ u)
put_next l p t u q e = rw e (put_put l p t u)

-- three tests and a fourth, joined from either side
either_four : (a b c d : Bool) → either (either (either a b) c) d ≡ either a (either b (either c d))
unfolding either
either_four true b c d = refl
either_four false true c d = refl
either_four false false c d = refl

-- the tests of the four columns are one test of each
pub wide_any : (kind : ℕ) (fields : List ℕ) → any 4 (λ k. leb (2 ^ width kind k) (get_or fields k 0)) ≡ wide (of_list kind fields)
unfolding wide any
wide_any kind fields =
    unfold either in either_four (leb (2 ^ width kind 0) (get_or fields 0 0)) (leb (2 ^ width kind 1) (get_or fields 1 0)) (leb (2 ^ width kind 2) (get_or fields 2 0)) (leb (2 ^ width kind 3) (get_or fields 3 0))

-- the bits of a kind and of the columns before one
unfoldable pub front_bits : (kind : ℕ) → List ℕ → (column : ℕ) → List Bool
front_bits kind fields zero = to_bits 4 kind
front_bits kind fields (suc c) = front_bits kind fields c ++ to_bits (width kind c) (get_or fields c 0)

length_front : (kind : ℕ) (fields : List ℕ) (column : ℕ) → length (front_bits kind fields column) ≡ 4 + ahead kind column
unfolding front_bits ahead
length_front kind fields zero = length_to_bits 4 kind
length_front kind fields (suc c) = rw (length-append, length_front kind fields c, length_to_bits) (add_assoc 4 (ahead kind c) (width kind c))

-- those of all columns are the row
pub front_all : (kind : ℕ) (fields : List ℕ) → front_bits kind fields 4 ≡ row_bits (of_list kind fields)
unfolding front_bits row_bits
front_all kind fields = simp append_assoc

-- a kind and its first field, as one number, are laid
pub put_head : (l m : List ℕ) (p kind w head : ℕ) (fields : List ℕ) → w ≡ width kind 0 → head ≡ kind * 2 ^ w + get_or fields 0 0 → get_or fields 0 0 < 2 ^ w
    → m ≡ put l p (to_bits (4 + w) head) → m ≡ put l p (front_bits kind fields 1)
unfolding front_bits
put_head l m p kind w head fields e joined small h = rw (h, joined, join_bits 4 w kind (get_or fields 0 0) small, ← e)

-- a loop's next turn: the columns before one are laid, and now this one
pub next_column : (l m m' : List ℕ) (p kind column w : ℕ) (fields : List ℕ) → m ≡ put l p (front_bits kind fields column) → w ≡ width kind column
    → m' ≡ put m (p + 4 + ahead kind column) (to_bits w (get_or fields column 0)) → m' ≡ put l p (front_bits kind fields (column + 1))
unfolding front_bits
next_column l m m' p kind column w fields before e written =
    written ∙ rw (before, e, add-one)
    (put_next l p (front_bits kind fields column) (to_bits (width kind column) (get_or fields column 0)) (p + 4 + ahead kind column) (rw length_front (add_assoc p 4 (ahead kind column))))

-- a kind with a first field of at most ten bits has room in 16 bits, and in those of both
pub head_fits : (k w x : ℕ) → k < kinds → w ≤ 10 → x < 2 ^ w
    → (k * 2 ^ w % 65536 + x ≡ k * 2 ^ w + x) × (k * 2 ^ w + x < 2 ^ (4 + w)) × (k * 2 ^ w + x < 65536)
head_fits k w x h narrow small =
    let y : ℕ = 2 ^ w in
    let all : 2 ^ (4 + w) ≡ 16 * y = pow-add 2 4 w in
    let most : k * y ≤ 15 * y = mul-le-mul_right y (omega arith) in
    let few : y ≤ 1024 = pow_mono {j = 10} narrow in
    let whole : k * y % 65536 ≡ k * y = mod-eq_of_lt (omega arith) in
    (rw whole, rw all (omega arith), omega arith)

-- a row takes 4 bits for its kind, and those that are due for its fields
pub length_row : (r : Row) → length (row_bits r) ≡ 4 + due r.kind
unfolding row_bits
length_row r = simp (length-append, length_to_bits) (omega arith)

-- n trust bits are n long
pub length_trust : (n trust : ℕ) → length (office_bits n trust) ≡ n
unfolding office_bits
length_trust zero trust = refl
length_trust (suc n) trust = rw (length-append, length_trust n trust) (add-one n)

-- a leader takes 5 bits
pub length_leaders : (schedule : List ℕ) → length (leader_bits schedule) ≡ 5 * length schedule
unfolding leader_bits
length_leaders [] = refl
length_leaders (q ∷ schedule) = rw (length-append, length_to_bits, length_leaders schedule) (omega arith)

-- an opening takes 15 bits, one for each office and 5 for each leader
pub length_opening : (n trust : ℕ) (schedule : List ℕ) → length (opening_bits n trust schedule) ≡ 15 + n + 5 * length schedule
unfolding opening_bits
length_opening n trust schedule = simp (length-append, length_to_bits, length_trust, length_leaders) (omega arith)

-- the end takes four bits for its kind, and those to the byte's end
pub length_end : (p : ℕ) → length (end_bits p) ≡ 4 + (8 - (p + 4) % 8) % 8
unfolding end_bits
length_end p = simp (length-append, length_to_bits, length-replicate)

-- the end is a row of zero bits
pub end_zero : (p w : ℕ) → w ≡ length (end_bits p) → to_bits w 0 ≡ end_bits p
unfolding end_bits
end_zero p w e =
    let k : ℕ = (8 - (p + 4) % 8) % 8 in
    let joined : to_bits (4 + k) 0 ≡ to_bits 4 0 ++ to_bits k 0 = rw zero-mul at (join_bits 4 k 0 0 (pow_pos k)) in
    rw (e, length_end p, joined, zero_bits k)

-- what has room ends within the buffer, at a position below 2^64
pub has_room : (l : List ℕ) (p size left : ℕ) → 0 < size → left ≡ room l p → size ≤ left → HasRoom l p size
has_room l p size left some measured h = omega arith

-- what the tests of a row say where nothing is refused
pub row_clear : (l : List ℕ) (p : ℕ) (r : Row) → row_refused l p r ≡ 0 → Narrow r × HasRoom l p (4 + due r.kind)
unfolding row_refused Clear positive both
row_clear l p r none =
    let tests : Clear ((wide r ⇒ 9) ∷ (short l p (row_bits r) ⇒ 31) ∷ []) = first_clear _ refl none in
    let enough : length (row_bits r) ≤ room l p = ltb-false (room l p) (length (row_bits r)) tests.1.0 in
    (narrow r tests.0, has_room l p (4 + due r.kind) _ (omega arith) refl (rw length_row at enough))

-- a row that is not too wide and has room is not refused
pub row_fits : (l : List ℕ) (p : ℕ) (r : Row) → wide r ≡ false → short l p (row_bits r) ≡ false → row_refused l p r ≡ 0
unfolding row_refused first choose
row_fits l p r slim enough = rw (slim, enough)

-- only the buffer refuses the end
pub end_room : (l : List ℕ) (p : ℕ) → end_refused l p ≡ first ((short l p (end_bits p) ⇒ 31) ∷ [])
unfolding end_refused
end_room l p = refl

-- what a call of the writer promises: its answer, and the buffer after it
abbrev Promised : (l m : List ℕ) → (answer : Wrote) → (refusal p : ℕ) → List Bool → Type 0
Promised l m answer refusal p t = (answer ≡ wrote refusal p t) × (m ≡ laid l refusal p t)

-- a refusal gives the position that the call was given and changes no bit
pub call_refused : (l : List ℕ) (p k refusal : ℕ) (t : List Bool) → k ≡ refusal → (k ≡ 0 → ⊥) → Promised l l (record { refusal = k; next = p }) refusal p t
unfolding wrote laid choose
call_refused l p k refusal t e some = rw (← e, ne_eqb k 0 some) (refl, refl)

-- the same, of a call that left by `?` with that refusal
pub call_left : (l : List ℕ) (p refusal : ℕ) (t : List Bool) (r : Result ℕ Refused) (y : Refused) → r ≡ Err y → number_of y ≡ refusal
    → Promised l l (wrote_by r p) refusal p t
call_left l p refusal t r y e same = rw e (call_refused l p (number_of y) refusal t same (number_some y))

-- else the bits are laid, and the next position stands behind them
pub call_laid : (l m : List ℕ) (p next k refusal : ℕ) (t : List Bool) → k ≡ refusal → k ≡ 0 → next ≡ p + length t → m ≡ put l p t
    → Promised l m (record { refusal = k; next = next }) refusal p t
unfolding wrote laid choose
call_laid l m p next k refusal t e none behind h = rw (← e, none, behind) (refl, h)

-- bits that were not refused for want of room have room
pub enough_room : (l : List ℕ) (p size : ℕ) → 0 < size → 0 ≡ no_room l p size → HasRoom l p size
unfolding first choose
enough_room l p size some none = has_room l p size (room l p) some refl (no_less (ltb (room l p) size) refl (sym none))
  where
    no_less : (t : Bool) → ltb (room l p) size ≡ t → first ((t ⇒ 31) ∷ []) ≡ 0 → size ≤ room l p
    no_less true e h = absurd (omega arith)
    no_less false e h = ltb-false (room l p) size e

-- a loop's next turn: the trust bits of the offices below q are laid, and now that of office q
pub next_trust_bit : (l m m' : List ℕ) (p q trust d : ℕ) → m ≡ put l p (office_bits q trust) → d ≡ digit 2 trust q
    → m' ≡ put m (p + q) (to_bits 1 d) → m' ≡ put l p (office_bits (q + 1) trust)
unfolding office_bits
next_trust_bit l m m' p q trust d before e written =
    written ∙ rw (before, e, add-one, ← bit_row (digit 2 trust q) (digit_lt 2 trust q (omega arith)))
    (put_next l p (office_bits q trust) (to_bits 1 (digit 2 trust q)) (p + q) (rw length_trust))

-- the bits of a schedule with one leader more
leaders_snoc : (schedule : List ℕ) (q : ℕ) → leader_bits (schedule ++ (q ∷ [])) ≡ leader_bits schedule ++ to_bits 5 q
unfolding leader_bits
leaders_snoc [] q = append-nil (to_bits 5 q)
leaders_snoc (x ∷ schedule) q = rw (leaders_snoc schedule q, append_assoc)

-- a loop's next turn: the first i leaders are laid, and now the next
pub next_leader_bits : (l m m' : List ℕ) (p i : ℕ) (schedule : List ℕ) → i < length schedule → m ≡ put l p (leader_bits (take i schedule))
    → m' ≡ put m (p + 5 * i) (to_bits 5 (get_or schedule i 0)) → m' ≡ put l p (leader_bits (take (i + 1) schedule))
next_leader_bits l m m' p i schedule h before written =
    let long : length (leader_bits (take i schedule)) ≡ 5 * i = rw (length_leaders, length-take-le i schedule (omega arith)) in
    written ∙ rw (before, add-one, take-suc schedule i 0 h, leaders_snoc)
    (put_next l p (leader_bits (take i schedule)) (to_bits 5 (get_or schedule i 0)) (p + 5 * i) (rw long))

-- n, the trust bits, the length and the leaders, laid one behind the other, are the opening
pub put_opening : (l : List ℕ) (p n trust : ℕ) (schedule : List ℕ) (l1 l2 l3 l4 : List ℕ)
    → l1 ≡ put l p (to_bits 6 n) → l2 ≡ put l1 (p + 6) (office_bits n trust)
    → l3 ≡ put l2 (p + 6 + n) (to_bits 9 (length schedule)) → l4 ≡ put l3 (p + 6 + n + 9) (leader_bits schedule)
    → l4 ≡ put l p (opening_bits n trust schedule)
unfolding opening_bits
put_opening l p n trust schedule l1 l2 l3 l4 e1 e2 e3 e4 =
    rw (e4, e3, e2, e1) (simp (put_next, length-append, length_to_bits, length_trust, add_assoc, append_assoc))

module _ (l : List ℕ) (p n trust : ℕ) (schedule : List ℕ) where
  -- the test of the buffer, which stands behind those of the opening
  abbrev pub last : List Refusal
  last = (short l p (opening_bits n trust schedule) ⇒ 31) ∷ []

  -- an opening that the register refuses is refused with its number
  pub opening_bad : (refusal : ℕ) → refusal ≡ opening_refusal n trust schedule → (refusal ≡ 0 → ⊥) → refusal ≡ opening_refused l p n trust schedule
  unfolding opening_refused opening_refusal
  opening_bad refusal same bad = same ∙ sym (first_before (opening_tests n trust schedule) last (λ none. bad (same ∙ none)))

  -- for one that it does not refuse, the buffer decides
  pub opening_room : opening_refusal n trust schedule ≡ 0 → opening_refused l p n trust schedule ≡ first last
  unfolding opening_refused opening_refusal positive both
  opening_room none = first_behind (opening_tests n trust schedule) last refl none
