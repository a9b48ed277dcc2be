-- Items: the three outcomes of what stands at a position; a step or the end that stands there is read there, and what is read there stands there.
use Prim.Native.Nat.{ℕ, zero, suc, ◌+◌, ◌*◌, ◌≤◌, ◌<◌, ◌-◌, ◌%◌}
use mathlib.Core.Path.{◌≡◌, refl, sym, ◌∙◌}
use mathlib.Core.Bool.{true, false, not, Bool}
use mathlib.Core.List.{List, [], ◌++◌, append_assoc, append-nil}
use native.Mathlib.Omega.{arith}
use borrow.Author.Tests.{ltb-false, leb-false, eqb-true, not-false, eq-eqb, ne_eqb, ltb-true, lt-ltb, le-ltb}
use lib.Dec.{eqb, eqb-suc-zero, ltb, T}
use lib.ListN.{length, drop, length-append, drop_of_length-le}
use lib.Pow.{pow_pos}
use Rattle.words.specs.{Tests.choose, Tests.both, Refusals.first}
use Rattle.words.proofs.Tests.{both_false, both_fails, both_left, both_right}
use Rattle.words.proofs.Turns.{turns}
use Rattle.words.proofs.Refusals.{positive, Clear, first_clear}
use Rattle.register.specs.declared.step.Step.{Step}
use Rattle.packed_log.specs.declared.{item.Read.Read, item.Item.Item}
use Rattle.packed_log.specs.declared.item.Item.TheVariants as items
use Rattle.packed_log.specs.Bits.{num, field, to_bits, bits}
use Rattle.packed_log.specs.Widths.{kinds, fields, width, due}
use Rattle.packed_log.specs.Rows.{Row, row_of, step_of, Narrow}
use Rattle.packed_log.specs.Items.{left, kind_at, row_at, padded, item_tests, refusal_at, Skipped, skipped, skipped_at, read, with_fields, item_at, numbers, numbers_at}
use Rattle.packed_log.specs.Writing.{row_bits, step_bits, end_bits, wide}
use Rattle.packed_log.proofs.{Judging.judging, BitsLaws.field_lt, BitsLaws.length_bits, BitRows.zero_bits}
use Rattle.packed_log.proofs.RowLaws.{row_step, step_row, narrow}
use Rattle.packed_log.proofs.WritingLaws.{length_row, length_end}
use Rattle.packed_log.proofs.Standing.{Stands, left_stands, value_read, stands_field}

-- what the tests of an item say where nothing is refused
pub record Whole (log : List ℕ) (p : ℕ) : Type 0 where
  pub small : length log ≤ 65536
  pub head : 4 ≤ left log p
  pub known : kind_at log p < kinds
  pub fields : due (kind_at log p) ≤ left log (p + 4)
  pub pad : kind_at log p ≡ 0 → padded log (p + 4) ≡ true

module _ (log : List ℕ) (p : ℕ) where
  -- nothing is refused where they say it
  pub unrefused : Whole log p → refusal_at log p ≡ 0
  unrefused whole =
      let k : ℕ = kind_at log p in
      let last : both (eqb k 0) (not (padded log (p + 4))) ≡ false = both_fails (eqb k 0) _ (λ none. rw (whole.pad (eqb-true k 0 none))) in
      let none : 0 ≡ refusal_at log p = search turns depth 12 in
      sym none

  -- and only there
  pub whole : refusal_at log p ≡ 0 → Whole log p
  unfolding Clear positive both
  whole none =
      let k : ℕ = kind_at log p in
      let tests : Clear (item_tests log p k) = first_clear (item_tests log p k) refl none in
      let last : k ≡ 0 → padded log (p + 4) ≡ true = λ end. not-false (padded log (p + 4)) (both_false (eqb k 0) _ tests.1.1.1.1.0 (eq-eqb k 0 end)) in
      search (ltb-false, leb-false)

  module _ (good : Whole log p) where
    -- the end that stands at position p
    pub end_item : kind_at log p ≡ 0 → item_at log p ≡ read items.End (8 * length log)
    unfolding item_at skipped_at with_fields choose
    end_item none = rw (unrefused good, none)

    -- the step that stands there
    pub step_item : 0 < kind_at log p
        → item_at log p ≡ read (items.Step (step_of (row_at log (kind_at log p) (p + 4)))) (p + 4 + due (kind_at log p))
    unfolding item_at skipped_at with_fields choose
    step_item some =
        let step : eqb (kind_at log p) 0 ≡ false = ne_eqb (kind_at log p) 0 (omega arith) in
        rw (unrefused good) (simp step)

-- For `search skipping`: what is refused is skipped with its number, before a kind is read, and by the kind that was read
pub refused_at : (log : List ℕ) (p number : ℕ) → number ≡ refusal_at log p → T (ltb 0 number) → skipped 0 number p ≡ skipped_at log p
unfolding skipped_at choose
refused_at log p number same some = rw (← same, ne_eqb number 0 (λ none. rw none at some))

pub refused_by : (log : List ℕ) (p kind number : ℕ) → kind ≡ kind_at log p → number ≡ first (item_tests log p kind) → T (ltb 0 number)
    → skipped 0 number p ≡ skipped_at log p
refused_by log p kind number read same some = refused_at log p number (rw (← read) same) some

-- a step is refused by nothing behind it
pub not_ended : (kind : ℕ) (b : Bool) → (kind ≡ 0 → ⊥) → both (eqb kind 0) b ≡ false
unfolding both
not_ended kind b step = rw (ne_eqb kind 0 step)

-- where there is room for the kind, no bit of it is missing
pub kind_there : (total p : ℕ) → p + 4 ≤ total → ltb (total - p) 4 ≡ false
kind_there total p h = le-ltb (total - p) 4 (omega arith)

pub ruleset skipping = (judging, not_ended, kind_there, refused_at, refused_by, tt)

-- 29 or the end, by the pad, as a refusal or none
by_pad : (log : List ℕ) (p : ℕ) (pad : Bool)
    → (let number : ℕ = choose (not pad) 29 0 in
    choose pad (skipped 0 0 (8 * length log)) (skipped 0 29 p) ≡ choose (eqb number 0) (skipped 0 0 (8 * length log)) (skipped 0 number p))
unfolding choose
by_pad log p true = refl
by_pad log p false = refl

-- where the end stands, what stands behind it decides
pad_decides : (log : List ℕ) (p : ℕ) → kind_at log p ≡ 0 → length log ≤ 65536 → p + 4 ≤ 8 * length log → (pad : Bool) → padded log (p + 4) ≡ pad
    → choose pad (skipped 0 0 (8 * length log)) (skipped 0 29 p) ≡ skipped_at log p
unfolding skipped_at choose both first width fields
pad_decides log p end small head pad e =
    let none-due : due (kind_at log p) ≡ 0 = rw end in
    let there : ltb (left log (p + 4)) (due (kind_at log p)) ≡ false = le-ltb (left log (p + 4)) (due (kind_at log p)) (omega arith) in
    rw (le-ltb 65536 (length log) small, kind_there (8 * length log) p head, there, end, e) (by_pad log p pad)

-- the end is refused by its pad alone
pub ended_by : (log : List ℕ) (p kind : ℕ) → kind ≡ kind_at log p → p + 4 ≤ 8 * length log → length log ≤ 65536 → kind ≡ 0
    → choose (padded log (p + 4)) (skipped 0 0 (8 * length log)) (skipped 0 29 p) ≡ skipped_at log p
ended_by log p kind read head small end = pad_decides log p (rw (← read) end) small head (padded log (p + 4)) refl

-- what is neither refused nor the end is a step
pub stepped_by : (log : List ℕ) (p kind size : ℕ) → kind ≡ kind_at log p → 0 ≡ first (item_tests log p kind) → (kind ≡ 0 → ⊥) → size ≡ due kind
    → skipped kind 0 (p + 4 + size) ≡ skipped_at log p
unfolding skipped_at choose
stepped_by log p kind size read none step long = rw (← read, ← none, ne_eqb kind 0 step, long)

-- the three outcomes of what stands at position p
pub data Outcome (log : List ℕ) (p : ℕ) : Skipped → Type 0 where
  refused : (number : ℕ) → 0 < number → Outcome log p (skipped 0 number p)
  ended : Whole log p → kind_at log p ≡ 0 → Outcome log p (skipped 0 0 (8 * length log))
  stepped : Whole log p → 0 < kind_at log p → Outcome log p (skipped (kind_at log p) 0 (p + 4 + due (kind_at log p)))

-- there are no others
by_kind : (log : List ℕ) (p kind : ℕ) → kind_at log p ≡ kind → Whole log p
    → Outcome log p (choose (eqb (kind_at log p) 0) (skipped 0 0 (8 * length log)) (skipped (kind_at log p) 0 (p + 4 + due (kind_at log p))))
unfolding choose
by_kind log p zero e whole = rw (eq-eqb (kind_at log p) 0 e) (ended whole e)
by_kind log p (suc k) e whole = rw (ne_eqb (kind_at log p) 0 (omega arith)) (stepped whole (omega arith))

by_refusal : (log : List ℕ) (p refusal : ℕ) → refusal_at log p ≡ refusal → Outcome log p (skipped_at log p)
unfolding skipped_at choose
by_refusal log p zero e = rw (eq-eqb (refusal_at log p) 0 e) (by_kind log p (kind_at log p) refl (whole log p e))
by_refusal log p (suc k) e = rw (ne_eqb (refusal_at log p) 0 (omega arith)) (refused (refusal_at log p) (omega arith))

pub outcome : (log : List ℕ) (p : ℕ) → Outcome log p (skipped_at log p)
outcome log p = by_refusal log p (refusal_at log p) refl

-- the numbers of a row that is read have room in their columns
pub narrow_row : (log : List ℕ) (p kind : ℕ) → Narrow (row_at log kind p)
unfolding row_at
narrow_row log p k = search field_lt

-- a step that is read has the row that it was read from
pub same_row : (log : List ℕ) (p : ℕ) → Whole log p → 0 < kind_at log p → row_of (step_of (row_at log (kind_at log p) (p + 4))) ≡ row_at log (kind_at log p) (p + 4)
unfolding row_at
same_row log p whole some = row_step (row_at log (kind_at log p) (p + 4)) (narrow_row log (p + 4) (kind_at log p)) some whole.known

-- the numbers of an item are those that stand where it was skipped
numbers_by : (log : List ℕ) (p : ℕ) (x : Skipped) → Outcome log p x
    → numbers (with_fields log p x) ≡ record { refusal = x.refusal; row = row_at log x.kind (p + 4) }
unfolding numbers with_fields choose row_at width fields field num
numbers_by log p _ (refused zero some) = elim some [ ]
numbers_by log p x (refused (suc k) some) = rw eqb-suc-zero
numbers_by log p x (ended whole none) = refl
numbers_by log p x (stepped whole some) = rw (ne_eqb (kind_at log p) 0 (omega arith), same_row log p whole some)

pub item_numbers : (log : List ℕ) (p : ℕ) → numbers (item_at log p).item ≡ numbers_at log p
unfolding item_at
item_numbers log p = numbers_by log p (skipped_at log p) (outcome log p)

-- what was skipped, with its fields, is the item, and has its numbers
pub item_read : (log : List ℕ) (p : ℕ) (x : Skipped) → x ≡ skipped_at log p → (r : Read) → read (with_fields log p x) x.next ≡ r
    → (r ≡ item_at log p) × (numbers r.item ≡ numbers_at log p)
unfolding item_at
item_read log p x here r e = (sym e ∙ rw here, rw (← e, here) (item_numbers log p))

-- where a step was skipped, its fields can be read
step_fields : (log : List ℕ) (p : ℕ) (x : Skipped) → Outcome log p x → (x.kind ≡ 0 → ⊥)
    → (x.kind < kinds) × (p + 4 + due x.kind ≤ 8 * length log) × (length log ≤ 65536)
step_fields log p x (refused k some) step = absurd (step refl)
step_fields log p x (ended good none) step = absurd (step refl)
step_fields log p x (stepped good some) step = (good.known, omega (arith, good.head, good.fields), good.small)

pub step_there : (log : List ℕ) (p : ℕ) (x : Skipped) → x ≡ skipped_at log p → (x.kind ≡ 0 → ⊥)
    → (x.kind < kinds) × (p + 4 + due x.kind ≤ 8 * length log) × (length log ≤ 65536)
step_there log p x here step = step_fields log p x (rw here (outcome log p)) step

-- a row of a known kind that stands at a position, and whose numbers have room, is read there
row_reads : (log : List ℕ) (p : ℕ) (r : Row) (u : List Bool) → Narrow r → r.kind < kinds → Stands log p (row_bits r ++ u)
    → (field log p 4 ≡ r.kind) × (row_at log r.kind (p + 4) ≡ r)
unfolding row_bits row_at
row_reads log p r u room known h =
    let k : ℕ = r.kind in
    let p2 : ℕ = p + 4 + width k 0 in
    let p3 : ℕ = p2 + width k 1 in
    let kind = value_read log p 4 k _ (omega arith) (simp append_assoc at h) in
    let first = value_read log (p + 4) (width k 0) r.first _ room.first kind.behind in
    let second = value_read log p2 (width k 1) r.second _ room.second first.behind in
    let third = value_read log p3 (width k 2) r.third _ room.third second.behind in
    let fourth = value_read log (p3 + width k 2) (width k 3) r.fourth u room.fourth third.behind in
    (kind.value, rw (first.value, second.value, third.value, fourth.value))

-- a step that stands at a position, within the widths, is read there
pub step_reads : (log : List ℕ) (p : ℕ) (s : Step) (u : List Bool) → length log ≤ 65536 → wide (row_of s) ≡ false
    → Stands log p (step_bits s ++ u) → item_at log p ≡ read (items.Step s) (p + length (step_bits s))
step_reads log p s u small slim h =
    let k : ℕ = (row_of s).kind in
    let back : (kind_at log p ≡ k) × (row_at log k (p + 4) ≡ row_of s) = row_reads log p (row_of s) u (narrow (row_of s) slim) (step_row s).2 h in
    let long : length (row_bits (row_of s)) ≡ 4 + due k = length_row (row_of s) in
    let all : 8 * length log - p ≡ 4 + due k + length u = left_stands log p (row_bits (row_of s) ++ u) h ∙ simp (length-append, length_row) in
    let next : p + 4 + due k ≡ p + length (row_bits (row_of s)) = omega arith in
    let good : Whole log p =
    record {
      small = small;
      head = omega arith;
      known = rw back.0 (step_row s).2;
      fields = rw back.0 (omega arith);
      pad = λ none. absurd (omega (arith, (step_row s).1));
    } in
    step_item log p good (rw back.0 (step_row s).1) ∙ rw (back.0, back.1, (step_row s).0, next)

-- how many zero bits the end at position p has behind its kind
abbrev pad : (p : ℕ) → ℕ
pad p = (8 - (p + 4) % 8) % 8

-- the end as two fields of 0
end_fields : (p : ℕ) → end_bits p ≡ to_bits 4 0 ++ (to_bits (pad p) 0 ++ [])
unfolding end_bits
end_fields p = rw (append-nil, zero_bits (pad p))

-- the end that stands at a position is read there
pub end_reads : (log : List ℕ) (p : ℕ) → length log ≤ 65536 → Stands log p (end_bits p) → item_at log p ≡ read items.End (8 * length log)
unfolding padded both width fields
end_reads log p small h =
    let kind = value_read log p 4 0 _ (omega arith) (h ∙ end_fields p) in
    let zeros = value_read log (p + 4) (pad p) 0 [] (pow_pos (pad p)) kind.behind in
    let none : kind_at log p ≡ 0 = kind.value in
    let all : 8 * length log - p ≡ 4 + pad p = left_stands log p _ h ∙ length_end p in
    let behind : 8 * length log - (p + 4) ≡ pad p = omega arith in
    end_item log p
    (record {
      small = small;
      head = omega arith;
      known = rw none (omega arith);
      fields = rw none (omega arith);
      pad = λ _. rw (behind, lt-ltb (pad p) 8 (omega arith), zeros.value);
    })
    none

-- what is to stand at position p where this item is read there, with this position behind it
unfoldable pub Found : (log : List ℕ) → (p next : ℕ) → Item → Type 0
Found log p next (items.Step s) = Stands log p (step_bits s ++ drop next (bits log)) × (next ≡ p + length (step_bits s))
Found log p next items.End = Stands log p (end_bits p)
Found log p next (items.Refused k) = record {}

module _ (log : List ℕ) (p : ℕ) where
  -- the log has the bits of the row that is read at position p, where it has as many as that row takes
  stands_row : p + 4 + due (kind_at log p) ≤ 8 * length log
      → Stands log p (row_bits (row_at log (kind_at log p) (p + 4)) ++ drop (p + 4 + due (kind_at log p)) (bits log))
  unfolding row_bits row_at
  stands_row room =
      let k : ℕ = kind_at log p in
      let p2 : ℕ = p + 4 + width k 0 in
      let p3 : ℕ = p2 + width k 1 in
      let p4 : ℕ = p3 + width k 2 in
      let behind : p + 4 + due k ≡ p4 + width k 3 = omega arith in
      stands_field log p 4 (omega arith)
      ∙ rw (
        stands_field log (p + 4) (width k 0) (omega arith),
        stands_field log p2 (width k 1) (omega arith),
        stands_field log p3 (width k 2) (omega arith),
        stands_field log p4 (width k 3) (omega arith),
        behind,
      ) (simp append_assoc)

  -- it takes four bits and those that are due
  length_row_at : (k q : ℕ) → length (row_bits (row_at log k q)) ≡ 4 + due k
  unfolding row_at
  length_row_at k q = length_row (row_at log k q)

  -- an end that is read stands there
  end_found : Whole log p → kind_at log p ≡ 0 → Stands log p (end_bits p)
  unfolding padded
  end_found whole none =
      let zeros : padded log (p + 4) ≡ true = whole.pad none in
      let k : ℕ = left log (p + 4) in
      let less : k < 8 = ltb-true k 8 (both_left (ltb k 8) _ zeros) in
      let blank : field log (p + 4) k ≡ 0 = eqb-true (field log (p + 4) k) 0 (both_right (ltb k 8) _ zeros) in
      let last : pad p ≡ k = omega (arith, whole.head) in
      let over : drop (p + 4 + k) (bits log) ≡ [] = drop_of_length-le (bits log) {i = p + 4 + k} (rw length_bits (omega arith)) in
      stands_field log p 4 (omega (arith, whole.head))
      ∙ rw (none, stands_field log (p + 4) k (omega (arith, whole.head)), blank, over) (sym (end_fields p ∙ rw last))

  -- what is read stands there
  found : (x : Skipped) → Outcome log p x → Found log p x.next (with_fields log p x)
  unfolding Found with_fields choose
  found _ (refused zero some) = elim some [ ]
  found x (refused (suc k) some) = rw eqb-suc-zero (record {})
  found x (ended whole none) = end_found whole none
  found x (stepped whole some) =
      let same : row_of (step_of (row_at log (kind_at log p) (p + 4))) ≡ row_at log (kind_at log p) (p + 4) = same_row log p whole some in
      rw (ne_eqb (kind_at log p) 0 (omega arith), same, length_row_at) (stands_row (omega (arith, whole.head, whole.fields)), omega arith)

  pub item_found : Found log p (item_at log p).next (item_at log p).item
  unfolding item_at
  item_found = found (skipped_at log p) (outcome log p)
