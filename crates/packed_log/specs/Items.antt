-- What stands at a bit position of a log.
use Rattle.std.specs.Prelude.{ℕ, Result, Ok, Err, ◌+◌, ◌*◌, ◌-◌, Bool, not, List, [], ◌∷◌, eqb, ltb, leb, length}
use Rattle.refusals.specs.declared.Refusal.{Refusal as Refused}
use Rattle.refusals.specs.Numbers.{number_of}
use Rattle.words.specs.Tests.{choose, both}
use Rattle.words.specs.Refusals.{Refusal, ◌⇒◌, first}
use Rattle.packed_log.specs.declared.item.Item.{Item}
use Rattle.packed_log.specs.declared.item.Item.TheVariants as items
use Rattle.packed_log.specs.declared.item.Read.{Read}
use Rattle.packed_log.specs.declared.item.Skip.{Skip}
use Rattle.packed_log.specs.Bits.{field}
use Rattle.packed_log.specs.Rows.{Row, row, row_of, step_of}
use Rattle.packed_log.specs.Widths.{kinds, width, due}

-- how many bits are left from position p on; 0 at the log's end and past it
abbrev pub left : (log : List ℕ) → (p : ℕ) → ℕ
left log p = 8 * length log - p

-- the kind at position p
abbrev pub kind_at : (log : List ℕ) → (p : ℕ) → ℕ
kind_at log p = field log p 4

-- from position p to the byte's end there are zero bits, and no byte stands behind
unfoldable pub padded : (log : List ℕ) → (p : ℕ) → Bool
padded log p = both (ltb (left log p) 8) (eqb (field log p (left log p)) 0)

-- the refusals of an item at position p whose kind is this: 30 for a log over 65,536 bytes; 27 where it ends before the kind does; 28 for a
-- kind from 9 up; 27 where it ends before the fields do; and 29 at the end for a pad bit that is set or bytes after the pad
abbrev pub item_tests : (log : List ℕ) → (p kind : ℕ) → List Refusal
item_tests log p kind =
    (ltb 65536 (length log) ⇒ 30)
    ∷ (ltb (left log p) 4 ⇒ 27)
    ∷ (leb kinds kind ⇒ 28)
    ∷ (ltb (left log (p + 4)) (due kind) ⇒ 27)
    ∷ (both (eqb kind 0) (not (padded log (p + 4))) ⇒ 29)
    ∷ []

abbrev pub refusal_at : (log : List ℕ) → (p : ℕ) → ℕ
refusal_at log p = first (item_tests log p (kind_at log p))

-- an item without its fields: its kind, 0 for the end and for a refusal; the refusal, 0 where there is none; and the position behind it
pub record Skipped : Type 0 where
  pub kind : ℕ
  pub refusal : ℕ
  pub next : ℕ

abbrev pub skipped : (kind refusal next : ℕ) → Skipped
skipped kind refusal next = record { kind = kind; refusal = refusal; next = next }

-- the same, told from what skipping an item at position p gave; a refusal leaves the position
abbrev pub skipped_by : Result Skip Refused → (p : ℕ) → Skipped
skipped_by (Ok skip) p = skipped skip.kind 0 skip.next
skipped_by (Err refusal) p = skipped 0 (number_of refusal) p

-- what stands at position p, without fields. The end moves the position to the log's end, a step behind its fields; a refusal leaves it.
unfoldable pub skipped_at : (log : List ℕ) → (p : ℕ) → Skipped
skipped_at log p =
    choose (eqb (refusal_at log p) 0)
    (choose (eqb (kind_at log p) 0) (skipped 0 0 (8 * length log)) (skipped (kind_at log p) 0 (p + 4 + due (kind_at log p))))
    (skipped 0 (refusal_at log p) p)

-- the row of that kind, with its fields from position p on
unfoldable pub row_at : (log : List ℕ) → (kind p : ℕ) → Row
row_at log kind p =
    row kind
    (field log p (width kind 0))
    (field log (p + width kind 0) (width kind 1))
    (field log (p + width kind 0 + width kind 1) (width kind 2))
    (field log (p + width kind 0 + width kind 1 + width kind 2) (width kind 3))

-- an item and the position behind it
abbrev pub read : Item → ℕ → Read
read item next = record { item = item; next = next }

-- what was skipped at position p, with the fields that stand behind its kind
unfoldable pub with_fields : (log : List ℕ) → (p : ℕ) → Skipped → Item
with_fields log p x =
    choose (eqb x.refusal 0)
    (choose (eqb x.kind 0) items.End (items.Step (step_of (row_at log x.kind (p + 4)))))
    (items.Refused x.refusal)

-- the item at position p, and the position behind it
unfoldable pub item_at : (log : List ℕ) → (p : ℕ) → Read
item_at log p = read (with_fields log p (skipped_at log p)) (skipped_at log p).next

-- an item in numbers: its refusal, 0 where there is none; and its kind and fields, as a row
pub record Numbers : Type 0 where
  pub refusal : ℕ
  pub row : Row

-- the numbers of each case: the end has kind 0, and a refusal neither kind nor fields
unfoldable pub numbers : Item → Numbers
numbers (items.Step s) = record { refusal = 0; row = row_of s }
numbers items.End = record { refusal = 0; row = row 0 0 0 0 0 }
numbers (items.Refused number) = record { refusal = number; row = row 0 0 0 0 0 }

-- the numbers that stand at position p
abbrev pub numbers_at : (log : List ℕ) → (p : ℕ) → Numbers
numbers_at log p = record { refusal = (skipped_at log p).refusal; row = row_at log (skipped_at log p).kind (p + 4) }
