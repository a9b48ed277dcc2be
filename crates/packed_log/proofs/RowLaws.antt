-- Laws of the table of widths, and of steps and rows: each is got back from the other; the kinds of rows, the room that their numbers have.
use Prim.Native.Nat.{ℕ, zero, suc, ◌+◌, ◌*◌, ◌-◌, ◌/◌, ◌%◌, ◌^◌, ◌≤◌, ◌<◌}
use mathlib.Core.Path.{◌≡◌, refl, ap, ◌∙◌}
use mathlib.Core.Bool.{Bool, true, false}
use mathlib.Core.List.{List}
use native.Mathlib.Omega.{arith}
use native.Mathlib.Nat.{add-zero, add-suc, suc-add}
use borrow.Author.Tests.{eqb-true, leb-true, leb-false}
use lib.Dec.{eqb, leb, eqb-suc-zero}
use lib.ListN.{length, get_or, set}
use Rattle.std.proofs.Common.{◌≢◌, below_more, get_or-set_other, get_or-set_same}
use native.Mathlib.Numerals.{add-one}
use Rattle.words.specs.Tests.{both, all, choose}
use Rattle.words.proofs.Tests.{both_left, both_right, all_at, either_false_left, either_false_right}
use denote.Enum.Declared.{tag_of}
use Rattle.register.specs.contracts.sorts.Kind.{the_type}
use Rattle.register.specs.declared.{sorts.Kind.Kind, step.Step.Step}
use Rattle.register.specs.Types.{Proposal, Vote as AVote}
use Rattle.register.specs.declared.step.Step.TheVariants as steps
use Rattle.packed_log.specs.Widths.{kinds, fields, width, due}
use Rattle.packed_log.specs.Rows.{Row, row, kind_number, kind_numbered, row_of, pick, steps_of, step_of, Narrow}
use Rattle.packed_log.specs.{Bits.field, Items.row_at, Writing.wide}

infixr 5 ◌&◌
-- a pair, for a long chain of facts
pub ◌&◌ : {A B : Type 0} → A → B → A × B
a & b = (a, b)

-- what the fields of a kind take, as the table has it: the bits of all, and a byte for each column, the first column highest
abbrev entry : (kind : ℕ) → ℕ
entry kind = (((due kind * 256 + width kind 0) * 256 + width kind 1) * 256 + width kind 2) * 256 + width kind 3

-- the byte of a column in such an entry
abbrev byte : (kind column : ℕ) → ℕ
byte kind column = entry kind / 2 ^ (8 * (3 - column)) % 256

-- a part of an entry is that number, and at most k
unfoldable right : (part number k : ℕ) → Bool
right part number k = both (eqb part number) (leb part k)

-- what such a test tells
told : (part number k : ℕ) → right part number k ≡ true → (part ≡ number) × (part ≤ k)
unfolding right
told part number k test = (eqb-true part number (both_left _ (leb part k) test), leb-true part k (both_right (eqb part number) _ test))

-- every byte of the table is right
abbrev width_right : (k : ℕ) → Bool
width_right k = right (byte (k / 4) (k % 4)) (width (k / 4) (k % 4)) 16

widths_right : all (kinds * 4) width_right ≡ true
unfolding all both right width fields
widths_right = refl

-- the table gives the width of each kind and column
pub table_width : (kind column : ℕ) → kind < kinds → column < 4 → (byte kind column ≡ width kind column) × (byte kind column ≤ 16)
table_width kind column hk hc =
    let k : ℕ = kind * 4 + column in
    let row : k / 4 ≡ kind = omega arith in
    let place : k % 4 ≡ column = omega arith in
    told (byte kind column) (width kind column) 16 (rw (row, place) at (all_at width_right (kinds * 4) k widths_right (omega arith)))

-- so are the bits of all fields of each kind
abbrev due_right : (kind : ℕ) → Bool
due_right kind = right (entry kind / 2 ^ 32) (due kind) 64

dues_right : all kinds due_right ≡ true
unfolding all both right width fields
dues_right = refl

-- the table gives them
pub table_due : (kind : ℕ) → kind < kinds → (entry kind / 2 ^ 32 ≡ due kind) × (entry kind / 2 ^ 32 ≤ 64)
table_due kind h = told (entry kind / 2 ^ 32) (due kind) 64 (all_at due_right kinds kind dues_right h)

-- the bits that the columns before one take
unfoldable pub ahead : (kind column : ℕ) → ℕ
ahead kind zero = 0
ahead kind (suc c) = ahead kind c + width kind c

-- those before the next column
pub ahead_next : (kind column : ℕ) → ahead kind (column + 1) ≡ ahead kind column + width kind column
unfolding ahead
ahead_next kind column = rw add-one

-- a column ends within what is due
pub ahead_due : (kind column : ℕ) → column < 4 → ahead kind column + width kind column ≤ due kind
unfolding ahead
ahead_due kind zero h = omega arith
ahead_due kind (suc zero) h = omega arith
ahead_due kind (suc (suc zero)) h = omega arith
ahead_due kind (suc (suc (suc zero))) h = omega arith
ahead_due kind (suc (suc (suc (suc c)))) h = absurd (omega arith)

-- the row of a list of four numbers, one for each column
abbrev pub of_list : (kind : ℕ) → List ℕ → Row
of_list kind xs = row kind (get_or xs 0 0) (get_or xs 1 0) (get_or xs 2 0) (get_or xs 3 0)

-- each of them has room in its column
pub narrow_at : (kind : ℕ) (xs : List ℕ) (column : ℕ) → Narrow (of_list kind xs) → column < 4 → get_or xs column 0 < 2 ^ width kind column
narrow_at kind xs zero room h = room.first
narrow_at kind xs (suc zero) room h = room.second
narrow_at kind xs (suc (suc zero)) room h = room.third
narrow_at kind xs (suc (suc (suc zero))) room h = room.fourth
narrow_at kind xs (suc (suc (suc (suc c)))) room h = absurd (omega arith)

-- they are read where each column before them ends
pub read_by : (log : List ℕ) (kind p : ℕ) (xs : List ℕ)
    → ((k : ℕ) → k < 4 → get_or xs k 0 ≡ field log (p + ahead kind k) (width kind k)) → of_list kind xs ≡ row_at log kind p
unfolding row_at ahead
read_by log kind p xs h =
    let p0 : p + ahead kind 0 ≡ p = omega arith in
    let p1 : p + ahead kind 1 ≡ p + width kind 0 = omega arith in
    let p2 : p + ahead kind 2 ≡ p + width kind 0 + width kind 1 = omega arith in
    let p3 : p + ahead kind 3 ≡ p + width kind 0 + width kind 1 + width kind 2 = omega arith in
    let x0 : get_or xs 0 0 ≡ field log p (width kind 0) = h 0 (omega arith) ∙ ap (λ q. field log q (width kind 0)) p0 in
    let x1 : get_or xs 1 0 ≡ field log (p + width kind 0) (width kind 1) = h 1 (omega arith) ∙ ap (λ q. field log q (width kind 1)) p1 in
    let x2 : get_or xs 2 0 ≡ field log (p + width kind 0 + width kind 1) (width kind 2) = h 2 (omega arith) ∙ ap (λ q. field log q (width kind 2)) p2 in
    let x3 : get_or xs 3 0 ≡ field log (p + width kind 0 + width kind 1 + width kind 2) (width kind 3) = h 3 (omega arith) ∙ ap (λ q. field log q (width kind 3)) p3 in
    rw (x0, x1, x2, x3)

-- a loop's next turn: the numbers of the columns before one have been read, and now that of this one
pub next_read : (log : List ℕ) (kind p column x : ℕ) (xs : List ℕ) → column < length xs
    → ((k : ℕ) → k < column → get_or xs k 0 ≡ field log (p + ahead kind k) (width kind k))
    → x ≡ field log (p + ahead kind column) (width kind column)
    → (k : ℕ) → k < column + 1 → get_or (set xs column x) k 0 ≡ field log (p + ahead kind k) (width kind k)
next_read log kind p column x xs inside before e =
    below_more _ _
    (λ k h. let ne : k ≢ column = omega arith in rw get_or-set_other (before k h))
    (rw get_or-set_same e)

-- the first field of each kind has at most ten bits
all_narrow : all kinds (λ kind. leb (width kind 0) 10) ≡ true
unfolding all both width fields
all_narrow = refl

pub first_width : (kind : ℕ) → kind < kinds → width kind 0 ≤ 10
first_width kind h = leb-true (width kind 0) 10 (all_at (λ k. leb (width k 0) 10) kinds kind all_narrow h)

-- a kind of message is got back from its number
kind_number_lem : (k : Kind) → kind_numbered (kind_number k) ≡ k
unfolding kind_numbered choose
kind_number_lem Proposal = refl
kind_number_lem AVote = refl

-- the code's cast of a kind of message is its number
pub as_number : (k : Kind) → tag_of the_type k ≡ kind_number k
as_number Proposal = refl
as_number AVote = refl

-- a number of one bit is got back from its kind of message
number_kind : (k : ℕ) → k < 2 → kind_number (kind_numbered k) ≡ k
unfolding kind_numbered choose
number_kind zero h = refl
number_kind (suc zero) h = refl
number_kind (suc (suc k)) h = absurd (omega arith)

-- a step is got back from its row, whose kind is one of those of the steps
pub step_row : (s : Step) → (step_of (row_of s) ≡ s) × (0 < (row_of s).kind) × ((row_of s).kind < kinds)
unfolding step_of steps_of pick choose row_of
step_row (steps.Propose o p w) = (refl, omega arith, omega arith)
step_row (steps.Vote o m) = (refl, omega arith, omega arith)
step_row (steps.Register o m) = (refl, omega arith, omega arith)
step_row (steps.Finalise o b) = (refl, omega arith, omega arith)
step_row (steps.Deliver m o) = (refl, omega arith, omega arith)
step_row (steps.BadSend o k s b) = (rw (kind_number_lem k), omega arith, omega arith)
step_row (steps.Draft p e w) = (refl, omega arith, omega arith)
step_row steps.Advance = (refl, omega arith, omega arith)

-- a number, or 0 where its column has no bits
unfoldable kept : (w x : ℕ) → ℕ
kept w x = choose (eqb w 0) 0 x

-- a number that has room in its column is kept
kept_same : (w x : ℕ) → x < 2 ^ w → kept w x ≡ x
unfolding kept choose
kept_same zero x h = omega arith
kept_same (suc w) x h = rw eqb-suc-zero

-- what holds of each of n numbers, from k on
abbrev Each : (P : ℕ → Type 0) → (n k : ℕ) → Type 0
Each P zero k = record {}
Each P (suc n) k = P k × Each P n (suc k)

each_at : (P : ℕ → Type 0) (n k i : ℕ) → Each P n k → i < n → P (k + i)
each_at P zero k i h l = absurd (omega arith)
each_at P (suc n) k zero h l = rw add-zero h.0
each_at P (suc n) k (suc i) h l = rw (add-suc, ← suc-add) (each_at P n (suc k) i h.1 (omega arith))

-- a row of that kind, where each number has room in its column, is got back from its step
abbrev Back : (kind : ℕ) → Type 0
Back kind = (a b c d : ℕ) → Narrow (row kind a b c d)
    → row_of (step_of (row kind a b c d))
    ≡ row kind (kept (width kind 0) a) (kept (width kind 1) b) (kept (width kind 2) c) (kept (width kind 3) d)

-- each of the kinds of steps
all_back : Each Back (kinds - 1) 1
unfolding step_of steps_of pick row_of kept choose width fields
all_back =
    (λ a b c d h. refl) & (λ a b c d h. refl) & (λ a b c d h. refl) & (λ a b c d h. refl) & (λ a b c d h. refl)
    & (λ a b c d h. rw (number_kind b (omega (arith, h.second)))) & (λ a b c d h. refl) & (λ a b c d h. refl) & record {}

pub row_step : (r : Row) → Narrow r → 0 < r.kind → r.kind < kinds → row_of (step_of r) ≡ r
row_step r h low high =
    let here : 1 + (r.kind - 1) ≡ r.kind = omega arith in
    (rw here at (each_at Back (kinds - 1) 1 (r.kind - 1) all_back (omega arith))) r.first r.second r.third r.fourth h
    ∙ search kept_same

-- where no number of a row is too wide, each has room in its column
pub narrow : (r : Row) → wide r ≡ false → Narrow r
unfolding wide
narrow r h = search (leb-false, either_false_left, either_false_right)

-- a row that was read has the kind that it was read by
pub kind_read : (log : List ℕ) (kind p : ℕ) (r : Row) → r ≡ row_at log kind p → r.kind ≡ kind
unfolding row_at
kind_read log kind p r e = ap (λ (x : Row). x.kind) e
