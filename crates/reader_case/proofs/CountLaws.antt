-- Counts: what is left of a log makes a count whole, one item at a time, and each step leaves fewer bits.
use Prim.Native.Nat.{ℕ, zero, suc, ◌+◌, ◌≤◌, ◌<◌}
use mathlib.Core.Path.{◌≡◌, refl, ap}
use mathlib.Core.Bool.{Bool, true, false}
use mathlib.Core.List.{List}
use native.Mathlib.Omega.{arith}
use borrow.Author.Tests.{ne_eqb}
use lib.Dec.{eqb, eqb-suc-zero}
use lib.ListN.{length}
use Rattle.std.specs.Prelude.{Some, None}
use Rattle.words.specs.Tests.{choose}
use Rattle.packed_log.specs.declared.item.Item.{Item}
use Rattle.packed_log.specs.Items.{left, kind_at, skipped_at, with_fields, item_at}
use Rattle.packed_log.specs.Openings.{opening_in}
use Rattle.packed_log.proofs.ItemLaws.{Outcome, refused, ended, stepped, outcome}
use Rattle.replay.specs.Bodies.{Body, begun, body_at, body_of, fault_of}
use Rattle.replay.proofs.BodyLaws.{body_begins, body_few}
use Rattle.reader_case.specs.declared.Count.{Count}
use Rattle.reader_case.specs.Counts.{count, refusal_of, count_of}

-- the count at the end, where so many steps have been read and that body is left to read
unfoldable pub whole : (steps : ℕ) → Body → Count
whole steps rest = count (steps + length rest.steps) (refusal_of rest.refusal)

-- a number of refusal is that of some refusal where it is not 0
pub is_refusal : (number : ℕ) → 0 < number → refusal_of number ≡ Some number
unfolding refusal_of
is_refusal zero some = elim some [ ]
is_refusal (suc k) some = refl

-- what an item says of what stands behind it: a step leaves fewer bits, and the number of a refusal is not 0
unfoldable Told : (log : List ℕ) → (p next : ℕ) → Item → Type 0
Told log p next (Item.Step s) = left log next < left log p
Told log p next Item.End = record {}
Told log p next (Item.Refused number) = 0 < number

told : (log : List ℕ) (p : ℕ) (x : _) → Outcome log p x → Told log p x.next (with_fields log p x)
unfolding Told with_fields choose
told log p _ (refused zero some) = elim some [ ]
told log p x (refused (suc k) some) = rw eqb-suc-zero (omega arith)
told log p x (ended good none) = record {}
told log p x (stepped good some) = rw (ne_eqb (kind_at log p) 0 (omega arith)) (omega (arith, good.head, good.fields))

item_told : (log : List ℕ) (p : ℕ) → Told log p (item_at log p).next (item_at log p).item
unfolding item_at
item_told log p = told log p (skipped_at log p) (outcome log p)

-- behind an opening that is read the body is all that is left
opens : (refusal : ℕ) (body : Body) → refusal ≡ 0
    → whole 0 body ≡ count (choose (eqb refusal 0) (length body.steps) 0) (refusal_of (choose (eqb refusal 0) body.refusal refusal))
unfolding whole choose
opens refusal body none = rw none (ap (λ (n : ℕ). count n (refusal_of body.refusal)) (omega arith))

pub count_opens : (log : List ℕ) → (opening_in log).refusal ≡ 0 → whole 0 (body_at log (opening_in log).next) ≡ count_of log
unfolding count_of fault_of body_of
count_opens log none = opens (opening_in log).refusal (body_at log (opening_in log).next) none

-- an opening that is refused is all
refuses : (refusal steps fault : ℕ) → 0 < refusal
    → count 0 (Some refusal) ≡ count (choose (eqb refusal 0) steps 0) (refusal_of (choose (eqb refusal 0) fault refusal))
unfolding choose refusal_of
refuses zero steps fault some = elim some [ ]
refuses (suc k) steps fault some = rw eqb-suc-zero refl

pub count_refused : (log : List ℕ) (refusal : ℕ) → refusal ≡ (opening_in log).refusal → 0 < refusal → count 0 (Some refusal) ≡ count_of log
unfolding count_of fault_of
count_refused log refusal is some = rw (← is) (refuses refusal _ _ some)

-- a step is counted, and leaves fewer bits
pub count_step : (log : List ℕ) (p steps : ℕ) (s : _) → (item_at log p).item ≡ Item.Step s
    → whole steps (body_at log p) ≡ whole (steps + 1) (body_at log (item_at log p).next)
unfolding whole begun
count_step log p steps s is =
    rw (body_begins log p, is) (ap (λ (n : ℕ). count n (refusal_of (body_at log (item_at log p).next).refusal)) (omega arith))

pub step_fewer : (log : List ℕ) (p : ℕ) (s : _) → (item_at log p).item ≡ Item.Step s → left log (item_at log p).next < left log p
unfolding Told
step_fewer log p s is = rw is at (item_told log p)

-- the end is not counted, nor is a refusal, which the count tells
pub count_end : (log : List ℕ) (p steps : ℕ) → (item_at log p).item ≡ Item.End → whole steps (body_at log p) ≡ count steps None
unfolding whole begun refusal_of
count_end log p steps is = rw (body_begins log p, is) (ap (λ (n : ℕ). count n None) (omega arith))

pub count_refusal : (log : List ℕ) (p steps number : ℕ) → (item_at log p).item ≡ Item.Refused number
    → whole steps (body_at log p) ≡ count steps (Some number)
unfolding whole begun Told
count_refusal log p steps number is =
    let some : 0 < number = rw is at (item_told log p) in
    rw (body_begins log p, is, is_refusal number some) (ap (λ (n : ℕ). count n (Some number)) (omega arith))

-- no log has more than 131,072 steps
chosen : (read : Bool) (n : ℕ) → n ≤ 131072 → choose read n 0 ≤ 131072
unfolding choose
chosen true n few = few
chosen false n few = omega arith

pub count_few : (log : List ℕ) (steps : ℕ) (rest : Body) → whole steps rest ≡ count_of log → steps ≤ 131072
unfolding whole count_of body_of
count_few log steps rest is =
    let total : steps + length rest.steps ≡ (count_of log).steps = ap (λ (x : Count). x.steps) is in
    omega (arith, total, chosen (eqb (opening_in log).refusal 0) (length (body_of log).steps) (omega (arith, body_few log (opening_in log).next)))
