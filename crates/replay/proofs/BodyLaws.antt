-- Bodies: what reading an item does to the position, one item unfolded or passed over, and bodies against logs that read as steps and the end.
use Prim.Native.Nat.{ℕ, zero, suc, ◌+◌, ◌*◌, ◌≤◌, ◌<◌, min}
use mathlib.Core.Path.{◌≡◌, refl, ap, ◌∙◌}
use mathlib.Core.List.{List, [], ◌∷◌}
use native.Mathlib.Numerals.{add-one}
use native.Mathlib.Omega.{arith}
use borrow.Author.Tests.{ne_eqb}
use lib.Dec.{eqb, eqb-suc-zero}
use lib.ListN.{length}
use Rattle.words.specs.Tests.{choose}
use Rattle.register.specs.declared.step.Step.{Step}
use Rattle.packed_log.specs.declared.item.Item.{Item}
use Rattle.packed_log.specs.declared.item.Read.{Read}
use Rattle.packed_log.specs.declared.opening.Opening.{Opening}
use Rattle.packed_log.specs.Items.{Skipped, left, kind_at, skipped_at, with_fields, item_at}
use Rattle.packed_log.specs.Openings.{opening_in}
use Rattle.packed_log.specs.Logs.{ReadsFrom}
use Rattle.packed_log.proofs.ItemLaws.{Outcome, refused, ended, stepped, outcome}
use Rattle.replay.specs.Bodies.{Body, begun, body_from, body_at, body_of, fault_of}

-- what an item that is read at position p keeps to: a step takes four bits or more of a log that is not too long; a refusal has a number
unfoldable Sound : (log : List ℕ) → (p next : ℕ) → Item → Type 0
Sound log p next (Item.Step s) = (p + 4 ≤ next) × (next ≤ 8 * length log) × (length log ≤ 65536)
Sound log p next Item.End = record {}
Sound log p next (Item.Refused number) = 0 < number

-- so does every item
sound : (log : List ℕ) (p : ℕ) (x : Skipped) → Outcome log p x → Sound log p x.next (with_fields log p x)
unfolding Sound with_fields choose
sound log p _ (refused zero some) = elim some [ ]
sound log p x (refused (suc k) some) = rw eqb-suc-zero (omega arith)
sound log p x (ended good none) = record {}
sound log p x (stepped good some) =
    rw (ne_eqb (kind_at log p) 0 (omega arith)) (omega arith, omega (arith, good.head, good.fields), good.small)

item_sound : (log : List ℕ) (p : ℕ) → Sound log p (item_at log p).next (item_at log p).item
unfolding item_at
item_sound log p = sound log p (skipped_at log p) (outcome log p)

-- two bodies that begin with one item are the same where, behind a step, so are their rests
same_rest : (log : List ℕ) (p next : ℕ) (item : Item) (x y : Body) → Sound log p next item
    → (left log next < left log p → x ≡ y) → begun item x ≡ begun item y
unfolding Sound begun
same_rest log p next (Item.Step s) x y sound h = ap (λ (b : Body). begun (Item.Step s) b) (h (omega arith))
same_rest log p next Item.End x y sound h = refl
same_rest log p next (Item.Refused number) x y sound h = refl

-- fuel beyond the bits that are left does not matter
fuel_same : (f g : ℕ) (log : List ℕ) (p : ℕ) → left log p < f → left log p < g → body_from f log p ≡ body_from g log p
unfolding body_from
fuel_same zero g log p enough more = absurd (omega arith)
fuel_same (suc f) zero log p enough more = absurd (omega arith)
fuel_same (suc f) (suc g) log p enough more =
    same_rest log p _ (item_at log p).item _ _ (item_sound log p)
    (λ less. fuel_same f g log (item_at log p).next (omega arith) (omega arith))

-- a body is its first item with the body behind that item
pub body_begins : (log : List ℕ) (p : ℕ) → body_at log p ≡ begun (item_at log p).item (body_at log (item_at log p).next)
unfolding body_at body_from
body_begins log p =
    let next : ℕ = (item_at log p).next in
    rw (add-one (left log p))
    (same_rest log p next (item_at log p).item _ _ (item_sound log p)
    (λ less. fuel_same (left log p) (left log next + 1) log next less (omega arith)))

-- the same, of an item that has been read
pub body_read : (log : List ℕ) (p : ℕ) (read : Read) → read ≡ item_at log p → (item : Item) → read.item ≡ item → body_at log p ≡ begun item (body_at log read.next)
body_read log p read here item is = body_begins log p ∙ rw (← here, is)

-- what skipping an item tells of the body from position p on, which begins with it: without a kind, the refusal of the body; with one,
-- that the body behind the item has it, where fewer bits are left
pub record Tells (log : List ℕ) (p : ℕ) (body : Body) (skipped : Skipped) : Type 0 where
  pub closed : skipped.kind ≡ 0 → body.refusal ≡ skipped.refusal
  pub behind : (skipped.kind ≡ 0 → ⊥) → body.refusal ≡ (body_at log skipped.next).refusal
  pub fewer : (skipped.kind ≡ 0 → ⊥) → left log skipped.next < left log p

tells : (log : List ℕ) (p : ℕ) (x : Skipped) → Outcome log p x → Tells log p (begun (with_fields log p x) (body_at log x.next)) x
unfolding with_fields choose begun
tells log p _ (refused zero some) = elim some [ ]
tells log p x (refused (suc k) some) =
    rw eqb-suc-zero (record { closed = λ none. refl; behind = λ step. absurd (step refl); fewer = λ step. absurd (step refl) })
tells log p x (ended good none) = record { closed = λ none. refl; behind = λ step. absurd (step refl); fewer = λ step. absurd (step refl) }
tells log p x (stepped good some) =
    rw (ne_eqb (kind_at log p) 0 (omega arith))
    (record { closed = λ none. absurd (omega arith); behind = λ step. refl; fewer = λ step. omega (arith, good.head, good.fields) })

pub skipped_tells : (log : List ℕ) (p : ℕ) (x : Skipped) → x ≡ skipped_at log p → Tells log p (body_at log p) x
unfolding item_at
skipped_tells log p x here = rw (here, body_begins log p) (tells log p (skipped_at log p) (outcome log p))

-- a log that reads as steps and the end has those steps as its body
pub reads_body : (log : List ℕ) (p : ℕ) (ss : List Step) → ReadsFrom log p ss → body_at log p ≡ record { steps = ss; refusal = 0 }
unfolding ReadsFrom begun
reads_body log p [] h = body_begins log p ∙ rw h
reads_body log p (s ∷ ss) h = body_begins log p ∙ rw (h.0, reads_body log (item_at log p).next ss h.1)

-- where a body begins with the item at position p and has no refusal, the log reads as its steps, if it does so behind a step
item_reads : (log : List ℕ) (p : ℕ) (item : Item) (rest : Body) → (item_at log p).item ≡ item → Sound log p (item_at log p).next item
    → (left log (item_at log p).next < left log p → rest.refusal ≡ 0 → ReadsFrom log (item_at log p).next rest.steps)
    → (begun item rest).refusal ≡ 0 → ReadsFrom log p (begun item rest).steps
unfolding Sound begun ReadsFrom
item_reads log p (Item.Step s) rest here sound behind none = (here, behind (omega arith) none)
item_reads log p Item.End rest here sound behind none = here
item_reads log p (Item.Refused number) rest here sound behind none = absurd (omega arith)

-- with enough fuel, a body without a refusal is what the log reads as
from_reads : (fuel : ℕ) (log : List ℕ) (p : ℕ) → left log p < fuel → (body_from fuel log p).refusal ≡ 0
    → ReadsFrom log p (body_from fuel log p).steps
unfolding body_from
from_reads zero log p enough none = absurd (omega arith)
from_reads (suc fuel) log p enough none =
    item_reads log p (item_at log p).item _ refl (item_sound log p) (λ less. from_reads fuel log (item_at log p).next (omega arith)) none

-- a body without a refusal is what the log reads as, with the end behind it
pub body_reads : (log : List ℕ) (p : ℕ) → (body_at log p).refusal ≡ 0 → ReadsFrom log p (body_at log p).steps
unfolding body_at
body_reads log p none = from_reads (left log p + 1) log p (omega arith) none

-- a step takes four bits or more, so an item in front of a body adds no more steps than there is room for
few_item : (log : List ℕ) (p next : ℕ) (item : Item) (rest : Body) → Sound log p next item → 4 * length rest.steps ≤ left log next
    → 4 * length (begun item rest).steps ≤ min (left log p) 524288
unfolding Sound begun
few_item log p next (Item.Step s) rest sound few = omega arith
few_item log p next Item.End rest sound few = omega arith
few_item log p next (Item.Refused number) rest sound few = omega arith

-- a body has at most a quarter as many steps as there are bits left, and as a log may have
few_from : (fuel : ℕ) (log : List ℕ) (p : ℕ) → 4 * length (body_from fuel log p).steps ≤ min (left log p) 524288
unfolding body_from
few_from zero log p = omega arith
few_from (suc fuel) log p =
    let next : ℕ = (item_at log p).next in
    few_item log p next (item_at log p).item (body_from fuel log next) (item_sound log p) (omega (arith, few_from fuel log next))

-- a body has at most two steps for each byte of the log, or of the longest log
pub body_few : (log : List ℕ) (p : ℕ) → length (body_at log p).steps ≤ 2 * min (length log) 65536
unfolding body_at
body_few log p = omega (arith, few_from (left log p + 1) log p)

-- the number that is told from a log's opening and what stands behind it is that of the log
pub same_fault : (log : List ℕ) (o : Opening) (fault : ℕ) → o ≡ opening_in log
    → fault ≡ choose (eqb o.refusal 0) (body_at log o.next).refusal o.refusal → fault ≡ fault_of log
unfolding fault_of body_of
same_fault log o fault opens told = told ∙ rw opens
