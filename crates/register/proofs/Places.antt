-- What the stage of a message for an office says.
use Prim.Native.Nat.{ℕ, zero, suc, ◌<◌}
use mathlib.Core.Path.{◌≡◌, refl, ap, ◌∙◌}
use mathlib.Core.Bool.{Bool, true, false}
use native.Mathlib.Omega.{arith}
use native.Mathlib.Decide.{dec_lt}
use borrow.Author.Tests.{ltb-true, lt-ltb, ne_eqb}
use lib.Dec.{eqb, ltb}
use lib.ListN.{get_or, length, get_or-eq_default}
use Rattle.words.specs.Tests.{choose, both}
use Rattle.words.specs.Digits.{digit}
use Rattle.words.proofs.Tests.{both_left, both_right, both_make}
use Rattle.words.proofs.Digits.{digit_zero}
use Rattle.tables.specs.Messages.{transit, inbox}
use Rattle.tables.specs.contracts.sorts.StagePartialEq.TheImpl.{ghosts}
use Rattle.register.specs.Types.{Stage, Book}
use Rattle.register.specs.Tables.{trusted}
use Rattle.register.specs.Views.{stage, stage_numbered}

-- a stage is transit, or the inbox, where its number is
pub is_transit : (k : ℕ) → eqb k transit ≡ ghosts.eq (stage_numbered k) Stage.Transit
unfolding stage_numbered choose
is_transit zero = refl
is_transit (suc zero) = refl
is_transit (suc (suc zero)) = refl
is_transit (suc (suc (suc zero))) = refl
is_transit (suc (suc (suc (suc k)))) =
    let n : ℕ = suc (suc (suc (suc k))) in
    rw (ne_eqb n 1 (omega arith), ne_eqb n 2 (omega arith), ne_eqb n 3 (omega arith))

pub is_inbox : (k : ℕ) → eqb k inbox ≡ ghosts.eq (stage_numbered k) Stage.Inbox
unfolding stage_numbered choose
is_inbox zero = refl
is_inbox (suc zero) = refl
is_inbox (suc (suc zero)) = refl
is_inbox (suc (suc (suc zero))) = refl
is_inbox (suc (suc (suc (suc k)))) =
    let n : ℕ = suc (suc (suc (suc k))) in
    rw (ne_eqb n 1 (omega arith), ne_eqb n 2 (omega arith), ne_eqb n 3 (omega arith))

-- message m has been sent, and stands at stage k for the trusted office q
pub record Placed (r : Book) (q m k : ℕ) : Type 0 where
  pub trusted : trusted r q ≡ true
  pub sent : m < r.count
  pub digit : digit 4 (get_or r.places m 0) q ≡ k

-- a number that is not 0 and is kept only where a test holds: the test holds, and it is that number
kept : (t : Bool) (x k : ℕ) → choose t x 0 ≡ suc k → (t ≡ true) × (x ≡ suc k)
unfolding choose
kept true x k h = (refl, h)
kept false x k h = absurd (omega arith)

-- a stage other than absent is a digit of the message's word
pub placed : (r : Book) (q m k : ℕ) → stage r q m ≡ suc k → Placed r q m (suc k)
unfolding stage
placed r q m k h =
    let t : (both (trusted r q) (ltb m r.count) ≡ true) × (digit 4 (get_or r.places m 0) q ≡ suc k) = kept _ _ k h in
    record { trusted = both_left _ _ t.0; sent = ltb-true _ _ (both_right _ _ t.0); digit = t.1 }

-- and the other way round
pub placed_stage : (r : Book) (q m k : ℕ) → Placed r q m k → stage r q m ≡ k
unfolding stage choose
placed_stage r q m k p =
    ap (λ (t : Bool). choose t (digit 4 (get_or r.places m 0) q) 0) (both_make _ _ p.trusted (lt-ltb m r.count p.sent))
    ∙ p.digit

-- a message that stands anywhere has a word in the table
pub placed_within : (r : Book) (q m k : ℕ) → Placed r q m (suc k) → m < length r.places
placed_within r q m k p = by (dec_lt m (length r.places))
  where
    by : Dec (m < length r.places) → m < length r.places
    by (yes h) = h
    by (no h) =
        let none : get_or r.places m 0 ≡ 0 = get_or-eq_default r.places 0 (omega arith) in
        absurd (omega (arith, p.digit, ap (λ (w : ℕ). digit 4 w q) none, digit_zero 4 q))
