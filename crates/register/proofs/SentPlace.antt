-- The word of a message's places as it is sent, digit by digit.
use Prim.Native.Nat.{ℕ, zero, suc, ◌<◌, ◌≤◌, min}
use mathlib.Core.Path.{◌≡◌, refl, ap, ◌∙◌}
use mathlib.Core.Bool.{Bool, true, false}
use native.Mathlib.Omega.{arith}
use borrow.Author.Tests.{eqb-true, lt-ltb, le-ltb}
use lib.Dec.{eqb}
use Rattle.words.specs.Tests.{choose, both}
use Rattle.words.specs.Digits.{digit, fill, with_stage}
use Rattle.words.proofs.Tests.{clash}
use Rattle.words.proofs.Digits.{digit_lt, digit_fill, fill_ext, fill_min}
use Rattle.tables.specs.Blocks.{trusted_in}
use Rattle.tables.specs.Messages.{absent, transit, view}
use Rattle.register.specs.Types.{Book}
use Rattle.register.specs.Tables.{trusted}
use Rattle.register.specs.Effects.{sent_stage, sent_place}

-- a bit as the test that it is 1
bit_stage : (bit : ℕ) → bit < 2 → bit ≡ choose (eqb bit 1) transit absent
unfolding choose
bit_stage zero low = refl
bit_stage (suc zero) low = refl
bit_stage (suc (suc bit)) low = absurd (omega arith)

-- no trusted office is the sender, where that is untrusted
other_stage : (t own : Bool) → (own ≡ true → t ≡ false)
    → choose t transit absent ≡ choose t (choose own view transit) absent
unfolding choose
other_stage true true barred = clash refl (barred refl)
other_stage true false barred = refl
other_stage false own barred = refl

-- a trusted sender's stage is put in over the others
own_stage : (t own : Bool) → (own ≡ true → t ≡ true)
    → choose own view (choose t transit absent) ≡ choose t (choose own view transit) absent
unfolding choose
own_stage true own is = refl
own_stage false true is = clash (is refl) refl
own_stage false false is = refl

-- a stage is below 4
stage_low : (t : Bool) → choose t transit absent < 4
unfolding choose
stage_low true = omega arith
stage_low false = omega arith

module _ (r : Book) where
  -- the trusted offices in transit, the others absent
  spread_stage : fill 4 r.n (digit 2 r.trust) ≡ fill 4 r.n (λ q. choose (trusted r q) transit absent)
  unfolding trusted_in both
  spread_stage =
      fill_ext 4 r.n _ _
      (λ q h. rw (lt-ltb q r.n h) (bit_stage (digit 2 r.trust q) (digit_lt 2 r.trust q (omega arith))))

  -- no office from n up is trusted
  none_trusted : (q : ℕ) → r.n ≤ q → trusted r q ≡ false
  unfolding trusted_in both
  none_trusted q h = rw (le-ltb q r.n h)

  -- digits of the trusted offices alone fill a word of 32
  whole_word : (x : ℕ → ℕ) → r.n ≤ 32
      → fill 4 r.n (λ q. choose (trusted r q) (x q) absent) ≡ fill 4 32 (λ q. choose (trusted r q) (x q) absent)
  unfolding choose
  whole_word x few =
      let e : min 32 r.n ≡ r.n = omega arith in
      rw e at (fill_min 4 r.n 32 (λ q. choose (trusted r q) (x q) absent) (λ q h. rw (none_trusted q h)))

  module _ (actor : ℕ) where
    -- an office that is the sender is as trusted as the sender
    sender : (q : ℕ) (t : Bool) → trusted r actor ≡ t → eqb q actor ≡ true → trusted r q ≡ t
    sender q t e is = ap (trusted r) (eqb-true q actor is) ∙ e

    -- what an untrusted office sends is in transit to every trusted office
    pub sent_untrusted : trusted r actor ≡ false → fill 4 r.n (digit 2 r.trust) ≡ sent_place r actor
    unfolding sent_stage
    sent_untrusted barred =
        spread_stage
        ∙ fill_ext 4 r.n _ _ (λ q h. other_stage (trusted r q) (eqb q actor) (sender q false barred))

    -- what a trusted office sends is in its view besides
    pub sent_trusted : r.n ≤ 32 → trusted r actor ≡ true
        → with_stage (fill 4 r.n (digit 2 r.trust)) actor view ≡ sent_place r actor
    unfolding with_stage sent_stage
    sent_trusted few t =
        let word : fill 4 r.n (digit 2 r.trust) ≡ fill 4 32 (λ q. choose (trusted r q) transit absent) =
        spread_stage ∙ whole_word (λ q. transit) few in
        rw (word, whole_word (λ q. choose (eqb q actor) view transit) few)
        (fill_ext 4 32 _ _
        (λ q h.
        rw (digit_fill 4 32 (λ k. choose (trusted r k) transit absent) (λ k. stage_low (trusted r k)) q h)
        (own_stage (trusted r q) (eqb q actor) (sender q true t))))
