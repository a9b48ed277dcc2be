-- The laws of sums of weights.
use Prim.Native.Nat.{ℕ, zero, suc, ◌+◌, ◌<◌, ◌≤◌}
use mathlib.Core.Path.{◌≡◌, refl, ◌∙◌}
use mathlib.Core.Bool.{Bool, true, false, not}
use native.Mathlib.Omega.{arith}
use native.Mathlib.Decide.{le_ind}
use borrow.Author.Tests.{lt-ltb, le-ltb}
use lib.Dec.{ltb}
use Rattle.words.specs.Tests.{choose, both}
use Rattle.words.specs.Sums.{weigh, unit, tally}
use Rattle.words.proofs.Tests.{clash}

-- every number passes
abbrev pub always : ℕ → Bool
always q = true

module _ (w : ℕ → ℕ) where
  -- one number's part in `weigh_more`
  more : (a b : Bool) (x : ℕ) → (a ≡ true → b ≡ true) → choose a x 0 ≤ choose b x 0
  unfolding choose
  more true true x h = omega arith
  more true false x h = clash (h refl) refl
  more false b x h = omega arith

  -- a test that lets more numbers pass weighs at least as much
  pub weigh_more : (n : ℕ) (p q : ℕ → Bool) → ((k : ℕ) → k < n → p k ≡ true → q k ≡ true) → weigh w n p ≤ weigh w n q
  unfolding weigh
  weigh_more zero p q h = omega arith
  weigh_more (suc n) p q h =
      omega (arith, weigh_more n p q (λ k l. h k (omega arith)), more (p n) (q n) (w n) (h n (omega arith)))

-- all numbers below n are n
pub tally_always : (n : ℕ) → tally n always ≡ n
unfolding tally weigh unit choose
tally_always zero = refl
tally_always (suc n) = omega (arith, tally_always n)

-- one number's part in `weigh_not`
either_way : (t : Bool) (x : ℕ) → choose t x 0 + choose (not t) x 0 ≡ x
unfolding choose
either_way true x = omega arith
either_way false x = omega arith

-- those that pass a test and those that do not weigh as much as all
weigh_not : (w : ℕ → ℕ) (n : ℕ) (p : ℕ → Bool) → weigh w n p + weigh w n (λ k. not (p k)) ≡ weigh w n always
unfolding weigh choose
weigh_not w zero p = refl
weigh_not w (suc n) p = omega (arith, weigh_not w n p, either_way (p n) (w n))

-- those that pass a test and those that do not are n together
pub tally_not : (n : ℕ) (p : ℕ → Bool) → tally n p + tally n (λ k. not (p k)) ≡ n
unfolding tally
tally_not n p = weigh_not unit n p ∙ tally_always n

-- two tests that agree below n weigh the same
weigh_ext : (w : ℕ → ℕ) (n : ℕ) (p q : ℕ → Bool) → ((k : ℕ) → k < n → p k ≡ q k) → weigh w n p ≡ weigh w n q
unfolding weigh
weigh_ext w zero p q same = refl
weigh_ext w (suc n) p q same = rw (same n (omega arith), weigh_ext w n p q (λ k l. same k (omega arith)))

-- two tests that agree below n let as many numbers pass
pub tally_ext : (n : ℕ) (p q : ℕ → Bool) → ((k : ℕ) → k < n → p k ≡ q k) → tally n p ≡ tally n q
unfolding tally
tally_ext n p q same = weigh_ext unit n p q same

-- where no number from n up passes a test, those below n are all that do
pub tally_past : (n m : ℕ) (p : ℕ → Bool) → n ≤ m → ((k : ℕ) → n ≤ k → p k ≡ false) → tally m p ≡ tally n p
unfolding tally weigh choose
tally_past n m p more none =
    le_ind (λ (k : ℕ). weigh unit k p ≡ weigh unit n p) refl (λ k l e. rw (none k l) (omega arith)) m more

-- those below n, where the test asks for that too
pub tally_below : (n m : ℕ) (p : ℕ → Bool) → n ≤ m → tally m (λ k. both (ltb k n) (p k)) ≡ tally n p
unfolding both
tally_below n m p more =
    tally_past n m _ more (λ k l. rw (le-ltb k n l)) ∙ tally_ext n _ p (λ k l. rw (lt-ltb k n l))

-- where none passes a test, there are none
pub tally_none : (n : ℕ) (p : ℕ → Bool) → ((k : ℕ) → p k ≡ false) → tally n p ≡ 0
unfolding tally weigh
tally_none n p none = tally_past 0 n p (omega arith) (λ k l. none k)
