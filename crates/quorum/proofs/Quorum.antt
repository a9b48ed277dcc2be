-- The quorum law: two sets of two thirds of the weight share a number that is not bad.
use Prim.Native.Nat.{ℕ, zero, suc, ◌+◌, ◌*◌, ◌<◌, ◌≤◌}
use mathlib.Core.Path.{◌≡◌}
use mathlib.Core.Bool.{Bool, true, false, not}
use mathlib.Core.Logic.{◌⊎◌, inl, inr}
use native.Mathlib.Omega.{arith}
use borrow.Author.Tests.{not-true, not-false}
use Rattle.words.specs.Tests.{choose, both, any}
use Rattle.words.specs.Sums.{weigh}
use Rattle.words.proofs.Tests.{any_at, any_none, both_left, both_right, both_false, decided}
use Rattle.words.proofs.Sums.{always, weigh_more}

module _ (w : ℕ → ℕ) where
  -- one number's part in `weigh_two`
  split : (a b : Bool) (x : ℕ) → choose a x 0 + choose b x 0 ≤ x + choose (both a b) x 0
  unfolding choose both
  split true true x = omega arith
  split true false x = omega arith
  split false true x = omega arith
  split false false x = omega arith

  -- two sets weigh at most all numbers and what they share
  weigh_two : (n : ℕ) (p q : ℕ → Bool)
      → weigh w n p + weigh w n q ≤ weigh w n always + weigh w n (λ k. both (p k) (q k))
  unfolding weigh choose
  weigh_two zero p q = omega arith
  weigh_two (suc n) p q = omega (arith, weigh_two n p q, split (p n) (q n) (w n))

  -- The quorum law. Two sets of at least two thirds of the weight, where less than a third of it is bad, share a number
  -- that is not bad.
  pub quorum : (n : ℕ) (bad p q : ℕ → Bool) → 3 * weigh w n bad < weigh w n always
      → 2 * weigh w n always ≤ 3 * weigh w n p → 2 * weigh w n always ≤ 3 * weigh w n q
      → (h : ℕ) × (h < n) × (p h ≡ true) × (q h ≡ true) × (bad h ≡ false)
  quorum n bad p q few hp hq = found (decided (any n good))
    where
      shared : ℕ → Bool
      shared h = both (p h) (q h)

      good : ℕ → Bool
      good h = both (shared h) (not (bad h))

      all_bad : any n good ≡ false → (k : ℕ) → k < n → shared k ≡ true → bad k ≡ true
      all_bad none k l s = not-false (bad k) (both_false (shared k) (not (bad k)) (any_none good n k none l) s)

      found : (any n good ≡ true) ⊎ (any n good ≡ false)
          → (h : ℕ) × (h < n) × (p h ≡ true) × (q h ≡ true) × (bad h ≡ false)
      found (inl some) =
          let f : (h : ℕ) × (h < n) × (good h ≡ true) = any_at good n some in
          let s : shared f.0 ≡ true = both_left (shared f.0) (not (bad f.0)) f.2 in (
            f.0,
            f.1,
            both_left (p f.0) (q f.0) s,
            both_right (p f.0) (q f.0) s,
            not-true (bad f.0) (both_right (shared f.0) (not (bad f.0)) f.2),
          )
      found (inr none) = absurd (omega (arith, weigh_two n p q, weigh_more w n shared bad (all_bad none)))
