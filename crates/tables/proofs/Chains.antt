-- Laws of chains, by each block's parent.
use Prim.Native.Nat.{ℕ, zero, suc, ◌<◌, ◌≤◌}
use mathlib.Core.Path.{◌≡◌, refl, ap}
use mathlib.Core.Bool.{Bool, true, false}
use mathlib.Core.List.{List, [], ◌∷◌}
use native.Mathlib.Omega.{arith}
use borrow.Author.Tests.{ltb-true}
use lib.Dec.{ltb}
use lib.ListN.{get_or}
use Rattle.words.specs.Tests.{choose, both}
use Rattle.words.proofs.Tests.{both_right}
use Rattle.tables.specs.Blocks.{made_in, parent_in}
use Rattle.tables.specs.Chains.{climb, chain_by}

-- a number that is kept only where a test says that it is below b, else 0, is below b
kept_lt : (t : Bool) (x b : ℕ) → 0 < b → (t ≡ true → x < b) → choose t x 0 < b
unfolding choose
kept_lt true x b h k = k refl
kept_lt false x b h k = h

-- a parent's number is smaller
abbrev pub Down : (ℕ → ℕ) → Type 0
Down parent = (b : ℕ) → 0 < b → parent b < b

pub parent_in_lt : (parents : List ℕ) (last : ℕ) → Down (parent_in parents last)
unfolding parent_in
parent_in_lt parents last b h =
    let p : ℕ = get_or parents b 0 in
    kept_lt (both (made_in last b) (ltb p b)) p b h (λ t. ltb-true p b (both_right (made_in last b) (ltb p b) t))

module _ (parent : ℕ → ℕ) (down : Down parent) where
  -- a climb that may go on for at least b blocks from block b reaches genesis
  climb_same : (j k b : ℕ) → b ≤ j → b ≤ k → climb parent j b ≡ climb parent k b
  unfolding climb
  climb_same zero zero b hj hk = refl
  climb_same zero (suc k) zero hj hk = refl
  climb_same zero (suc k) (suc b) hj hk = absurd (omega arith)
  climb_same (suc j) zero zero hj hk = refl
  climb_same (suc j) zero (suc b) hj hk = absurd (omega arith)
  climb_same (suc j) (suc k) zero hj hk = refl
  climb_same (suc j) (suc k) (suc b) hj hk =
      let l : parent (suc b) < suc b = down (suc b) (omega arith) in
      ap (λ (c : List ℕ). suc b ∷ c) (climb_same j k (parent (suc b)) (omega arith) (omega arith))

  -- the chain of any block but genesis is the block on its parent's chain
  pub chain_by_step : (b : ℕ) → 0 < b → chain_by parent b ≡ b ∷ chain_by parent (parent b)
  unfolding chain_by climb
  chain_by_step zero h = absurd (omega arith)
  chain_by_step (suc b) h =
      let l : parent (suc b) < suc b = down (suc b) (omega arith) in
      ap (λ (c : List ℕ). suc b ∷ c) (climb_same b (parent (suc b)) (parent (suc b)) (omega arith) (omega arith))

  -- a rule on chains by induction: from genesis, and from each parent to its block
  pub climb_induction : (P : ℕ → Type 0) → P 0 → ((b : ℕ) → 0 < b → P (parent b) → P b) → (b : ℕ) → P b
  climb_induction P base step b = go b b (omega arith)
    where
      go : (k b : ℕ) → b ≤ k → P b
      go zero zero h = base
      go zero (suc b) h = absurd (omega arith)
      go (suc k) zero h = base
      go (suc k) (suc b) h = step (suc b) (omega arith) (go k (parent (suc b)) (omega (arith, down (suc b) (omega arith))))

-- the chain of genesis has no block besides it
pub chain_by_genesis : (parent : ℕ → ℕ) → chain_by parent 0 ≡ []
unfolding chain_by climb
chain_by_genesis parent = refl
