-- What the condition for finalising says.
use Prim.Native.Nat.{ℕ, ◌+◌, ◌<◌}
use mathlib.Core.Path.{◌≡◌, refl, subst}
use mathlib.Core.Bool.{Bool, true, false, not}
use native.Mathlib.Omega.{arith}
use borrow.Author.Tests.{eqb-true, eqb-false, not-true, not-false}
use lib.Dec.{eqb}
use Rattle.words.specs.Tests.{both, member}
use Rattle.words.proofs.Tests.{both_left, both_right}
use Rattle.words.proofs.Clearing.{holds}
use Rattle.register.specs.Types.{Book}
use Rattle.register.specs.Tables.{parent_of, epoch_of}
use Rattle.register.specs.Chains.{chain, chain_notarised_by}
use Rattle.register.specs.Refusals.{consecutive, finalises_by}
use Rattle.register.proofs.Chains.{notarised_more, notarised_parent}

-- block b, its parent c and c's parent d have consecutive epochs, d alone may be genesis, and b's chain is notarised by a test of blocks
pub record Consecutive (r : Book) (p : ℕ → Bool) (b c d : ℕ) : Type 0 where
  pub parent : parent_of r b ≡ c
  pub grandparent : parent_of r c ≡ d
  pub newest : 0 < b
  pub middle : 0 < c
  pub two_later : epoch_of r b ≡ epoch_of r d + 2
  pub one_later : epoch_of r c ≡ epoch_of r d + 1
  pub chain : chain_notarised_by r p b ≡ true

module _ {r : Book} {p : ℕ → Bool} {b c d : ℕ} (three : Consecutive r p b c d) where
  -- then c's chain is notarised too
  pub middle_notarised : chain_notarised_by r p c ≡ true
  middle_notarised =
      subst (λ (x : ℕ). chain_notarised_by r p x ≡ true) three.parent (notarised_parent r p b three.newest three.chain)

  -- and d's
  pub oldest_notarised : chain_notarised_by r p d ≡ true
  oldest_notarised =
      subst (λ (x : ℕ). chain_notarised_by r p x ≡ true) three.grandparent (notarised_parent r p c three.middle middle_notarised)

-- three consecutive blocks by a test are so by every test that the blocks then pass too
pub consecutive_more : {r : Book} {p p' : ℕ → Bool} {b c d : ℕ} → ((x : ℕ) → member x (chain r b) ≡ true → p x ≡ true → p' x ≡ true)
    → Consecutive r p b c d → Consecutive r p' b c d
consecutive_more {r} {p} {p'} {b} pass three =
    record {
      parent = three.parent;
      grandparent = three.grandparent;
      newest = three.newest;
      middle = three.middle;
      two_later = three.two_later;
      one_later = three.one_later;
      chain = notarised_more r b pass three.chain;
    }

-- a number that is not 0 is above 0
positive : (x : ℕ) → not (eqb x 0) ≡ true → 0 < x
positive x h = let n : x ≡ 0 → ⊥ = eqb-false x 0 (not-true (eqb x 0) h) in omega arith

-- the finalise rule gives such three blocks
pub three_blocks : (r : Book) (p : ℕ → Bool) (b : ℕ) → finalises_by r p b ≡ true
    → Consecutive r p b (parent_of r b) (parent_of r (parent_of r b))
unfolding consecutive
three_blocks r p b h =
    let all = holds _ (both_left _ _ h) in
    record {
      parent = refl;
      grandparent = refl;
      newest = positive _ all.0;
      middle = positive _ all.1.0;
      two_later = eqb-true _ _ all.1.1.0;
      one_later = eqb-true _ _ all.1.1.1.0;
      chain = both_right _ _ h;
    }

-- the rule, where c was found to be b's parent and d c's, and the test of the three blocks gave t
module _ (r : Book) (p : ℕ → Bool) (b c d : ℕ) (t : Bool) (parent : c ≡ parent_of r b) (grandparent : d ≡ parent_of r c)
    (three : t ≡ consecutive (epoch_of r) b c d)
  where
    -- so the rule is that test and the chain's
    finalises_by_lem : finalises_by r p b ≡ both t (chain_notarised_by r p b)
    finalises_by_lem = rw (three, grandparent, parent)

    -- it failed
    pub not_final_lem : not t ≡ true → false ≡ finalises_by r p b
    unfolding both
    not_final_lem h = rw (finalises_by_lem, not-true t h)

    -- it holds, and the chain's test decides
    pub is_final : (x : Bool) → not t ≡ false → x ≡ chain_notarised_by r p b → x ≡ finalises_by r p b
    unfolding both
    is_final x h e = rw (finalises_by_lem, not-false t h) e
