-- The blocks on a chain: they are not genesis, and their own chains are not longer.
use Prim.Native.Nat.{ℕ, suc, ◌≤◌, ◌<◌}
use mathlib.Core.Path.{◌≡◌, refl, sym, ap, ◌∙◌, subst}
use mathlib.Core.Bool.{Bool, true}
use mathlib.Core.List.{List}
use mathlib.Core.Logic.{⊎_elim}
use native.Mathlib.Omega.{arith}
use borrow.Author.Tests.{eqb-true}
use lib.Dec.{eqb}
use lib.ListN.{length}
use Rattle.words.specs.Tests.{every, member}
use Rattle.words.proofs.Tests.{both_ways, clash, either_cases, every_same}
use Rattle.tables.specs.Chains.{chain_by}
use Rattle.tables.proofs.Chains.{Down, chain_by_genesis, chain_by_step, climb_induction}

module _ (parent : ℕ → ℕ) (down : Down parent) where
  -- of a block x on block b's chain
  pub record On (x b : ℕ) : Type 0 where
    pub above : 0 < x
    pub low : x ≤ b
    pub long : 0 < length (chain_by parent x)
    pub short : length (chain_by parent x) ≤ length (chain_by parent b)

  pub on_chain : (x b : ℕ) → member x (chain_by parent b) ≡ true → On x b
  unfolding member
  on_chain x =
      climb_induction parent down (λ (b : ℕ). member x (chain_by parent b) ≡ true → On x b)
      (λ m. clash (subst (λ (c : List ℕ). member x c ≡ true) (chain_by_genesis parent) m) refl)
      (λ b h ih m.
      let longer : length (chain_by parent b) ≡ suc (length (chain_by parent (parent b))) = ap length (chain_by_step parent down b h) in
      ⊎_elim (λ e. same b h (eqb-true x b e)) (λ l. later b h longer (ih l))
      (either_cases (eqb x b) (member x (chain_by parent (parent b))) (subst (λ (c : List ℕ). member x c ≡ true) (chain_by_step parent down b h) m)))
    where
      same : (b : ℕ) → 0 < b → x ≡ b → On x b
      same b h e =
          record {
            above = omega arith;
            low = omega arith;
            long = omega (arith, ap length (chain_by_step parent down x (omega arith)));
            short = omega (arith, ap (λ (y : ℕ). length (chain_by parent y)) e);
          }

      later : (b : ℕ) → 0 < b → length (chain_by parent b) ≡ suc (length (chain_by parent (parent b))) → On x (parent b) → On x b
      later b h longer on =
          record { above = on.above; low = omega (arith, on.low, down b h); long = on.long; short = omega (arith, on.short) }

  -- two tests that agree on the blocks of a chain agree on the chain
  pub every_on : (p q : ℕ → Bool) (b : ℕ) → ((x : ℕ) → On x b → p x ≡ q x) → every p (chain_by parent b) ≡ every q (chain_by parent b)
  every_on p q b same =
      both_ways _ _
      (every_same p q (chain_by parent b) (λ x m h. sym (same x (on_chain x b m)) ∙ h))
      (every_same q p (chain_by parent b) (λ x m h. same x (on_chain x b m) ∙ h))
