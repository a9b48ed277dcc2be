-- Laws of chains.
use Prim.Native.Nat.{ℕ, zero, suc, ◌<◌, ◌≤◌}
use mathlib.Core.Path.{◌≡◌, refl, sym, ap, ◌∙◌, subst, subst⁻¹}
use mathlib.Core.Bool.{Bool, true}
use mathlib.Core.List.{List, [], ◌∷◌}
use mathlib.Core.Logic.{⊎_elim}
use native.Mathlib.Omega.{arith}
use native.Mathlib.Decide.{ℕ_discrete}
use borrow.Author.Tests.{eq-eqb, eqb-true, ltb-true}
use lib.Dec.{eqb}
use lib.ListN.{length}
use Rattle.words.specs.Tests.{choose, both, every, member}
use Rattle.words.proofs.Tests.{both_left, both_right, both_make, either_cases, either_left, either_right, clash, every_at, every_same}
use Rattle.tables.specs.Blocks.{made_in, parent_in, epoch_in}
use Rattle.tables.proofs.Chains.{Down, parent_in_lt, chain_by_genesis, chain_by_step, climb_induction}
use Rattle.register.specs.Types.{Book}
use Rattle.register.specs.Tables.{parent_of, epoch_of}
use Rattle.register.specs.Chains.{chain, chain_length, chain_notarised_by}

-- a parent's number is smaller
parent_lt : (r : Book) → Down (parent_of r)
parent_lt r = parent_in_lt r.parents r.last.0

-- genesis has no parent
parent_genesis : (r : Book) → parent_of r 0 ≡ 0
unfolding parent_in made_in both choose
parent_genesis r = refl

-- genesis has epoch 0
pub epoch_genesis : (r : Book) → epoch_of r 0 ≡ 0
unfolding epoch_in made_in both choose
epoch_genesis r = refl

-- a parent's number is no greater, also that of genesis
pub parent_le : (r : Book) (b : ℕ) → parent_of r b ≤ b
parent_le r zero = omega (arith, parent_genesis r)
parent_le r (suc b) = omega (arith, parent_lt r (suc b) (omega arith))

-- the chain of genesis has no block besides it
pub chain_genesis : (r : Book) → chain r 0 ≡ []
unfolding chain
chain_genesis r = chain_by_genesis (parent_of r)

-- the chain of any block but genesis is the block on its parent's chain
pub chain_step : (r : Book) (b : ℕ) → 0 < b → chain r b ≡ b ∷ chain r (parent_of r b)
unfolding chain
chain_step r b h = chain_by_step (parent_of r) (parent_lt r) b h

-- a rule on chains by induction: from genesis, and from each parent to its block
chain_induction : (r : Book) (P : ℕ → Type 0) → P 0 → ((b : ℕ) → 0 < b → P (parent_of r b) → P b) → (b : ℕ) → P b
chain_induction r = climb_induction (parent_of r) (parent_lt r)

-- the length of the chain of genesis is 0
length_genesis : (r : Book) → chain_length r 0 ≡ 0
length_genesis r = ap length (chain_genesis r)

-- any other block's chain is one longer than its parent's
pub length_step : (r : Book) (b : ℕ) → 0 < b → chain_length r b ≡ suc (chain_length r (parent_of r b))
length_step r b h = ap length (chain_step r b h)

-- a block whose chain has a length above some number is not genesis
pub long_made : (r : Book) (b : ℕ) {k : ℕ} → k < chain_length r b → 0 < b
long_made r zero h = absurd (omega (arith, length_genesis r))
long_made r (suc b) h = omega arith

-- a block is on its own chain
on_own_chain : (r : Book) (b : ℕ) → 0 < b → member b (chain r b) ≡ true
unfolding member
on_own_chain r b h = rw (chain_step r b h) (either_left (eqb b b) (member b (chain r (parent_of r b))) (eq-eqb b b refl))

-- a block on the parent's chain is on the block's
on_longer_chain : (r : Book) (b x : ℕ) → 0 < b → member x (chain r (parent_of r b)) ≡ true → member x (chain r b) ≡ true
unfolding member
on_longer_chain r b x h m = rw (chain_step r b h) (either_right (eqb x b) (member x (chain r (parent_of r b))) m)

-- what holds of every block of a chain holds of every block of the parent's
every_parent : (r : Book) (p : ℕ → Bool) (b : ℕ) → 0 < b → every p (chain r b) ≡ true → every p (chain r (parent_of r b)) ≡ true
unfolding every
every_parent r p b h e =
    both_right (p b) (every p (chain r (parent_of r b))) (subst (λ (c : List ℕ). every p c ≡ true) (chain_step r b h) e)

-- a chain that is notarised by a test is so by every test that its blocks then pass too
pub notarised_more : (r : Book) {p p' : ℕ → Bool} (b : ℕ) → ((x : ℕ) → member x (chain r b) ≡ true → p x ≡ true → p' x ≡ true)
    → chain_notarised_by r p b ≡ true → chain_notarised_by r p' b ≡ true
unfolding chain_notarised_by
notarised_more r {p} {p'} b pass n = both_make _ _ (both_left _ _ n) (every_same p p' (chain r b) pass (both_right _ _ n))

-- the parent's chain of a notarised chain is notarised
pub notarised_parent : (r : Book) (p : ℕ → Bool) (b : ℕ) → 0 < b → chain_notarised_by r p b ≡ true → chain_notarised_by r p (parent_of r b) ≡ true
unfolding chain_notarised_by
notarised_parent r p b h n =
    both_make _ _ (every_parent r _ b h (both_left _ _ n)) (every_parent r _ b h (both_right _ _ n))

-- the chain of genesis is notarised by every test
pub genesis_notarised : (r : Book) (p : ℕ → Bool) → chain_notarised_by r p 0 ≡ true
unfolding chain_notarised_by every both
genesis_notarised r p = rw (chain_genesis r)

-- the last block of a notarised chain passes the test
pub last_notarised : (r : Book) (p : ℕ → Bool) (b : ℕ) → 0 < b → chain_notarised_by r p b ≡ true → p b ≡ true
unfolding chain_notarised_by
last_notarised r p b h n = every_at _ (chain r b) b (both_right _ _ n) (on_own_chain r b h)

-- and its epoch is later than its parent's
pub last_later : (r : Book) (p : ℕ → Bool) (b : ℕ) → 0 < b → chain_notarised_by r p b ≡ true → epoch_of r (parent_of r b) < epoch_of r b
unfolding chain_notarised_by
last_later r p b h n = ltb-true _ _ (every_at _ (chain r b) b (both_left _ _ n) (on_own_chain r b h))

-- what passes from every block to its parent passes from a block to all on its chain
on_chain_down : (r : Book) (P : ℕ → Type 0) → ((b : ℕ) → 0 < b → P b → P (parent_of r b)) → (x b : ℕ)
    → member x (chain r b) ≡ true → P b → P x
unfolding member
on_chain_down r P down x =
    chain_induction r (λ (b : ℕ). member x (chain r b) ≡ true → P b → P x)
    (λ m p. clash (subst (λ (c : List ℕ). member x c ≡ true) (chain_genesis r) m) refl)
    (λ b h ih m p.
    ⊎_elim (λ e. subst⁻¹ P (eqb-true x b e) p) (λ l. ih l (down b h p))
    (either_cases (eqb x b) (member x (chain r (parent_of r b))) (subst (λ (c : List ℕ). member x c ≡ true) (chain_step r b h) m)))

-- the chain of every block on a notarised chain is notarised
pub notarised_on : (r : Book) (p : ℕ → Bool) (x b : ℕ) → member x (chain r b) ≡ true → chain_notarised_by r p b ≡ true
    → chain_notarised_by r p x ≡ true
notarised_on r p = on_chain_down r (λ (y : ℕ). chain_notarised_by r p y ≡ true) (notarised_parent r p)

-- a block on the chain of b is no greater than b
pub on_chain_le : (r : Book) (x b : ℕ) → member x (chain r b) ≡ true → x ≤ b
on_chain_le r x b m = on_chain_down r (λ (y : ℕ). y ≤ b) (λ y h l. omega (arith, parent_lt r y h)) x b m (omega arith)

-- a block on the chain of b whose own chain has length k
pub record Ancestor (r : Book) (b k : ℕ) : Type 0 where
  pub block : ℕ
  pub on_chain : member block (chain r b) ≡ true
  pub above_genesis : 0 < block
  pub length : chain_length r block ≡ k

-- a chain has a block of each length from 1 up to its own
pub ancestor : (r : Book) (k b : ℕ) → 0 < k → k ≤ chain_length r b → Ancestor r b k
ancestor r k b pos =
    chain_induction r (λ (b : ℕ). k ≤ chain_length r b → Ancestor r b k) (λ l. absurd (omega (arith, length_genesis r)))
    (λ b h ih l.
    elim (ℕ_discrete (chain_length r b) k) as (λ _. Ancestor r b k) [
      | yes e ↦ record { block = b; on_chain = on_own_chain r b h; above_genesis = h; length = e }
      | no d ↦ let a : Ancestor r (parent_of r b) k = ih (omega (arith, d, length_step r b h)) in
          record {
            block = a.block;
            on_chain = on_longer_chain r b a.block h a.on_chain;
            above_genesis = a.above_genesis;
            length = a.length;
          }
    ])
    b

-- two registers that agree on the parents of all blocks up to b agree on the chain of b
pub chain_kept : (r s : Book) (b : ℕ) → ((x : ℕ) → x ≤ b → parent_of s x ≡ parent_of r x) → chain s b ≡ chain r b
chain_kept r s =
    chain_induction r (λ (b : ℕ). ((x : ℕ) → x ≤ b → parent_of s x ≡ parent_of r x) → chain s b ≡ chain r b)
    (λ same. chain_genesis s ∙ sym (chain_genesis r))
    (λ b h ih same.
    chain_step s b h
    ∙ ap (λ (x : ℕ). b ∷ chain s x) (same b (omega arith))
    ∙ ap (λ (c : List ℕ). b ∷ c) (ih (λ x l. same x (omega (arith, parent_lt r b h))))
    ∙ sym (chain_step r b h))
