-- Why no two final chains part: two blocks that the history backs share a trusted signer, and what one trusted office signs is ordered.
use Prim.Native.Nat.{ℕ, suc, ◌<◌, ◌≤◌}
use mathlib.Core.Path.{◌≡◌, ap, ◌∙◌, subst⁻¹}
use mathlib.Core.Bool.{true, false, not}
use native.Mathlib.Omega.{arith}
use native.Mathlib.Decide.{ℕ_discrete}
use borrow.Author.Tests.{not-false}
use Rattle.words.specs.Tests.{member}
use Rattle.words.specs.Sums.{tally, unit, weigh}
use Rattle.words.proofs.Tests.{any_at}
use Rattle.words.proofs.Sums.{always, tally_always}
use Rattle.quorum.proofs.Quorum.{quorum}
use Rattle.register.specs.declared.book.Book.{Book}
use Rattle.register.specs.Tables.{trusted, parent_of, epoch_of}
use Rattle.register.specs.Views.{says, ever_signed}
use Rattle.register.specs.Chains.{chain, chain_length}
use Rattle.register.proofs.Chains.{epoch_genesis, length_step, long_made, last_notarised, last_later, notarised_on, Ancestor, ancestor}
use Rattle.register.proofs.Finalising.{Consecutive, middle_notarised, oldest_notarised}
use Rattle.agreement.proofs.Backing.{backed, Backed, two_thirds}
use Rattle.agreement.proofs.Safety.{Signature, Ordered, same, before, after, Safe, signature}

-- a signature that the history has
in_history_lem : (r : Book) (h b : ℕ) → ever_signed r h b ≡ true → Signature r h b
unfolding ever_signed
in_history_lem r h b t =
    let f : (m : ℕ) × (m < r.count) × (says r h b m ≡ true) = any_at _ r.count t in
    signature r h b f.0 f.1 f.2

module _ {r : Book} (safe : Safe r) where
  -- two backed blocks share a trusted signer
  pub shared_signer : (x y : ℕ) → 0 < x → 0 < y → backed r x ≡ true → backed r y ≡ true
      → (h : ℕ) × (trusted r h ≡ true) × Signature r h x × Signature r h y
  unfolding tally
  shared_signer x y px py bx by =
      let whole : weigh unit r.n always ≡ r.n = tally_always r.n in
      let f : (h : ℕ) × (h < r.n) × (ever_signed r h x ≡ true) × (ever_signed r h y ≡ true) × (not (trusted r h) ≡ false) =
      quorum unit r.n (λ h. not (trusted r h)) (λ h. ever_signed r h x) (λ h. ever_signed r h y)
      (omega (arith, safe.few)) (omega (arith, two_thirds r x px bx)) (omega (arith, two_thirds r y py by)) in
      (f.0, not-false _ f.4, in_history_lem r f.0 x f.2, in_history_lem r f.0 y f.3)

  -- so the last blocks of two backed chains are ordered
  both_ordered : (x y : ℕ) → 0 < x → 0 < y → Backed r x → Backed r y → Ordered r x y
  both_ordered x y px py bx by =
      let f : (h : ℕ) × (trusted r h ≡ true) × Signature r h x × Signature r h y =
      shared_signer x y px py (last_notarised r (backed r) x px bx) (last_notarised r (backed r) y py by) in
      safe.ordered f.0 x y f.1 f.2 f.3

  -- two ordered blocks of one epoch are the same
  one_per_epoch : {x y : ℕ} → Ordered r x y → epoch_of r x ≡ epoch_of r y → x ≡ y
  one_per_epoch (same e) h = e
  one_per_epoch (before b) h = absurd (omega (arith, b.earlier))
  one_per_epoch (after b) h = absurd (omega (arith, b.earlier))

  -- of two ordered blocks, the one on the longer parent's chain has the later epoch
  ordered_later : {x y : ℕ} → Ordered r x y → chain_length r (parent_of r x) < chain_length r (parent_of r y) → epoch_of r x < epoch_of r y
  ordered_later (same e) h = absurd (omega (arith, ap (λ (z : ℕ). chain_length r (parent_of r z)) e))
  ordered_later (before b) h = b.earlier
  ordered_later (after b) h = absurd (omega (arith, b.shorter))

  -- Of two backed chains the longer one ends in the later epoch. Where the shorter one is that of genesis, this is because a valid chain's epochs grow
  -- from 0 on.
  longer_later : (x y : ℕ) → Backed r x → Backed r y → chain_length r x < chain_length r y → epoch_of r x < epoch_of r y
  longer_later x y bx by longer =
      let py : 0 < y = long_made r y longer in
      elim (ℕ_discrete x 0) as (λ _. epoch_of r x < epoch_of r y) [
        | yes z ↦ omega (arith, ap (epoch_of r) z, epoch_genesis r, last_later r (backed r) y py by)
        | no n ↦ let px : 0 < x = omega (arith, n) in
            ordered_later (both_ordered x y px py bx by) (omega (arith, length_step r x px, length_step r y py))
      ]

  -- The middle one of three consecutive blocks is on every backed chain that is at least as long as its own.
  pub middle_on_chain : {b c d : ℕ} (e : ℕ) → Consecutive r (backed r) b c d → Backed r e → chain_length r c ≤ chain_length r e
      → member c (chain r e) ≡ true
  middle_on_chain {b} {c} {d} e three chain_e long =
      let len-b : chain_length r b ≡ suc (chain_length r c) = one_longer three.newest three.parent in
      let len-c : chain_length r c ≡ suc (chain_length r d) = one_longer three.middle three.grandparent in
      let peer : Ancestor r e (chain_length r c) = ancestor r (chain_length r c) e (omega arith) long in
      let x : ℕ = peer.block in
      let chain-x : Backed r x = notarised_on r (backed r) x e peer.on_chain chain_e in
      let above-d : epoch_of r d < epoch_of r x = longer_later d x (oldest_notarised three) chain-x (omega (arith, peer.length)) in
      let below-b : epoch_of r x < epoch_of r b = longer_later x b chain-x three.chain (omega (arith, peer.length)) in
      let is_c : c ≡ x =
      one_per_epoch (both_ordered c x three.middle peer.above_genesis (middle_notarised three) chain-x)
      (omega (arith, three.one_later, three.two_later)) in
      subst⁻¹ (λ (y : ℕ). member y (chain r e) ≡ true) is_c peer.on_chain
    where
      -- a chain is one longer than that of its last block's parent
      one_longer : {b c : ℕ} → 0 < b → parent_of r b ≡ c → chain_length r b ≡ suc (chain_length r c)
      one_longer {b} pos e = length_step r b pos ∙ ap (λ (y : ℕ). suc (chain_length r y)) e
