-- What the history backs: a block that enough offices have signed, and a valid chain of such blocks. What is notarised in a view is backed, and what is
-- backed stays so. The laws about two notarised blocks are laws about two backed ones.
use Prim.Native.Nat.{ℕ, ◌*◌, ◌<◌, ◌≤◌}
use mathlib.Core.Path.{◌≡◌, subst⁻¹}
use mathlib.Core.Bool.{Bool, true}
use mathlib.Core.Logic.{⊎_elim}
use native.Mathlib.Omega.{arith}
use borrow.Author.Tests.{eqb-true}
use lib.Dec.{eqb}
use Rattle.words.specs.Tests.{either}
use Rattle.words.specs.Sums.{tally, unit, weigh}
use Rattle.words.proofs.Tests.{either_cases, either_left, either_right}
use Rattle.words.proofs.Sums.{tally_below, weigh_more}
use Rattle.quorum.specs.Enough.{enough}
use Rattle.quorum.proofs.Enough.{enough_make, enough_least}
use Rattle.register.specs.declared.book.Book.{Book}
use Rattle.register.specs.Limits.{most_offices}
use Rattle.register.specs.Views.{signed, ever_signed, notarised}
use Rattle.register.specs.Chains.{chain_notarised_by, chain_notarised}
use Rattle.register.proofs.Chains.{notarised_more}
use Rattle.register.proofs.Finalising.{Consecutive, consecutive_more}
use Rattle.register.proofs.Growth.{Grows, ever_signed_lem, ever_kept, notarised_by_kept, consecutive_kept}

-- enough offices have signed block b, by the history; genesis needs no signer
unfoldable pub backed : Book → ℕ → Bool
backed r b = either (eqb b 0) (enough (tally r.n (λ h. ever_signed r h b)) r.n)

-- the chain of block b is valid, and all its blocks are backed
abbrev pub Backed : Book → ℕ → Type 0
Backed r b = chain_notarised_by r (backed r) b ≡ true

-- a block with enough signers, each of whom the history has, is backed
pub backed_by : (r : Book) (b : ℕ) (p : ℕ → Bool) → ((h : ℕ) → h < r.n → p h ≡ true → ever_signed r h b ≡ true)
    → enough (tally r.n p) r.n ≡ true → backed r b ≡ true
unfolding backed tally
backed_by r b p in_history_lem e =
    either_right _ _ (enough_make _ r.n (omega (arith, weigh_more unit r.n p _ in_history_lem, enough_least _ r.n e)))

-- a notarised block is backed
pub notarised_backed : (r : Book) → r.n ≤ most_offices → (q b : ℕ) → notarised r q b ≡ true → backed r b ≡ true
unfolding notarised backed
notarised_backed r offices q b t =
    ⊎_elim (λ z. either_left _ _ z)
    (λ e. backed_by r b (λ h. signed r q h b) (λ h l. ever_signed_lem r q h b) (rw (tally_below r.n most_offices (λ h. signed r q h b) offices) at e))
    (either_cases (eqb b 0) _ t)

-- so is a notarised chain
pub chain_backed : (r : Book) → r.n ≤ most_offices → (q b : ℕ) → chain_notarised r q b ≡ true → Backed r b
chain_backed r offices q b = notarised_more r b (λ x m. notarised_backed r offices q x)

-- a backed block other than genesis has the signatures of two thirds of the offices
pub two_thirds : (r : Book) (b : ℕ) → 0 < b → backed r b ≡ true → 2 * r.n ≤ 3 * tally r.n (λ h. ever_signed r h b)
unfolding backed
two_thirds r b pos t =
    ⊎_elim (λ z. absurd (omega (arith, eqb-true b 0 z))) (enough_least _ r.n) (either_cases (eqb b 0) _ t)

module _ {r s : Book} (g : Grows r s) where
  -- a backed block stays so
  pub backed_kept : (b : ℕ) → backed r b ≡ true → backed s b ≡ true
  unfolding backed tally
  backed_kept b t =
      let more : weigh unit r.n (λ h. ever_signed r h b) ≤ weigh unit r.n (λ h. ever_signed s h b) =
      weigh_more unit r.n _ _ (λ h l. ever_kept g h b) in
      ⊎_elim (λ z. either_left _ _ z)
      (λ e. either_right _ _
      (subst⁻¹ (λ (n : ℕ). enough (weigh unit n (λ h. ever_signed s h b)) n ≡ true) g.n
      (enough_make _ r.n (omega (arith, more, enough_least _ r.n e)))))
      (either_cases (eqb b 0) _ t)

  -- so does a backed chain
  pub chain_backed_kept : (b : ℕ) → b ≤ r.last.0 → Backed r b → Backed s b
  chain_backed_kept b l t = notarised_more s b (λ x m. backed_kept x) (notarised_by_kept g (backed r) b l t)

  -- and so do three consecutive blocks, the newest of which is on a backed chain
  pub three_kept : {b c d : ℕ} → b ≤ r.last.0 → Consecutive r (backed r) b c d → Consecutive s (backed s) b c d
  three_kept l three = consecutive_more (λ x m. backed_kept x) (consecutive_kept g l three)
