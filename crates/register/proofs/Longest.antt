-- Whose chain is longest in an office's view, as the code finds it in a fit register.
use Prim.Native.Nat.{ℕ, ◌+◌, ◌*◌, ◌<◌, min}
use mathlib.Core.Path.{◌≡◌, refl, sym, ap, ◌∙◌}
use mathlib.Core.Bool.{Bool, true, false}
use mathlib.Core.List.{List}
use native.Mathlib.Omega.{arith}
use native.Mathlib.Decide.{dec_lt}
use borrow.Author.Tests.{ne_eqb, lt-leb, le-ltb}
use lib.Dec.{eqb}
use Rattle.quorum.specs.Enough.{enough}
use Rattle.words.specs.Tests.{both, either}
use Rattle.words.proofs.Tests.{any_fails, both_none}
use Rattle.words.proofs.Sums.{tally_none}
use Rattle.tables.specs.Searches.{view_in, longest_in}
use Rattle.register.specs.Types.{Book}
use Rattle.register.specs.Tables.{trusted}
use Rattle.register.specs.Views.{signs, notarised}
use Rattle.register.specs.Chains.{chain_length, chain_notarised, longer, longest}
use Rattle.register.specs.Fitness.{fit}
use Rattle.register.proofs.Chains.{chain_genesis, genesis_notarised, last_notarised}
use Rattle.register.proofs.Ranges.{fit_counts}
use Rattle.register.proofs.Searching.{view_of, longest_by_lem}
use Rattle.register.proofs.Signing.{unseen}

module _ (r : Book) (q : ℕ) (fits : fit r ≡ true) where
  module _ (t : trusted r q ≡ false) where
    -- in the view of an office that is not trusted no block but genesis is notarised
    bare : (x : ℕ) → 0 < x → notarised r q x ≡ false
    unfolding notarised either enough
    bare x above =
        rw (ne_eqb x 0 (omega arith), tally_none 32 (signs r q x) (λ s. rw (unseen r q t s x, both_none)))
        (lt-leb (2 * r.n) 0 (omega (arith, (fit_counts r fits).some)))

    -- and so no chain but that of genesis
    bare_chain : (x : ℕ) → 0 < x → (n : Bool) → chain_notarised r q x ≡ n → n ≡ false
    bare_chain x above true h = sym (last_notarised r (notarised r q) x above h) ∙ bare x above
    bare_chain x above false h = refl

    -- no chain there is longer than another
    none_longer : (b x : ℕ) → longer r q b x ≡ false
    unfolding both
    none_longer b x =
        elim (dec_lt 0 x) as (λ _. longer r q b x ≡ false) [
          | yes above ↦ rw (bare_chain x above _ refl)
          | no below ↦
              let zero : x ≡ 0 = omega arith in
              rw (zero, chain_genesis r, le-ltb (chain_length r b) 0 (omega arith), both_none)
        ]

    -- so that of genesis is longest, and no other
    pub longest_unseen : (b : ℕ) → eqb b 0 ≡ longest r q b
    unfolding longest both
    longest_unseen b =
        elim (dec_lt 0 b) as (λ _. eqb b 0 ≡ longest r q b) [
          | yes above ↦ rw (ne_eqb b 0 (omega arith), bare_chain b above _ refl)
          | no below ↦
              let zero : b ≡ 0 = omega arith in
              rw (any_fails (longer r q b) (r.last.0 + 1) (λ x l. none_longer b x), zero, genesis_notarised r (notarised r q))
        ]

  -- in a trusted office's view the search finds it
  pub longest_seen : (b : ℕ) (view : List ℕ) (found : Bool) → trusted r q ≡ true → b < 256
      → view ≡ view_in r.places r.signers r.about r.count q
      → found ≡ longest_in view r.parents r.epochs r.last.0 (min r.n 32) b → found ≡ longest r q b
  longest_seen b view found t l seen e =
      let counts = fit_counts r fits in
      let all : min r.count 1024 ≡ r.count = omega (arith, counts.messages) in
      let whole : view ≡ view_of r q = seen ∙ ap (λ (k : ℕ). view_in r.places r.signers r.about k q) (sym all) in
      (rw whole at e) ∙ sym (longest_by_lem r counts.messages counts.offices q t b l (omega (arith, counts.blocks)))
