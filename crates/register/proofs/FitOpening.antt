-- An opening that is not refused gives a fit register.
use Prim.Native.Nat.{ℕ, ◌≤◌, ◌<◌}
use mathlib.Core.Path.{◌≡◌, ap, ◌∙◌, subst⁻¹}
use mathlib.Core.Bool.{Bool}
use mathlib.Core.List.{List}
use native.Mathlib.Omega.{arith}
use borrow.Author.Tests.{eq-eqb, leb-false, not-false}
use lib.ListN.{length, length-replicate, get_or-replicate, get_or-append}
use Rattle.quorum.specs.Opening.{stray, opening_tests, opening_refusal}
use Rattle.words.specs.Tests.{choose}
use Rattle.words.proofs.Tests.{any_none, between_true}
use Rattle.words.proofs.Clearing.{clear}
use Rattle.register.specs.Types.{OfficeState}
use Rattle.register.specs.Books.{block, book_of}
use Rattle.register.specs.Opening.{leader_table, blank, closed, fresh_book, fresh, opening}
use Rattle.register.specs.Promises.{OpeningsAreFit}
use Rattle.register.proofs.Typing.{book_register}
use Rattle.register.proofs.Ranges.{Ranges, ranges_fit}

module _ (n trust : ℕ) (schedule : List ℕ) where
  -- a fresh book has its numbers in their ranges where the opening's tests have passed
  ranges_fresh : opening_refusal n trust schedule ≡ 0 → Ranges (fresh_book n trust schedule)
  unfolding opening_refusal stray leader_table fresh_book blank
  ranges_fresh h =
      let fails = clear (opening_tests n trust schedule) h in
      let offices : (1 ≤ n) × (n ≤ 32) = between_true 1 32 n (not-false _ fails.0) in
      let epochs : (1 ≤ length schedule) × (length schedule ≤ 256) = between_true 1 256 _ (not-false _ fails.1.0) in
      record {
        counts =
            record {
              some = offices.0;
              offices = offices.1;
              schedule = epochs.1;
              first = omega arith;
              current = epochs.0;
              blocks = omega arith;
              messages = omega arith;
            };
        fixed = λ i l.
            subst⁻¹ (λ (x : ℕ). x < n) (get_or-append schedule _ 0 i l)
            (leb-false _ _ (any_none _ (length schedule) i fails.1.1.0 l));
        blocks = λ k l. absurd (omega arith);
        messages = λ m l. absurd (omega arith);
        finals = λ q l t.
            omega (
              arith,
              ap (λ (s : OfficeState). s.finalised.0) (get_or-replicate 32 q (record { finalised = block 0 }) (record { finalised = block 0 }) (omega arith)),
            );
        sizes =
            record {
              parents = length-replicate {A = ℕ} 256 0;
              epochs = length-replicate {A = ℕ} 256 0;
              signers = length-replicate {A = ℕ} 1024 0;
              about = length-replicate {A = ℕ} 1024 0;
            };
      }

  -- the book of an opening that is not refused is the fresh one
  pub opening_book : (opening n trust schedule).refusal ≡ 0 → book_of (opening n trust schedule).register ≡ fresh_book n trust schedule
  unfolding opening choose fresh
  opening_book h =
      ap (λ (t : Bool). book_of (choose t (fresh n trust schedule) closed)) (eq-eqb _ 0 h)
      ∙ book_register (fresh_book n trust schedule)

  pub ranges_opening : (opening n trust schedule).refusal ≡ 0 → Ranges (book_of (opening n trust schedule).register)
  unfolding opening
  ranges_opening h = subst⁻¹ Ranges (opening_book h) (ranges_fresh h)

-- openings are fit
pub openings_fit : OpeningsAreFit
unfolding OpeningsAreFit
openings_fit n trust schedule h = ranges_fit (ranges_opening n trust schedule h)
