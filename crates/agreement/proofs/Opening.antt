-- The register of an opening that is not refused is safe.
use Prim.Native.Nat.{ℕ, ◌*◌, ◌<◌, ◌≤◌}
use mathlib.Core.Path.{◌≡◌, ap, ap₂, subst, subst⁻¹}
use mathlib.Core.Bool.{Bool, true, not}
use mathlib.Core.List.{List}
use native.Mathlib.Omega.{arith}
use native.Mathlib.Decide.{dec_lt}
use borrow.Author.Tests.{leb-false, lt-ltb}
use lib.Dec.{eqb}
use lib.ListN.{get_or, replicate, length-replicate, get_or-replicate, get_or-eq_default}
use Rattle.quorum.specs.Opening.{untrusted, too_many, opening_tests, opening_refusal}
use Rattle.words.specs.Tests.{both}
use Rattle.words.specs.Sums.{tally, unit, weigh}
use Rattle.words.specs.Digits.{digit}
use Rattle.words.proofs.Sums.{weigh_more}
use Rattle.words.proofs.Digits.{digit_lt, digit_fill}
use Rattle.words.proofs.Clearing.{clear}
use Rattle.tables.specs.Blocks.{trusted_in}
use Rattle.register.specs.declared.table.OfficeState.{OfficeState}
use Rattle.register.specs.Books.{block, book_of}
use Rattle.register.specs.Tables.{trusted}
use Rattle.register.proofs.Ranges.{Ranges}
use Rattle.register.proofs.FitOpening.{opening_book, ranges_opening}
use Rattle.register.specs.Opening.{blank, fresh_book, opening}
use Rattle.register.specs.Runs.{Run, opened}
use Rattle.agreement.proofs.Safety.{genesis, Safe}

-- a list that repeats its own default gives it at every place
repeated : {A : Type 0} (n i : ℕ) (a : A) → get_or (replicate n a) i a ≡ a
repeated n i a = by (dec_lt i n)
  where
    by : Dec (i < n) → get_or (replicate n a) i a ≡ a
    by (yes h) = get_or-replicate n i a a h
    by (no h) = get_or-eq_default (replicate n a) a (omega (arith, length-replicate n a))

-- the offices that a fresh register trusts are those of the word that it was opened with
trusted_fresh_book : (n trust : ℕ) (schedule : List ℕ) (q : ℕ) → q < n → trusted (fresh_book n trust schedule) q ≡ eqb (digit 2 trust q) 1
unfolding trusted_in fresh_book blank both
trusted_fresh_book n trust schedule q l =
    ap₂ (λ (t : Bool) (d : ℕ). both t (eqb d 1)) (lt-ltb q n l) (digit_fill 2 n (digit 2 trust) (λ x. digit_lt 2 trust x (omega arith)) q l)

-- fewer than a third of a fresh register's offices are untrusted
few_fresh_book : (n trust : ℕ) (schedule : List ℕ) → 3 * untrusted n trust < n
    → 3 * tally n (λ q. not (trusted (fresh_book n trust schedule) q)) < n
unfolding untrusted tally
few_fresh_book n trust schedule few =
    let fewer : weigh unit n (λ q. not (trusted (fresh_book n trust schedule) q)) ≤ weigh unit n (λ q. not (eqb (digit 2 trust q) 1)) =
    weigh_more unit n _ _ (λ q l h. subst (λ (t : Bool). not t ≡ true) (trusted_fresh_book n trust schedule q l) h) in
    omega arith

safe_fresh_book : (n trust : ℕ) (schedule : List ℕ) → Ranges (fresh_book n trust schedule) → 3 * untrusted n trust < n → Safe (fresh_book n trust schedule)
unfolding fresh_book blank
safe_fresh_book n trust schedule ranges few =
    record {
      ranges = ranges;
      few = few_fresh_book n trust schedule few;
      vouched = λ h x t s. absurd (omega (arith, s.sent));
      ordered = λ h x y t s u. absurd (omega (arith, s.sent));
      final = λ p t. genesis (ap (λ (s : OfficeState). s.finalised.0) (repeated 32 p (record { finalised = block 0 })));
    }

-- the book of an opening that is not refused
pub safe_opened : (run : Run) → Safe (book_of (opened run))
unfolding opened opening_refusal too_many opening
safe_opened run =
    let n : ℕ = run.n in
    let trust : ℕ = run.trust in
    let is : book_of (opening n trust run.schedule).register ≡ fresh_book n trust run.schedule =
    opening_book n trust run.schedule run.accepted in
    let fails = clear (opening_tests n trust run.schedule) run.accepted in
    subst⁻¹ Safe is
    (safe_fresh_book n trust run.schedule (subst Ranges is (ranges_opening n trust run.schedule run.accepted))
    (leb-false n (3 * untrusted n trust) fails.1.1.1.0))
