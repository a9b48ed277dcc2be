-- Counting offices from the last one: a row's number has the bit of office q at place n - 1 - q.
use Prim.Native.Nat.{ℕ, zero, suc, ◌+◌, ◌-◌, ◌≤◌, ◌<◌, ◌^◌}
use mathlib.Core.Path.{◌≡◌, refl, ap, ◌∙◌}
use mathlib.Core.Bool.{Bool, true, not}
use mathlib.Core.List.{List, [], ◌∷◌, map}
use native.Mathlib.Decide.{dec_lt}
use native.Mathlib.Omega.{arith}
use borrow.Author.Tests.{eq-eqb, eqb-true, lt-ltb}
use lib.Dec.{eqb}
use lib.ListN.{length, get_or}
use Rattle.words.specs.Tests.{choose, either, all}
use Rattle.words.specs.Sums.{tally, unit, weigh}
use Rattle.words.specs.Digits.{in_set, within}
use Rattle.words.proofs.Tests.{all_at, all_make, any_same, both_ways}
use Rattle.words.proofs.Sums.{tally_ext}
use Rattle.words.proofs.Digits.{digit_past}
use Rattle.tables.specs.Messages.{says_in}
use Rattle.tables.specs.Searches.{signed_in}
use Rattle.slip.specs.Rows.{mirror}

-- the first number of a count, and then the others
tally_front : (n : ℕ) (p : ℕ → Bool) → tally (suc n) p ≡ choose (p 0) 1 0 + tally n (λ q. p (suc q))
unfolding tally weigh unit
tally_front zero p = omega arith
tally_front (suc n) p = omega (arith, tally_front n p)

-- counting from the last number on counts the same
pub tally_mirror : (n : ℕ) (p : ℕ → Bool) → tally n p ≡ tally n (λ q. p (n - 1 - q))
unfolding tally weigh unit
tally_mirror zero p = refl
tally_mirror (suc n) p =
    let last : ◌≡◌ {A = ℕ} (choose (p (n - 0)) 1 0) (choose (p n) 1 0) = ap (λ (k : ℕ). choose {A = ℕ} (p k) 1 0) (omega arith) in
    let others : tally n (λ q. p (n - 1 - q)) ≡ tally n (λ q. p (n - suc q)) = tally_ext n _ _ (λ q h. ap p (omega arith)) in
    let all : tally (suc n) (λ q. p (suc n - 1 - q)) ≡ tally (suc n) (λ q. p (n - q)) = tally_ext (suc n) _ _ (λ q h. ap p (omega arith)) in
    omega (arith, tally_mirror n p, tally_front n (λ q. p (n - q)), last, others, all)

-- an office's place in a row
pub mirror_below : (n q : ℕ) → q < n → mirror n q ≡ n - 1 - q
unfolding mirror choose
mirror_below n q h = rw (lt-ltb q n h)

-- two offices have one place where they are one
mirror_same : (n s q : ℕ) → s < n → q < n → eqb (mirror n s) (n - 1 - q) ≡ eqb s q
mirror_same n s q hs hq =
    rw (mirror_below n s hs)
    (both_ways _ _
    (λ e. eq-eqb s q (omega (arith, eqb-true (n - 1 - s) (n - 1 - q) e)))
    (λ e. eq-eqb (n - 1 - s) (n - 1 - q) (omega (arith, eqb-true s q e))))

-- an entry of a list under a function
get_or_under : (f : ℕ → ℕ) (l : List ℕ) (i : ℕ) → i < length l → get_or (map f l) i 0 ≡ f (get_or l i 0)
get_or_under f [] i h = absurd (omega arith)
get_or_under f (x ∷ l) zero h = refl
get_or_under f (x ∷ l) (suc i) h = get_or_under f l i (omega arith)

-- an office's signature in a view is at its place in the rows of that view, where every signer is an office
pub signed_mirror : (places signers about : List ℕ) (count n q s b : ℕ) → count ≤ length signers
    → ((m : ℕ) → m < count → get_or signers m 0 < n) → s < n
    → signed_in places (map (mirror n) signers) about count q (n - 1 - s) b ≡ signed_in places signers about count q s b
unfolding signed_in says_in
signed_mirror places signers about count n q s b sent below hs =
    any_same _ _ count
    (λ m l. rw (get_or_under (mirror n) signers m (omega arith), mirror_same n (get_or signers m 0) s (below m l) hs))

-- One set is within another where the marks are among the signers, if a mark on an office and its signature are at the office's place, and the first
-- set has no bit from n up.
pub within_mirror : (n set other : ℕ) (marked signed : ℕ → Bool) → n ≤ 32 → set < 2 ^ n
    → ((q : ℕ) → q < n → in_set set (n - 1 - q) ≡ marked q) → ((q : ℕ) → q < n → in_set other (n - 1 - q) ≡ signed q)
    → within set other ≡ all n (λ q. either (not (marked q)) (signed q))
unfolding within either
within_mirror n set other marked signed few low marks signs =
    both_ways _ _
    (λ h. all_make _ n (λ q l. rw (← marks q l, ← signs q l) (all_at _ 32 (n - 1 - q) h (omega arith))))
    (λ h. all_make _ 32 (λ k l. at k h (dec_lt k n)))
  where
    at : (k : ℕ) → all n (λ q. either (not (marked q)) (signed q)) ≡ true → Dec (k < n) → either (not (in_set set k)) (in_set other k) ≡ true
    at k h (yes l) =
        let there : n - 1 - (n - 1 - k) ≡ k = omega arith in
        let q : ℕ = n - 1 - k in
        rw there at (rw (← marks q (omega arith), ← signs q (omega arith)) at (all_at _ n q h (omega arith)))
    at k h (no past) = rw (digit_past 2 set n k low (omega arith))

-- so many members has a set whose bits are marks
pub tally_marks : (n set : ℕ) (marked : ℕ → Bool) → ((q : ℕ) → q < n → in_set set (n - 1 - q) ≡ marked q) → tally n (in_set set) ≡ tally n marked
tally_marks n set marked marks = tally_mirror n (in_set set) ∙ tally_ext n _ marked marks
