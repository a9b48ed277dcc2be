-- What follows from a test that holds, and what makes it hold.
use Prim.Native.Nat.{ℕ, zero, suc, ◌<◌, ◌≤◌, ◌+◌}
use mathlib.Core.Path.{◌≡◌, refl, sym, ap, subst}
use mathlib.Core.Bool.{Bool, true, false, not, ◌&&◌, ◌||◌}
use mathlib.Core.List.{List, [], ◌∷◌}
use mathlib.Core.Logic.{◌⊎◌, inl, inr, ⊎_elim}
use native.Mathlib.Omega.{arith}
use native.Mathlib.Numerals.{add-one}
use native.Mathlib.Decide.{ℕ_discrete}
use borrow.Author.Tests.{eqb-true, eq-eqb, leb-true, le-leb}
use lib.Dec.{eqb, leb}
use Rattle.words.specs.Tests.{choose, both, either, between, all, any, every, member, lowest, conj}

-- no test both holds and fails
pub clash : {A : Type 0} {t : Bool} → t ≡ true → t ≡ false → A
clash {t = t} h k = let z : ◌≡◌ {A = ℕ} 0 1 = cc in absurd (omega arith)

-- a test holds or fails
pub decided : (t : Bool) → (t ≡ true) ⊎ (t ≡ false)
decided true = inl refl
decided false = inr refl

pub both_left : (a b : Bool) → both a b ≡ true → a ≡ true
unfolding both
both_left true b h = refl
both_left false b h = h

pub both_right : (a b : Bool) → both a b ≡ true → b ≡ true
unfolding both
both_right true b h = h
both_right false b h = clash h refl

pub both_make : (a b : Bool) → a ≡ true → b ≡ true → both a b ≡ true
unfolding both
both_make true b h k = k
both_make false b h k = h

-- where two tests do not both hold and the first does, the second fails
pub both_false : (a b : Bool) → both a b ≡ false → a ≡ true → b ≡ false
unfolding both
both_false true b h k = h
both_false false b h k = clash k refl

-- where the second test fails whenever the first holds, they do not both hold
pub both_fails : (a b : Bool) → (a ≡ true → b ≡ false) → both a b ≡ false
unfolding both
both_fails true b h = h refl
both_fails false b h = refl

pub either_cases : (a b : Bool) → either a b ≡ true → (a ≡ true) ⊎ (b ≡ true)
unfolding either
either_cases true b h = inl refl
either_cases false b h = inr h

pub either_left : (a b : Bool) → a ≡ true → either a b ≡ true
unfolding either
either_left true b h = refl
either_left false b h = clash h refl

pub either_right : (a b : Bool) → b ≡ true → either a b ≡ true
unfolding either
either_right true b h = refl
either_right false b h = h

-- where neither of two tests holds, the first fails
pub either_false_left : (a b : Bool) → either a b ≡ false → a ≡ false
unfolding either
either_false_left true b h = h
either_false_left false b h = refl

-- where neither of two tests holds, the second fails
pub either_false_right : (a b : Bool) → either a b ≡ false → b ≡ false
unfolding either
either_false_right true b h = clash refl h
either_false_right false b h = h

-- where a test fails or another holds, the second holds as soon as the first does
pub implied : (t u : Bool) → either (not t) u ≡ true → t ≡ true → u ≡ true
unfolding either
implied true u h k = h
implied false u h k = clash k refl

-- and the other way round
pub implies : (t u : Bool) → (t ≡ true → u ≡ true) → either (not t) u ≡ true
unfolding either
implies true u h = h refl
implies false u h = refl

module _ (p : ℕ → Bool) where
  -- what holds of all numbers below n holds of each
  pub all_at : (n k : ℕ) → all n p ≡ true → k < n → p k ≡ true
  unfolding all
  all_at zero k h l = absurd (omega arith)
  all_at (suc n) k h l =
      elim (ℕ_discrete k n) as (λ _. p k ≡ true) [
        | yes e ↦ subst (λ (x : ℕ). p x ≡ true) (sym e) (both_right (all n p) (p n) h)
        | no d ↦ all_at n k (both_left (all n p) (p n) h) (omega (arith, d))
      ]

  -- what holds of each number below n holds of all
  pub all_make : (n : ℕ) → ((k : ℕ) → k < n → p k ≡ true) → all n p ≡ true
  unfolding all
  all_make zero h = refl
  all_make (suc n) h = both_make (all n p) (p n) (all_make n (λ k l. h k (omega arith))) (h n (omega arith))

  -- a number below n of which the test holds
  pub any_at : (n : ℕ) → any n p ≡ true → (k : ℕ) × (k < n) × (p k ≡ true)
  unfolding any
  any_at zero h = clash h refl
  any_at (suc n) h =
      ⊎_elim (λ l. let f : (k : ℕ) × (k < n) × (p k ≡ true) = any_at n l in (f.0, omega (arith, f.1), f.2))
      (λ r. (n, omega arith, r)) (either_cases (any n p) (p n) h)

  pub any_make : (n k : ℕ) → k < n → p k ≡ true → any n p ≡ true
  unfolding any
  any_make zero k l h = absurd (omega arith)
  any_make (suc n) k l h =
      elim (ℕ_discrete k n) as (λ _. either (any n p) (p n) ≡ true) [
        | yes e ↦ either_right (any n p) (p n) (subst (λ (x : ℕ). p x ≡ true) e h)
        | no d ↦ either_left (any n p) (p n) (any_make n k (omega (arith, d)) h)
      ]

  -- a number below n of which the test holds is below any greater limit too
  pub any_more : (n m : ℕ) → n ≤ m → any n p ≡ true → any m p ≡ true
  any_more n m few h =
      let f : (k : ℕ) × (k < n) × (p k ≡ true) = any_at n h in
      any_make m f.0 (omega (arith, f.1)) f.2

  -- where the test holds of no number below n, it fails of each
  pub any_none : (n k : ℕ) → any n p ≡ false → k < n → p k ≡ false
  any_none n k h l = ⊎_elim (λ t. clash (any_make n k l t) h) (λ f. f) (decided (p k))

  -- a loop's end: it has tested the numbers below n
  pub any_end : (i n : ℕ) (so_far : Bool) → i ≤ n → n ≤ i → so_far ≡ any i p → so_far ≡ any n p
  any_end i n so_far most least h =
      let end : i ≡ n = omega arith in
      rw end at h

-- the lowest number is below n and the test holds of it, or it is n
abbrev pub Lowest : (n : ℕ) → (ℕ → Bool) → ℕ → Type 0
Lowest n p k = ((k < n) × (p k ≡ true)) ⊎ (k ≡ n)

lowest_step : (n : ℕ) (p : ℕ → Bool) (t : Bool) (k : ℕ) → p zero ≡ t → Lowest n (λ i. p (suc i)) k
    → Lowest (suc n) p (choose t zero (suc k))
unfolding choose
lowest_step n p true k e h = inl (omega arith, e)
lowest_step n p false k e (inl h) = inl (omega (arith, h.0), h.1)
lowest_step n p false k e (inr h) = inr (ap suc h)

pub lowest_is : (n : ℕ) (p : ℕ → Bool) → Lowest n p (lowest n p)
unfolding lowest
lowest_is zero p = inr refl
lowest_is (suc n) p = lowest_step n p (p zero) (lowest n (λ i. p (suc i))) refl (lowest_is n (λ i. p (suc i)))

-- what holds of every entry of a list holds of each
pub every_at : (p : ℕ → Bool) (xs : List ℕ) (k : ℕ) → every p xs ≡ true → member k xs ≡ true → p k ≡ true
unfolding every member
every_at p [] k h m = clash m refl
every_at p (x ∷ xs) k h m =
    ⊎_elim (λ e. subst (λ (y : ℕ). p y ≡ true) (sym (eqb-true k x e)) (both_left (p x) (every p xs) h))
    (λ l. every_at p xs k (both_right (p x) (every p xs) h) l) (either_cases (eqb k x) (member k xs) m)

-- two tests that agree on every entry of a list agree on the list
pub every_same : (p q : ℕ → Bool) (xs : List ℕ) → ((k : ℕ) → member k xs ≡ true → p k ≡ true → q k ≡ true)
    → every p xs ≡ true → every q xs ≡ true
unfolding every member
every_same p q [] h e = refl
every_same p q (x ∷ xs) h e =
    both_make (q x) (every q xs)
    (h x (either_left (eqb x x) (member x xs) (eq-eqb x x refl)) (both_left (p x) (every p xs) e))
    (every_same p q xs (λ k m. h k (either_right (eqb k x) (member k xs) m)) (both_right (p x) (every p xs) e))

-- the code's `&` of two tests
pub and_both : (a b : Bool) → a && b ≡ both a b
unfolding both
and_both true b = refl
and_both false b = refl

-- the code's `|` of two tests
pub or_either : (a b : Bool) → a || b ≡ either a b
unfolding either
or_either true b = refl
or_either false b = refl

module _ (p : ℕ → Bool) (i : ℕ) (so_far t : Bool) where
  -- a loop's next turn: the numbers below i have been tested, and now number i
  pub all_next : so_far ≡ all i p → t ≡ p i → so_far && t ≡ all (i + 1) p
  unfolding all
  all_next h e = rw (h, e, and_both, add-one)

  -- the same where one number that passes is enough
  pub any_next : so_far ≡ any i p → t ≡ p i → so_far || t ≡ any (i + 1) p
  unfolding any
  any_next h e = rw (h, e, or_either, add-one)

-- the code's `&` of four tests
pub and_four : (a b c d : Bool) → a && b && c && d ≡ conj (a ∷ b ∷ c ∷ d ∷ [])
unfolding conj both
and_four true true true true = refl
and_four true true true false = refl
and_four true true false d = refl
and_four true false c d = refl
and_four false b c d = refl

-- and of five
pub and_five : (a b c d e : Bool) → a && b && c && d && e ≡ conj (a ∷ b ∷ c ∷ d ∷ e ∷ [])
unfolding conj both
and_five true b c d e = and_four b c d e
and_five false b c d e = refl

-- two tests that say the same of each number below n
pub any_same : (p q : ℕ → Bool) (n : ℕ) → ((k : ℕ) → k < n → p k ≡ q k) → any n p ≡ any n q
unfolding any
any_same p q zero h = refl
any_same p q (suc n) h = rw (any_same p q n (λ k l. h k (omega arith)), h n (omega arith))

-- what `Lowest` says of a number above 0, said of the number before it
lowest_back : (n k : ℕ) (p : ℕ → Bool) → Lowest (suc n) p (suc k) → Lowest n (λ i. p (suc i)) k
lowest_back n k p (inl h) = inl (omega (arith, h.0), h.1)
lowest_back n k p (inr h) = inr (omega (arith, h))

-- the number of which `Lowest` says so, and before which none passes the test, is the lowest
pub lowest_only : (n k : ℕ) (p : ℕ → Bool) → ((i : ℕ) → i < k → p i ≡ false) → Lowest n p k → lowest n p ≡ k
unfolding lowest choose
lowest_only zero k p none (inl h) = absurd (omega (arith, h.0))
lowest_only zero k p none (inr h) = sym h
lowest_only (suc n) zero p none (inl h) = rw h.1
lowest_only (suc n) zero p none (inr h) = absurd (omega (arith, h))
lowest_only (suc n) (suc k) p none h =
    rw (none zero (omega arith))
    (ap suc (lowest_only n k (λ i. p (suc i)) (λ i l. none (suc i) (omega arith)) (lowest_back n k p h)))

-- a test, and one that never holds
pub both_none : (a : Bool) → both a false ≡ false
unfolding both
both_none true = refl
both_none false = refl

-- a test, and one that always holds
pub both_all : (a : Bool) → both a true ≡ a
unfolding both
both_all true = refl
both_all false = refl

-- a test, or one that never holds
pub either_none : (a : Bool) → either a false ≡ a
unfolding either
either_none true = refl
either_none false = refl

-- a test that fails of each number below n holds of none
pub any_fails : (p : ℕ → Bool) (n : ℕ) → ((k : ℕ) → k < n → p k ≡ false) → any n p ≡ false
unfolding any either
any_fails p zero h = refl
any_fails p (suc n) h = rw (any_fails p n (λ k l. h k (omega arith))) (h n (omega arith))

-- two pairs of tests, paired the other way
both_swap : (a b c d : Bool) → both (both a c) (both b d) ≡ both (both a b) (both c d)
unfolding both
both_swap true true c d = refl
both_swap true false true d = refl
both_swap true false false d = refl
both_swap false b c d = refl

-- two tests of every entry of a list are one
pub every_both : (p q : ℕ → Bool) (xs : List ℕ) → both (every p xs) (every q xs) ≡ every (λ x. both (p x) (q x)) xs
unfolding every both
every_both p q [] = refl
every_both p q (x ∷ xs) = rw (← every_both p q xs) (both_swap (p x) (q x) (every p xs) (every q xs))

-- the range that the test is made for
pub between_true : (low high k : ℕ) → between low high k ≡ true → (low ≤ k) × (k ≤ high)
unfolding between
between_true low high k h =
    (leb-true low k (both_left (leb low k) (leb k high) h), leb-true k high (both_right (leb low k) (leb k high) h))

-- a number in a range passes the range's test
pub between_make : (low high k : ℕ) → (low ≤ k) × (k ≤ high) → between low high k ≡ true
unfolding between
between_make low high k h = both_make _ _ (le-leb low k h.0) (le-leb k high h.1)

-- tests that hold of each other
pub both_ways : (a b : Bool) → (a ≡ true → b ≡ true) → (b ≡ true → a ≡ true) → a ≡ b
both_ways true b h k = sym (h refl)
both_ways false true h k = k refl
both_ways false false h k = refl

-- one more number that a test may hold of
pub any_with : (picked p : ℕ → Bool) (n k : ℕ) → k < n
    → any n (λ m. both (either (picked m) (eqb m k)) (p m)) ≡ either (any n (λ m. both (picked m) (p m))) (p k)
any_with picked p n k below =
    let more : ℕ → Bool = λ m. both (either (picked m) (eqb m k)) (p m) in
    let fewer : ℕ → Bool = λ m. both (picked m) (p m) in
    both_ways (any n more) (either (any n fewer) (p k))
    (λ h.
    let f : (m : ℕ) × (m < n) × (more m ≡ true) = any_at more n h in
    let holds : p f.0 ≡ true = both_right (either (picked f.0) (eqb f.0 k)) (p f.0) f.2 in
    ⊎_elim (λ old. either_left (any n fewer) (p k) (any_make fewer n f.0 f.1 (both_make (picked f.0) (p f.0) old holds)))
    (λ new. either_right (any n fewer) (p k) (subst (λ (m : ℕ). p m ≡ true) (eqb-true f.0 k new) holds))
    (either_cases (picked f.0) (eqb f.0 k) (both_left (either (picked f.0) (eqb f.0 k)) (p f.0) f.2)))
    (λ h.
    ⊎_elim
    (λ old.
    let f : (m : ℕ) × (m < n) × (fewer m ≡ true) = any_at fewer n old in
    any_make more n f.0 f.1
    (both_make (either (picked f.0) (eqb f.0 k)) (p f.0) (either_left (picked f.0) (eqb f.0 k) (both_left (picked f.0) (p f.0) f.2)) (both_right (picked f.0) (p f.0) f.2)))
    (λ new. any_make more n k below (both_make (either (picked k) (eqb k k)) (p k) (either_right (picked k) (eqb k k) (eq-eqb k k refl)) new))
    (either_cases (any n fewer) (p k) h))
