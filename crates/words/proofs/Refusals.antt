-- What a list of numbered tests says of each test.
use Prim.Native.Nat.{ℕ, suc, ◌<◌}
use mathlib.Core.Path.{◌≡◌, refl}
use mathlib.Core.Bool.{Bool, true, false}
use mathlib.Core.List.{List, [], ◌∷◌, ◌++◌}
use native.Mathlib.Omega.{arith}
use borrow.Author.Tests.{eqb-true, eqb-false, ltb-true}
use lib.Dec.{eqb, ltb}
use Rattle.words.specs.Tests.{choose, both}
use Rattle.words.proofs.Tests.{both_left, both_right}
use Rattle.words.specs.Refusals.{Refusal, first, until, since}

-- the test with that number; false where the list has none before an entry that is numbered 0, and so refuses nothing
unfoldable pub numbered : ℕ → List Refusal → Bool
numbered k [] = false
numbered k (r ∷ rs) = choose (eqb k r.number) r.test (choose (eqb 0 r.number) false (numbered k rs))

-- one entry's part in `cleared`
entry : (t e z : Bool) (k m f : ℕ) (later : Bool) → eqb (suc k) m ≡ e → eqb 0 m ≡ z → choose t m f ≡ 0
    → (f ≡ 0 → later ≡ false) → choose e t (choose z false later) ≡ false
unfolding choose
entry false true z k m f later e o h tail = refl
entry false false true k m f later e o h tail = refl
entry false false false k m f later e o h tail = tail h
entry true true z k m f later e o h tail = absurd (omega (arith, eqb-true (suc k) m e))
entry true false true k m f later e o h tail = refl
entry true false false k m f later e o h tail = absurd (eqb-false 0 m o (omega arith))

-- where nothing is refused, the test with a given number fails
pub cleared : (k : ℕ) (rs : List Refusal) → first rs ≡ 0 → numbered (suc k) rs ≡ false
unfolding first numbered
cleared k [] h = refl
cleared k (r ∷ rs) h =
    entry r.test (eqb (suc k) r.number) (eqb 0 r.number) k r.number (first rs) (numbered (suc k) rs) refl refl h
    (cleared k rs)

-- no test of the list is numbered 0
unfoldable pub positive : List Refusal → Bool
positive [] = true
positive (r ∷ rs) = both (ltb 0 r.number) (positive rs)

-- one entry's part in `first_early`
early_entry : (t : Bool) (m f g : ℕ) → (choose t m g ≡ 0 → ⊥) → ((g ≡ 0 → ⊥) → f ≡ g) → choose t m f ≡ choose t m g
unfolding choose
early_entry true m f g some tail = refl
early_entry false m f g some tail = tail some

-- where a test before the one numbered k refuses, it decides
pub first_early : (k : ℕ) (rs : List Refusal) → (first (until k rs) ≡ 0 → ⊥) → first rs ≡ first (until k rs)
unfolding first until choose
first_early k [] some = refl
first_early k (r ∷ rs) some = by (eqb k r.number) some (first_early k rs)
  where
    by : (e : Bool) → (first (choose e [] (r ∷ until k rs)) ≡ 0 → ⊥) → ((first (until k rs) ≡ 0 → ⊥) → first rs ≡ first (until k rs))
        → first (r ∷ rs) ≡ first (choose e [] (r ∷ until k rs))
    by true some tail = absurd (some (unfold first choose in refl))
    by false some tail = unfold first choose in early_entry r.test r.number (first rs) (first (until k rs)) some tail

-- one entry's part in `first_late`
late_entry : (t : Bool) (m u f g : ℕ) → 0 < m → choose t m u ≡ 0 → (u ≡ 0 → f ≡ g) → choose t m f ≡ g
unfolding choose
late_entry true m u f g pos none tail = absurd (omega arith)
late_entry false m u f g pos none tail = tail none

-- where none of them refuses, the tests from the one numbered k on decide
pub first_late : (k : ℕ) (rs : List Refusal) → positive rs ≡ true → first (until k rs) ≡ 0 → first rs ≡ first (since k rs)
unfolding first until since choose positive
first_late k [] p none = refl
first_late k (r ∷ rs) p none = by (eqb k r.number) none (first_late k rs (both_right _ _ p))
  where
    pos : 0 < r.number
    pos = ltb-true 0 r.number (both_left _ _ p)

    by : (e : Bool) → first (choose e [] (r ∷ until k rs)) ≡ 0 → (first (until k rs) ≡ 0 → first rs ≡ first (since k rs))
        → first (r ∷ rs) ≡ first (choose e (r ∷ rs) (since k rs))
    by true none tail = unfold choose in refl
    by false none tail = unfold first choose in late_entry r.test r.number (first (until k rs)) (first rs) _ pos none tail

-- of two lists of tests, the first decides where it refuses
pub first_before : (rs ss : List Refusal) → (first rs ≡ 0 → ⊥) → first (rs ++ ss) ≡ first rs
unfolding first
first_before [] ss some = absurd (some refl)
first_before (r ∷ rs) ss some = early_entry r.test r.number (first (rs ++ ss)) (first rs) some (first_before rs ss)

-- where it does not, the second decides
pub first_behind : (rs ss : List Refusal) → positive rs ≡ true → first rs ≡ 0 → first (rs ++ ss) ≡ first ss
unfolding first positive
first_behind [] ss p none = refl
first_behind (r ∷ rs) ss p none =
    late_entry r.test r.number (first rs) (first (rs ++ ss)) (first ss) (ltb-true 0 r.number (both_left _ _ p)) none (first_behind rs ss (both_right _ _ p))

-- each test of a list fails
unfoldable pub Clear : List Refusal → Type 0
Clear [] = record {}
Clear (r ∷ rs) = (r.test ≡ false) × Clear rs

-- one entry's part in `first_clear`
clear_entry : (t : Bool) (m f : ℕ) → 0 < m → choose t m f ≡ 0 → (t ≡ false) × (f ≡ 0)
unfolding choose
clear_entry true m f pos h = absurd (omega arith)
clear_entry false m f pos h = (refl, h)

-- where a list refuses nothing, and none of its numbers is 0, each test fails
pub first_clear : (rs : List Refusal) → positive rs ≡ true → first rs ≡ 0 → Clear rs
unfolding Clear first positive
first_clear [] p h = record {}
first_clear (r ∷ rs) p h =
    let pos : 0 < r.number = ltb-true 0 r.number (both_left (ltb 0 r.number) (positive rs) p) in
    let none : (r.test ≡ false) × (first rs ≡ 0) = clear_entry r.test r.number (first rs) pos h in
    (none.0, first_clear rs (both_right (ltb 0 r.number) (positive rs) p) none.1)
