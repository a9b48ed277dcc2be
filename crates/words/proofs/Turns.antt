-- A list of tests, of which the first that holds answers, beside code that makes the tests by early returns: `search turns` goes down the list
-- by what each branch found.
use Prim.Native.Nat.{ℕ}
use mathlib.Core.Bool.{Bool, true, false, not}
use mathlib.Core.Path.{◌≡◌, refl, sym, ap, ◌∙◌}
use mathlib.Core.List.{List, [], ◌∷◌}
use borrow.Author.Tests.{le-leb, lt-leb, lt-ltb, le-ltb, eq-eqb, ne_eqb, not-false}
use lib.Dec.{eqb}
use Rattle.words.specs.Tests.{choose}
use Rattle.words.specs.Refusals.{Refusal, ◌⇒◌, first}

-- the first test holds
pub hit : (t : Bool) (k : ℕ) (rs : List Refusal) → t ≡ true → k ≡ first ((t ⇒ k) ∷ rs)
unfolding first choose
hit t k rs e = rw e

-- the first test fails, and the others answer
pub skip : (t : Bool) (r k : ℕ) (rs : List Refusal) → t ≡ false → r ≡ first rs → r ≡ first ((t ⇒ k) ∷ rs)
unfolding first choose
skip t r k rs e f = rw e f

-- no test is left
pub none : 0 ≡ first []
unfolding first
none = refl

-- what a call answered is what the test says
pub answered : (r t u : Bool) → r ≡ t → r ≡ u → t ≡ u
answered r t u e f = sym e ∙ f

pub unanswered : (r t u : Bool) → r ≡ t → not r ≡ u → not t ≡ u
unanswered r t u e f = ap not (sym e) ∙ f

pub answered_not : (r t : Bool) → r ≡ t → not r ≡ false → t ≡ true
answered_not r t e f = sym e ∙ not-false r f

-- a number that a call gave is, or is not, the one that the test asks for
pub found_is : (r a b : ℕ) → r ≡ a → r ≡ b → eqb a b ≡ true
found_is r a b e f = eq-eqb a b (sym e ∙ f)

pub found_is_not : (r a b : ℕ) → r ≡ a → (r ≡ b → ⊥) → eqb a b ≡ false
found_is_not r a b e h = ne_eqb a b (λ f. h (e ∙ f))

pub found_eq : (r a b : ℕ) → r ≡ a → r ≡ b → not (eqb a b) ≡ false
found_eq r a b e f = ap not (found_is r a b e f)

pub found_ne : (r a b : ℕ) → r ≡ a → (r ≡ b → ⊥) → not (eqb a b) ≡ true
found_ne r a b e h = ap not (found_is_not r a b e h)

pub ruleset turns = (hit, skip, none, answered, unanswered, answered_not, found_eq, found_ne, found_is, found_is_not, le-leb, lt-leb, lt-ltb, le-ltb, eq-eqb, ne_eqb)
