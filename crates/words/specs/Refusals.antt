-- A list of numbered tests in the order in which they are made, and the number that it answers.
use Rattle.std.specs.Prelude.{ℕ, zero, Bool, List, [], ◌∷◌, eqb}
use Rattle.words.specs.Tests.{choose}

infix 20 ◌⇒◌
-- a test and the number of the refusal that it brings
pub record Refusal : Type 0 where
  pub test : Bool
  pub number : ℕ

abbrev pub ◌⇒◌ : Bool → ℕ → Refusal
t ⇒ k = record { test = t; number = k }

-- the number of the first test that holds, 0 where none does
unfoldable pub first : List Refusal → ℕ
first [] = zero
first (r ∷ rs) = choose r.test r.number (first rs)

-- the tests before the one with that number
unfoldable pub until : ℕ → List Refusal → List Refusal
until k [] = []
until k (r ∷ rs) = choose (eqb k r.number) [] (r ∷ until k rs)

-- the tests from the one with that number on
unfoldable pub since : ℕ → List Refusal → List Refusal
since k [] = []
since k (r ∷ rs) = choose (eqb k r.number) (r ∷ rs) (since k rs)
