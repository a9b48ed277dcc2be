-- Tests that rules are made of: joined tests, tests of every number below a limit, tests of every entry of a list.
use Rattle.std.specs.Prelude.{ℕ, zero, suc, Bool, true, false, List, [], ◌∷◌, eqb, leb}

-- the first value where the test holds, else the second
unfoldable pub choose : {A : Type 0} → Bool → A → A → A
choose true x y = x
choose false x y = y

-- both tests hold
unfoldable pub both : Bool → Bool → Bool
both true t = t
both false t = false

-- at least one of two tests holds
unfoldable pub either : Bool → Bool → Bool
either true t = true
either false t = t

-- both tests hold or both fail
unfoldable pub agree : Bool → Bool → Bool
agree true true = true
agree true false = false
agree false true = false
agree false false = true

-- a number in a range, whose ends belong to it
unfoldable pub between : (low high : ℕ) → ℕ → Bool
between low high k = both (leb low k) (leb k high)

-- every test of a list holds
unfoldable pub conj : List Bool → Bool
conj [] = true
conj (t ∷ ts) = both t (conj ts)

-- the test holds of every number below n
unfoldable pub all : ℕ → (ℕ → Bool) → Bool
all zero p = true
all (suc n) p = both (all n p) (p n)

-- the test holds of some number below n
unfoldable pub any : ℕ → (ℕ → Bool) → Bool
any zero p = false
any (suc n) p = either (any n p) (p n)

-- the lowest number below n of which the test holds; n where there is none
unfoldable pub lowest : ℕ → (ℕ → Bool) → ℕ
lowest zero p = zero
lowest (suc n) p = choose (p zero) zero (suc (lowest n (λ k. p (suc k))))

-- the test holds of every entry of a list
unfoldable pub every : (ℕ → Bool) → List ℕ → Bool
every p [] = true
every p (x ∷ xs) = both (p x) (every p xs)

-- the number is an entry of the list
unfoldable pub member : ℕ → List ℕ → Bool
member k [] = false
member k (x ∷ xs) = either (eqb k x) (member k xs)
