-- What a list of tests tells where each of its tests decided: of joined tests that hold, and of numbered tests that refuse nothing.
use Prim.Native.Nat.{ℕ, zero, suc}
use mathlib.Core.Bool.{Bool, true, false}
use mathlib.Core.Path.{◌≡◌, refl}
use mathlib.Core.List.{List, [], ◌∷◌}
use native.Mathlib.Omega.{arith}
use Rattle.words.specs.Tests.{choose, conj}
use Rattle.words.specs.Refusals.{Refusal, first}
use Rattle.words.proofs.Tests.{both_left, both_right, both_make}

-- every test of a list holds
abbrev pub Holds : List Bool → Type 0
Holds [] = Unit
Holds (t ∷ ts) = (t ≡ true) × Holds ts

pub holds : (ts : List Bool) → conj ts ≡ true → Holds ts
unfolding conj
holds [] h = tt
holds (t ∷ ts) h = (both_left t (conj ts) h, holds ts (both_right t (conj ts) h))

-- and the other way round
pub hold : (ts : List Bool) → Holds ts → conj ts ≡ true
unfolding conj
hold [] h = refl
hold (t ∷ ts) h = both_make t (conj ts) h.0 (hold ts h.1)

-- the test fails, and what follows holds; past a test whose number is 0 nothing is known
abbrev pub Fails : Bool → ℕ → Type 0 → Type 0
Fails t zero rest = Unit
Fails t (suc k) rest = (t ≡ false) × rest

-- every test of a list of numbered tests fails
abbrev pub Clear : List Refusal → Type 0
Clear [] = Unit
Clear (r ∷ rs) = Fails r.test r.number (Clear rs)

-- one entry's part in `clear`
clear_entry : (t : Bool) (k f : ℕ) (rest : Type 0) → (f ≡ 0 → rest) → choose t k f ≡ 0 → Fails t k rest
unfolding choose
clear_entry t zero f rest tail h = tt
clear_entry true (suc k) f rest tail h = absurd (omega arith)
clear_entry false (suc k) f rest tail h = (refl, tail h)

-- where nothing is refused, every test fails
pub clear : (rs : List Refusal) → first rs ≡ 0 → Clear rs
unfolding first
clear [] h = tt
clear (r ∷ rs) h = clear_entry r.test r.number (first rs) (Clear rs) (clear rs) h
