-- What an opening is refused with.
use Rattle.std.specs.Prelude.{ℕ, ◌*◌, Bool, not, List, [], ◌∷◌, leb, length, get_or}
use Rattle.words.specs.Tests.{any, between}
use Rattle.words.specs.Sums.{tally}
use Rattle.words.specs.Digits.{in_set}
use Rattle.words.specs.Refusals.{Refusal, ◌⇒◌, first}

-- how many of the n offices have the trust bit 0
unfoldable pub untrusted : (n : ℕ) → (trust : ℕ) → ℕ
untrusted n trust = tally n (λ q. not (in_set trust q))

-- so many untrusted of n offices are too many: 3 × untrusted ≥ n
unfoldable pub too_many : (untrusted : ℕ) → (n : ℕ) → Bool
too_many untrusted n = leb n (3 * untrusted)

-- a leader that is no office
unfoldable pub stray : (n : ℕ) → (schedule : List ℕ) → Bool
stray n schedule = any (length schedule) (λ i. leb n (get_or schedule i 0))

-- 1 count, 2 schedule, 3 stray leader, 4 third
abbrev pub opening_tests : (n trust : ℕ) → (schedule : List ℕ) → List Refusal
opening_tests n trust schedule =
    (not (between 1 32 n) ⇒ 1)
    ∷ (not (between 1 256 (length schedule)) ⇒ 2)
    ∷ (stray n schedule ⇒ 3)
    ∷ (too_many (untrusted n trust) n ⇒ 4)
    ∷ []

unfoldable pub opening_refusal : (n trust : ℕ) → (schedule : List ℕ) → ℕ
opening_refusal n trust schedule = first (opening_tests n trust schedule)
