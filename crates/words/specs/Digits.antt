-- Words with one digit per office: base 2 for a set of offices, base 4 for the stages of a message.
use Rattle.std.specs.Prelude.{ℕ, zero, suc, ◌+◌, ◌*◌, ◌/◌, ◌%◌, ◌^◌, Bool, not, eqb}
use Rattle.words.specs.Tests.{choose, either, all}
use Rattle.words.specs.Sums.{tally}

-- digit q of a word, counted from the least significant, which is digit 0
unfoldable pub digit : (base : ℕ) → (word : ℕ) → (q : ℕ) → ℕ
digit base word q = word / base ^ q % base

-- the word with the digit f q at each place q below n, and 0 from n up
unfoldable pub fill : (base : ℕ) → (n : ℕ) → (f : ℕ → ℕ) → ℕ
fill base zero f = zero
fill base (suc n) f = fill base n f + f n * base ^ n

-- office q is in the set: its bit is 1
abbrev pub in_set : (set : ℕ) → (q : ℕ) → Bool
in_set set q = eqb (digit 2 set q) 1

-- the set of the offices of which a test holds, a word of 32 bits
unfoldable pub set_of : (ℕ → Bool) → ℕ
set_of p = fill 2 32 (λ q. choose (p q) 1 0)

-- the set with office q in it
unfoldable pub with_member : (set : ℕ) → (q : ℕ) → ℕ
with_member set q = set_of (λ k. either (in_set set k) (eqb q k))

-- every office of a set is in another one
unfoldable pub within : (set other : ℕ) → Bool
within set other = all 32 (λ q. either (not (in_set set q)) (in_set other q))

-- how many of a set's 32 bits are 1
abbrev pub set_bits : (set : ℕ) → ℕ
set_bits set = tally 32 (in_set set)

-- the stages of a message, a word of 32 digits in base 4, with that stage for office q
unfoldable pub with_stage : (word : ℕ) → (q : ℕ) → (stage : ℕ) → ℕ
with_stage word q stage = fill 4 32 (λ k. choose (eqb k q) (stage % 4) (digit 4 word k))
