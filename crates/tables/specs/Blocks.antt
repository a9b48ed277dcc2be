-- Offices and blocks, by the columns that hold them. A definition that ends in `_in` speaks of columns; the one of its name that ends in
-- `_of`, or in nothing, speaks of a register and stands in the specs of `register`.
use Rattle.std.specs.Prelude.{ℕ, ◌+◌, Bool, List, eqb, ltb, leb, get_or}
use Rattle.words.specs.Tests.{choose, both, lowest}
use Rattle.words.specs.Digits.{in_set}

-- the office is there, and its bit in the trust word is 1
unfoldable pub trusted_in : (n trust : ℕ) → (q : ℕ) → Bool
trusted_in n trust q = both (ltb q n) (in_set trust q)

-- a block from 1 up to the last
unfoldable pub made_in : (last : ℕ) → ℕ → Bool
made_in last b = both (ltb 0 b) (leb b last)

-- a block's parent; genesis where the block has none, or where its entry names no smaller block
unfoldable pub parent_in : (parents : List ℕ) → (last : ℕ) → ℕ → ℕ
parent_in parents last b = choose (both (made_in last b) (ltb (get_or parents b 0) b)) (get_or parents b 0) 0

-- a block's epoch; genesis has epoch 0
unfoldable pub epoch_in : (epochs : List ℕ) → (last : ℕ) → ℕ → ℕ
epoch_in epochs last b = choose (made_in last b) (get_or epochs b 0) 0

-- block b has parent p, epoch e and payload w
unfoldable pub matches_in : (parents epochs payloads : List ℕ) → (last : ℕ) → (p e w : ℕ) → (b : ℕ) → Bool
matches_in parents epochs payloads last p e w b =
    both (eqb (parent_in parents last b) p) (both (eqb (epoch_in epochs last b) e) (eqb (get_or payloads b 0) w))

-- the lowest block from 1 up that has that parent, epoch and payload; the next number where there is none
unfoldable pub named_in : (parents epochs payloads : List ℕ) → (last : ℕ) → (p e w : ℕ) → ℕ
named_in parents epochs payloads last p e w = lowest last (λ k. matches_in parents epochs payloads last p e w (k + 1)) + 1
