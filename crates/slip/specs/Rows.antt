-- Definitions that only the contracts of the code cite, in src/: the rows of a slip as words, and the tests that are made of them.
use Rattle.std.specs.Prelude.{ℕ, ◌+◌, ◌*◌, ◌-◌, Bool, List, [], ◌∷◌, ◌++◌, ltb, length, get_or, replicate}
use Rattle.words.specs.Tests.{choose, both}
use Rattle.words.specs.Digits.{within}
use Rattle.tables.specs.Chains.{chain_by}
use Rattle.tables.specs.Searches.{messages, enough_in}
use Rattle.packed_log.specs.Bits.{to_bits, field}

-- the place of office q's bit in a row of n bits, from the lowest on; a number from n up keeps its own
unfoldable pub mirror : (n q : ℕ) → ℕ
mirror n q = choose (ltb q n) (n - 1 - q) q

-- the words of messages that are in every office's view
unfoldable pub everywhere : List ℕ
everywhere = replicate messages 18446744073709551615

-- the row of block x, as a number, in a slip about a chain on which it stands
unfoldable pub row_in : (slip : List ℕ) → (parent : ℕ → ℕ) → (n x : ℕ) → ℕ
row_in slip parent n x = field slip (8 + n * (length (chain_by parent x) - 1)) n

-- its members are among those that the history has for the block
unfoldable pub truth_in : (slip history : List ℕ) → (parent : ℕ → ℕ) → (n x : ℕ) → Bool
truth_in slip history parent n x = within (row_in slip parent n x) (get_or history x 0)

-- the block can stand on a chain that is notarised by the slip: its epoch is greater than its parent's, and its row has enough members
unfoldable pub link_in : (slip : List ℕ) → (parent epoch : ℕ → ℕ) → (n x : ℕ) → Bool
link_in slip parent epoch n x = both (ltb (epoch (parent x)) (epoch x)) (enough_in (row_in slip parent n x) n)

-- the bits of a chain's rows, oldest first
unfoldable pub rows_in : (rows : List ℕ) → (n : ℕ) → (chain : List ℕ) → List Bool
rows_in rows n [] = []
rows_in rows n (newest ∷ older) = rows_in rows n older ++ to_bits n (get_or rows newest 0)
