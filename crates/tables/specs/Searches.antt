-- Definitions that only the contracts of the code's own searches cite, in src/: the rules never name them. In the proofs of `register`,
-- Searching.antt says what they are in the rules' terms. Each takes the columns or functions that the code reads.
use Rattle.std.specs.Prelude.{ℕ, zero, suc, ◌+◌, ◌-◌, ◌<◌, ◌≡◌, Bool, not, List, [], ◌∷◌, eqb, ltb, length, get_or}
use Rattle.quorum.specs.Enough.{enough}
use Rattle.words.specs.Tests.{choose, both, any, every}
use Rattle.words.specs.Sums.{tally}
use Rattle.words.specs.Digits.{digit, in_set, set_of}
use Rattle.tables.specs.Blocks.{parent_in, epoch_in}
use Rattle.tables.specs.Messages.{view, says_in}
use Rattle.tables.specs.Chains.{chain_by}

-- the most messages, blocks and offices that there can be: the columns have so many entries, and a set so many digits
abbrev pub messages : ℕ
messages = 1024

abbrev pub blocks : ℕ
blocks = 256

abbrev pub offices : ℕ
offices = 32

-- a signature on block b is in the view of office q, which is trusted: a message there has that signer and that block
unfoldable pub signed_in : (places signers about : List ℕ) → (count : ℕ) → (q signer b : ℕ) → Bool
signed_in places signers about count q signer b =
    any count (λ m. both (eqb (digit 4 (get_or places m 0) q) view) (says_in signers about signer b m))

-- the signers of block b in office q's view, as a set
unfoldable pub signers_in : (places signers about : List ℕ) → (count : ℕ) → (q b : ℕ) → ℕ
signers_in places signers about count q b = set_of (λ s. signed_in places signers about count q s b)

-- the values of a function at each number below n
unfoldable pub tabulate : (n : ℕ) → (ℕ → ℕ) → List ℕ
tabulate zero f = []
tabulate (suc n) f = f zero ∷ tabulate n (λ k. f (suc k))

-- office q's view: the signers of each block
unfoldable pub view_in : (places signers about : List ℕ) → (count : ℕ) → (q : ℕ) → List ℕ
view_in places signers about count q = tabulate blocks (signers_in places signers about count q)

-- the members of a set are enough signers of n offices
abbrev pub enough_in : (set n : ℕ) → Bool
enough_in set n = enough (tally n (in_set set)) n

-- a block that can stand on a notarised chain: its epoch is greater than its parent's, and it is notarised
unfoldable pub certified_by : (parent epoch : ℕ → ℕ) → (notarised : ℕ → Bool) → ℕ → Bool
certified_by parent epoch notarised x = both (ltb (epoch (parent x)) (epoch x)) (notarised x)

-- the same in a view, by the columns of the blocks: what the view has for it is enough
unfoldable pub certified_in : (view parents epochs : List ℕ) → (last n : ℕ) → ℕ → Bool
certified_in view parents epochs last n =
    certified_by (parent_in parents last) (epoch_in epochs last) (λ x. enough_in (get_or view x 0) n)

-- the blocks of a chain above block `base`; all where it is not on the chain
unfoldable pub above : (base : ℕ) → (chain : List ℕ) → List ℕ
above base [] = []
above base (x ∷ older) = choose (eqb x base) [] (x ∷ above base older)

-- the chain of block b is of certified blocks alone above the base
unfoldable pub certified_above : (view parents epochs : List ℕ) → (last n b base : ℕ) → Bool
certified_above view parents epochs last n b base =
    every (certified_in view parents epochs last n) (above base (chain_by (parent_in parents last) b))

-- the rank of a chain: one more than its length where it is of certified blocks alone, else 0
unfoldable pub rank : (certified : ℕ → Bool) → (chain : List ℕ) → ℕ
rank certified chain = choose (every certified chain) (length chain + 1) 0

-- the rank of block b's chain above the base, in a view
unfoldable pub rank_above : (view parents epochs : List ℕ) → (last n b base : ℕ) → ℕ
rank_above view parents epochs last n b base =
    rank (certified_in view parents epochs last n) (above base (chain_by (parent_in parents last) b))

-- the rank of a chain with so many certified blocks above one of that rank
unfoldable pub raised : (climbed : ℕ) → (rank : ℕ) → ℕ
raised climbed zero = zero
raised climbed (suc k) = suc k + climbed

-- what is kept of the blocks that a climb from block b has passed, in a view: where it started, and how many blocks it had passed with this one
pub record PassedFrom (view parents epochs : List ℕ) (last n b : ℕ) (starts passed : List ℕ) : Type 0 where
  pub sizes : (length starts ≡ blocks) × (length passed ≡ blocks)
  -- it started from b; all that it had passed are certified, so b's rank is that of the block, raised by those above it
  pub entries : (y : ℕ) → 0 < get_or passed y 0
      → (get_or starts y 0 ≡ b)
      × (rank_above view parents epochs last n b 0 ≡ raised (get_or passed y 0 - 1) (rank_above view parents epochs last n y 0))

-- the chain of some block up to the last has a greater rank, in a view
unfoldable pub outranked : (view parents epochs : List ℕ) → (last n beat : ℕ) → Bool
outranked view parents epochs last n beat =
    any (last + 1) (λ x. ltb beat (rank_above view parents epochs last n x 0))

-- the chain of block x is of certified blocks alone, and has more than so many
unfoldable pub longer_by : (parent : ℕ → ℕ) → (certified : ℕ → Bool) → (beat : ℕ) → ℕ → Bool
longer_by parent certified beat x = both (every certified (chain_by parent x)) (ltb beat (length (chain_by parent x)))

-- the chain of block b is of certified blocks alone, and no block up to the last has a longer such chain
unfoldable pub longest_by : (parent : ℕ → ℕ) → (certified : ℕ → Bool) → (last : ℕ) → ℕ → Bool
longest_by parent certified last b =
    both (every certified (chain_by parent b)) (not (any (last + 1) (longer_by parent certified (length (chain_by parent b)))))

-- the same in a view
unfoldable pub longest_in : (view parents epochs : List ℕ) → (last n b : ℕ) → Bool
longest_in view parents epochs last n b = longest_by (parent_in parents last) (certified_in view parents epochs last n) last b
