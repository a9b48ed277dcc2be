-- Chains, by each block's parent. A chain is the list of its blocks, newest first, without genesis, which every chain starts from.
use Rattle.std.specs.Prelude.{ℕ, zero, suc, List, [], ◌∷◌}

-- at most so many blocks on the way from block b to genesis, from parent to parent
unfoldable pub climb : (parent : ℕ → ℕ) → (most : ℕ) → (b : ℕ) → List ℕ
climb parent zero b = []
climb parent (suc k) zero = []
climb parent (suc k) (suc b) = suc b ∷ climb parent k (parent (suc b))

-- the chain of block b. A parent's number is smaller, so b blocks reach genesis.
unfoldable pub chain_by : (parent : ℕ → ℕ) → ℕ → List ℕ
chain_by parent b = climb parent b b
