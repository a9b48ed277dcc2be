-- Chains. A chain is the list of its blocks, newest first, without genesis, which every chain starts from.
use Rattle.std.specs.Prelude.{ℕ, ◌+◌, Bool, true, not, List, [], ◌∷◌, ltb, leb, length}
use Rattle.words.specs.Tests.{choose, both, any, every, member}
use Rattle.tables.specs.Chains.{chain_by}
use Rattle.register.specs.Types.{Book}
use Rattle.register.specs.Tables.{parent_of, epoch_of}
use Rattle.register.specs.Views.{notarised}

-- the chain of block b, from parent to parent
unfoldable pub chain : Book → ℕ → List ℕ
chain r b = chain_by (parent_of r) b

-- the length of block b's chain, genesis not counted
abbrev pub chain_length : Book → ℕ → ℕ
chain_length r b = length (chain r b)

-- one chain begins another: its last block is on the other. Genesis is on every chain.
unfoldable pub begins : List ℕ → List ℕ → Bool
begins [] chain = true
begins (newest ∷ older) chain = member newest chain

-- the chain of block b is valid: the epoch of each of its blocks is greater than its parent's
abbrev pub valid : Book → ℕ → Bool
valid r b = every (λ x. ltb (epoch_of r (parent_of r x)) (epoch_of r x)) (chain r b)

-- the chain of block b is notarised by a test of blocks: it is valid and all its blocks pass
unfoldable pub chain_notarised_by : Book → (ℕ → Bool) → ℕ → Bool
chain_notarised_by r passes b = both (valid r b) (every passes (chain r b))

-- it is notarised in office q's view: it is valid and all its blocks are notarised there
abbrev pub chain_notarised : Book → ℕ → ℕ → Bool
chain_notarised r q b = chain_notarised_by r (notarised r q) b

-- block x's chain is notarised in office q's view and longer than block b's
abbrev pub longer : Book → ℕ → ℕ → ℕ → Bool
longer r q b x = both (chain_notarised r q x) (ltb (chain_length r b) (chain_length r x))

-- the chain of block b is longest in office q's view: it is notarised there and no notarised chain of that view is longer
unfoldable pub longest : Book → ℕ → ℕ → Bool
longest r q b = both (chain_notarised r q b) (not (any (r.last.0 + 1) (longer r q b)))

-- the length of the chain of a block that is there; 0 for a number above the last block's
abbrev pub length_of : Book → ℕ → ℕ
length_of r b = choose (leb b r.last.0) (chain_length r b) 0
