-- How many signers are enough.
use Rattle.std.specs.Prelude.{ℕ, ◌*◌, Bool, leb}
use Rattle.quorum.specs.declared.SignerCount.{SignerCount}

-- so many signers of n offices are enough: 3 × signers ≥ 2 × n
unfoldable pub enough : (signers : ℕ) → (n : ℕ) → Bool
enough signers n = leb (2 * n) (3 * signers)

-- their count: whether they are enough, and how many they are in either case
abbrev pub count_of : (signers : ℕ) → (n : ℕ) → SignerCount
count_of signers n = record { enough = enough signers n; signers = signers }
