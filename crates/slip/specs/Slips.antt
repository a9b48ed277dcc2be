-- A slip names a block in 8 bits. Then, for each block of its chain but genesis, oldest first, come n bits, one per office, office 0 first; and after all
-- these zero bits to the byte's end. A set bit: this office signed that block. The bits go in the log's order, without gaps.
use Rattle.std.specs.Prelude.{ℕ, ◌+◌, ◌*◌, ◌-◌, Bool, false, List, leb, length, get_or}
use Rattle.words.specs.Tests.{both}
use Rattle.register.specs.declared.book.Book.{Book}
use Rattle.register.specs.Chains.{chain_length}
use Rattle.packed_log.specs.Bits.{bits, field}
use Rattle.packed_log.specs.Items.{padded}

-- the block that a slip names
abbrev pub block_in : (slip : List ℕ) → ℕ
block_in slip = field slip 0 8

-- where the bits of block x start, which is on the chain that a slip is about: oldest first, the block whose chain is 1 long comes first
abbrev pub place : Book → (x : ℕ) → ℕ
place r x = 8 + r.n * (chain_length r x - 1)

-- office q's bit for block x is set
unfoldable pub marked : Book → (slip : List ℕ) → (x q : ℕ) → Bool
marked r slip x q = get_or (bits slip) (place r x + q) false

-- how many bits a slip about block b has before its pad
abbrev pub bits_due : Book → (b : ℕ) → ℕ
bits_due r b = 8 + r.n * chain_length r b

-- a slip about block b has its bits, behind them zero bits to the byte's end, and no byte more
unfoldable pub formed : Book → (slip : List ℕ) → (b : ℕ) → Bool
formed r slip b = both (leb (bits_due r b) (8 * length slip)) (padded slip (bits_due r b))
