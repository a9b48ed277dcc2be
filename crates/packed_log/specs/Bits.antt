-- A log as a row of bits, most significant bit first, and the fields that stand in it.
use Rattle.std.specs.Prelude.{ℕ, zero, suc, ◌+◌, ◌*◌, ◌/◌, ◌%◌, ◌^◌, ◌<◌, Bool, List, [], ◌∷◌, ◌++◌, eqb, length, get_or, take, drop}
use Rattle.std.proofs.lemmas.List.Edits.{sets}
use Rattle.words.specs.Tests.{choose}

-- each entry is a byte
abbrev pub Bytes : List ℕ → Type 0
Bytes l = (i : ℕ) → get_or l i 0 < 256

-- the w bits of v
unfoldable pub to_bits : (w v : ℕ) → List Bool
to_bits zero v = []
to_bits (suc w) v = eqb (v / 2 ^ w % 2) 1 ∷ to_bits w v

-- the number of a row
unfoldable pub num : List Bool → ℕ
num [] = zero
num (b ∷ r) = choose b 1 0 * 2 ^ length r + num r

-- the row of some bytes
unfoldable pub bits : List ℕ → List Bool
bits [] = []
bits (b ∷ l) = to_bits 8 b ++ bits l

-- the first n bytes of a row
unfoldable pub pack : (n : ℕ) → List Bool → List ℕ
pack zero r = []
pack (suc n) r = num (take 8 r) ∷ pack n (drop 8 r)

-- the bytes of a row
unfoldable pub bytes : List Bool → List ℕ
bytes r = pack (length r / 8) r

-- the number that stands in the w bits from position p on
unfoldable pub field : (log : List ℕ) → (p w : ℕ) → ℕ
field log p w = num (take w (drop p (bits log)))

-- the buffer with the row t laid over its bits from position p on
unfoldable pub put : (buffer : List ℕ) → (p : ℕ) → (t : List Bool) → List ℕ
put buffer p t = bytes (sets (bits buffer) p t)
