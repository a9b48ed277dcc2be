-- Fields of up to 32 bits at any position of some bytes, for whoever packs more than logs.
use Rattle.std.specs.Prelude.{ℕ, ◌+◌, ◌*◌, Bool, List, [], ◌∷◌, leb, length}
use Rattle.words.specs.Tests.{choose, conj}
use Rattle.packed_log.specs.Bits.{to_bits, field, put}

-- w bits from position p on are there: at most 32, in at most 65,536 bytes
unfoldable pub there : (bytes : List ℕ) → (p w : ℕ) → Bool
there bytes p w = conj (leb (length bytes) 65536 ∷ leb w 32 ∷ leb (p + w) (8 * length bytes) ∷ [])

-- the number in them; 0 where they are not there
unfoldable pub field_at : (bytes : List ℕ) → (p w : ℕ) → ℕ
field_at bytes p w = choose (there bytes p w) (field bytes p w) 0

-- the buffer with the w lowest bits of v in them; as it was where they are not there
unfoldable pub with_field : (buffer : List ℕ) → (p w v : ℕ) → List ℕ
with_field buffer p w v = choose (there buffer p w) (put buffer p (to_bits w v)) buffer
