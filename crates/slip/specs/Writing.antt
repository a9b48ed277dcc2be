-- What the writer puts down, from a trusted office's view, and what a call of it gives.
use Rattle.std.specs.Prelude.{ℕ, ◌*◌, ◌-◌, ◌/◌, ◌%◌, Bool, false, not, List, [], ◌∷◌, ◌++◌, eqb, ltb, length, replicate}
use Rattle.words.specs.Tests.{choose}
use Rattle.words.specs.Refusals.{Refusal, ◌⇒◌, first}
use Rattle.register.specs.declared.book.Book.{Book}
use Rattle.register.specs.Views.{signer_set}
use Rattle.register.specs.Chains.{chain}
use Rattle.register.specs.Refusals.{no_office, no_block, barred, not_final}
use Rattle.register.specs.Fitness.{fit}
use Rattle.packed_log.specs.Bits.{to_bits}
use Rattle.packed_log.specs.Writing.{office_bits, laid}
use Rattle.slip.specs.declared.writing.Written.{Written}

-- the bits of a chain's blocks, oldest first: for each every signature on it in office q's view
unfoldable pub rows_bits : Book → (q : ℕ) → (chain : List ℕ) → List Bool
rows_bits r q [] = []
rows_bits r q (newest ∷ older) = rows_bits r q older ++ office_bits r.n (signer_set r q newest)

-- the bits of a slip about block b before its pad
unfoldable pub front_bits : Book → (q b : ℕ) → List Bool
front_bits r q b = to_bits 8 b ++ rows_bits r q (chain r b)

-- the slip: those bits, and zero bits to the byte's end
unfoldable pub slip_bits : Book → (q b : ℕ) → List Bool
slip_bits r q b = front_bits r q b ++ replicate ((8 - length (front_bits r q b) % 8) % 8) false

-- the refusals of the writer, in their order: 5 unfit register, 6 no office, 7 no block, 10 barred; 21 where the finalise rule does not hold in the
-- office's view
abbrev pub rule_tests : Book → (q b : ℕ) → List Refusal
rule_tests r q b = (not (fit r) ⇒ 5) ∷ (no_office r q ⇒ 6) ∷ (no_block r b ⇒ 7) ∷ (barred r q ⇒ 10) ∷ (not_final r q b ⇒ 21) ∷ []

-- and 31 where the buffer ends before the slip would
abbrev pub write_refusal : Book → (q b : ℕ) → (buffer : List ℕ) → ℕ
write_refusal r q b buffer = first (rule_tests r q b ++ (ltb (8 * length buffer) (length (slip_bits r q b)) ⇒ 31) ∷ [])

-- what a call gives: 0 and the length of the slip in bytes, or the refusal and 0
unfoldable pub written : Book → (q b : ℕ) → (buffer : List ℕ) → Written
written r q b buffer =
    record {
      refusal = write_refusal r q b buffer;
      length = choose (eqb (write_refusal r q b buffer) 0) (length (slip_bits r q b) / 8) 0;
    }

-- the buffer after it: the slip stands in front, and later bytes stay. A refusal changes no byte.
unfoldable pub buffer_after : Book → (q b : ℕ) → (buffer : List ℕ) → List ℕ
buffer_after r q b buffer = laid buffer (write_refusal r q b buffer) 0 (slip_bits r q b)
