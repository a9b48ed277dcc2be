-- Messages, by the columns that hold them: where one can be for an office, what it says, and what has been sent.
use Rattle.std.specs.Prelude.{ℕ, Bool, false, List, eqb, get_or}
use Rattle.words.specs.Tests.{both, agree, any}

-- the four stages of a message for an office
abbrev pub absent : ℕ
absent = 0

abbrev pub transit : ℕ
transit = 1

abbrev pub inbox : ℕ
inbox = 2

abbrev pub view : ℕ
view = 3

-- message m has that signer and that block
unfoldable pub says_in : (signers about : List ℕ) → (signer b : ℕ) → (m : ℕ) → Bool
says_in signers about signer b m = both (eqb (get_or signers m 0) signer) (eqb (get_or about m 0) b)

-- a message of that kind, signer and block has been sent
unfoldable pub history_in : (votes : List Bool) → (signers about : List ℕ) → (count : ℕ) → (vote : Bool) → (signer b : ℕ) → Bool
history_in votes signers about count vote signer b =
    any count (λ m. both (agree (get_or votes m false) vote) (says_in signers about signer b m))
