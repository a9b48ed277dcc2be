-- When a register is fit: every number in it is in its range. It says nothing of equal blocks, of marks or of places.
use Rattle.std.specs.Prelude.{ℕ, ◌+◌, Bool, not, List, [], ◌∷◌, ltb, leb, get_or}
use Rattle.words.specs.Tests.{both, either, conj, all, between}
use Rattle.register.specs.Types.{OfficeState, Book}
use Rattle.register.specs.Limits.{most_offices, most_epochs, most_blocks, most_messages, widest_epoch}
use Rattle.register.specs.Tables.{trusted, state_of}

-- the single numbers: offices, schedule length, epoch, number of blocks and number of messages
unfoldable pub counts_fit : Book → Bool
counts_fit r =
    conj
    (between 1 most_offices r.n
    ∷ between 1 most_epochs r.scheduled
    ∷ between 1 r.scheduled r.epoch.0
    ∷ leb r.last.0 most_blocks
    ∷ leb r.count most_messages
    ∷ [])

-- every leader of the schedule is an office
abbrev pub leaders_fit : Book → Bool
leaders_fit r = all r.scheduled (λ i. ltb (get_or r.leaders i 0) r.n)

-- a block has a smaller parent, and an epoch up to 511
unfoldable pub block_fits : (b parent epoch : ℕ) → Bool
block_fits b parent epoch = both (ltb parent b) (leb epoch widest_epoch)

-- so has every block made
abbrev pub blocks_fit : Book → Bool
blocks_fit r = all r.last.0 (λ k. block_fits (k + 1) (get_or r.parents (k + 1) 0) (get_or r.epochs (k + 1) 0))

-- a message has an office for its signer, and a block from 1 up to the last
unfoldable pub message_fits : (n last : ℕ) → (signer about : ℕ) → Bool
message_fits n last signer about = both (ltb signer n) (between 1 last about)

-- so has every message sent
abbrev pub messages_fit : Book → Bool
messages_fit r = all r.count (λ m. message_fits r.n r.last.0 (get_or r.signers m 0) (get_or r.about m 0))

-- what an office holds: its final block is genesis or has been made
unfoldable pub state_fits : (last : ℕ) → OfficeState → Bool
state_fits last state = leb state.finalised.0 last

-- so does every trusted office
abbrev pub offices_fit : Book → Bool
offices_fit r = all r.n (λ q. either (not (trusted r q)) (state_fits r.last.0 (state_of r q)))

-- the tests of the tables
abbrev pub tables_fit : Book → List Bool
tables_fit r = leaders_fit r ∷ blocks_fit r ∷ messages_fit r ∷ offices_fit r ∷ []

unfoldable pub fit : Book → Bool
fit r = conj (counts_fit r ∷ tables_fit r)
