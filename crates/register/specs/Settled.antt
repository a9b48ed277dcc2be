-- What a batch of steps knows of final blocks, so that a chain once found to be notarised is not climbed again. Only contracts inside this
-- crate cite these definitions; no promise to makers does.
use Rattle.std.specs.Prelude.{ℕ, ◌<◌, ◌≤◌, true, ◌≡◌}
use Rattle.words.specs.Tests.{choose}
use Rattle.words.specs.Digits.{in_set}
use Rattle.register.specs.Types.{Office, Block, Step, OfficeState, Book, Actor}
use Rattle.register.specs.Limits.{most_offices}
use Rattle.register.specs.Books.{block}
use Rattle.register.specs.Tables.{final_of}
use Rattle.register.specs.Chains.{chain_notarised}

-- office q's final block is not above the last block, and its chain is notarised in the office's view
pub record Settled (r : Book) (q : ℕ) : Type 0 where
  pub made : final_of r q ≤ r.last.0
  pub notarised : chain_notarised r q (final_of r q) ≡ true

-- the same of each office of a set
abbrev pub AllSettled : Book → (set : ℕ) → Type 0
AllSettled r set = (q : ℕ) → q < most_offices → in_set set q ≡ true → Settled r q

-- block b's chain is notarised in office q's view
abbrev pub Base : Book → (q b : ℕ) → Type 0
Base r q b = chain_notarised r q b ≡ true

-- such a block for the acting office: its final block where the office is in the set, else genesis
abbrev pub settled_base : OfficeState → (set q : ℕ) → Block
settled_base state set q = choose (in_set set q) state.finalised (block 0)

-- an office that is not there
abbrev pub nobody : Office
nobody = record { 0 = most_offices }

-- the office whose state a step may change; one that is not there for a step that changes none
unfoldable pub actor_of : Step → Office
actor_of (Step.Propose office parent payload) = nobody
actor_of (Step.Vote office message) = nobody
actor_of (Step.Register office message) = nobody
actor_of (Step.Finalise office newest) = office
actor_of (Step.Deliver message office) = nobody
actor_of (Step.BadSend sender kind signer about) = nobody
actor_of (Step.Draft parent epoch payload) = nobody
actor_of Step.Advance = nobody

-- what is known of a step's actor: its place in the table of offices, which is its number where the table has that, and its base
pub record Acts (r : Book) (step : Step) (actor : Actor) : Type 0 where
  pub within : actor.at < most_offices
  pub own : (actor_of step).0 < most_offices → actor.at ≡ (actor_of step).0
  pub base : Base r (actor_of step).0 actor.base.0
