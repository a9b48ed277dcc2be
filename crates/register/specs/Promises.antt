-- What makers may rely on, of every opening and every step.
use Rattle.std.specs.Prelude.{ℕ, ◌≡◌, true, List, length}
use Rattle.words.specs.Digits.{in_set, set_bits}
use Rattle.register.specs.Types.{Step, Register, Book}
use Rattle.register.specs.Limits.{block_entries, most_messages}
use Rattle.register.specs.Books.{book_of}
use Rattle.register.specs.Views.{signed, signers, signer_set, notarised_test}
use Rattle.register.specs.Fitness.{fit}
use Rattle.register.specs.Opening.{closed, opening}
use Rattle.register.specs.Steps.{step_rule}
use Rattle.register.specs.Runs.{Run, moment}

-- the columns that a register's fitness depends on have the sizes that those of the code have; in the rules a column is a list of any length
pub record Sizes (r : Book) : Type 0 where
  pub parents : length r.parents ≡ block_entries
  pub epochs : length r.epochs ≡ block_entries
  pub signers : length r.signers ≡ most_messages
  pub about : length r.about ≡ most_messages

-- An opening that is not refused gives a fit register.
unfoldable pub OpeningsAreFit : Type 0
OpeningsAreFit =
    (n trust : ℕ) (schedule : List ℕ) → (opening n trust schedule).refusal ≡ 0 → fit (book_of (opening n trust schedule).register) ≡ true

-- A step, accepted or refused, leaves a fit register fit.
unfoldable pub StepsKeepFit : Type 0
StepsKeepFit =
    (r : Register) (step : Step) → Sizes (book_of r) → fit (book_of r) ≡ true → fit (book_of (step_rule r step).register) ≡ true

-- After an opening that is not refused and any steps the register is fit.
unfoldable pub RunsAreFit : Type 0
RunsAreFit = (run : Run) (i : ℕ) → fit (book_of (moment run i)) ≡ true

-- A refused opening gives the closed register.
unfoldable pub RefusedOpeningCloses : Type 0
RefusedOpeningCloses =
    (n trust : ℕ) (schedule : List ℕ) → ((opening n trust schedule).refusal ≡ 0 → ⊥) → (opening n trust schedule).register ≡ closed

-- On the closed register every step gets 5, and leaves it closed.
unfoldable pub ClosedGetsFive : Type 0
ClosedGetsFive = (step : Step) → step_rule closed step ≡ record { register = closed; refusal = 5; value = 0 }

-- A refused step gives the register back as it was, with value 0.
unfoldable pub RefusedStepStays : Type 0
RefusedStepStays =
    (r : Register) (step : Step) → ((step_rule r step).refusal ≡ 0 → ⊥)
    → ((step_rule r step).register ≡ r) × ((step_rule r step).value ≡ 0)

-- what the word of a block's signers in office q's view tells: bit s is set exactly when office s's signature on the block is in the view, and
-- as many bits are set as there are different signers
pub record SignerBits (r : Book) (q b : ℕ) : Type 0 where
  pub bits : (s : ℕ) → in_set (signer_set r q b) s ≡ signed r q s b
  pub count : set_bits (signer_set r q b) ≡ signers r q b

-- In a fit register the word of every block, in every office's view, tells that.
unfoldable pub SignersAreBits : Type 0
SignersAreBits = (r : Register) → fit (book_of r) ≡ true → (q b : ℕ) → SignerBits (book_of r) q b

-- There nobody signed genesis; it is notarised all the same, and counts as signed by all n offices.
unfoldable pub GenesisUnsigned : Type 0
GenesisUnsigned =
    (r : Register) → fit (book_of r) ≡ true → (q : ℕ)
    → (signer_set (book_of r) q 0 ≡ 0) × (notarised_test (book_of r) q 0 ≡ record { holds = true; signers = r.n })

-- what an opening fixes: the number of offices, the trusted ones, and the schedule
pub record Council : Type 0 where
  pub n : ℕ
  pub trust : ℕ
  pub scheduled : ℕ
  pub leaders : List ℕ

unfoldable pub council_of : Book → Council
council_of r = record { n = r.n; trust = r.trust; scheduled = r.scheduled; leaders = r.leaders }

-- No step changes it.
unfoldable pub StepsKeepCouncil : Type 0
StepsKeepCouncil = (r : Register) (step : Step) → council_of (book_of (step_rule r step).register) ≡ council_of (book_of r)
