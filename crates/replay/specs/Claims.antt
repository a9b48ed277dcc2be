-- What is claimed of logs: one has no fault exactly when it reads as an opening with steps; then it is a run, its final chains agree and never go
-- back, some office is trusted, and running it ends at its last place.
use Rattle.std.specs.Prelude.{ℕ, ◌≤◌, ◌<◌, ◌≡◌, List, length, take}
use Rattle.words.specs.Sums.{tally}
use Rattle.register.specs.Types.{Office, Block}
use Rattle.register.specs.declared.table.Register.{Register}
use Rattle.register.specs.Limits.{most_offices}
use Rattle.register.specs.Books.{book_of}
use Rattle.register.specs.Tables.{trusted}
use Rattle.register.specs.Runs.{after_steps, Run, opened}
use Rattle.agreement.specs.Claim.{chain_of, final_chain, Trusted, Notarised, Begins}
use Rattle.packed_log.specs.Openings.{opening_in}
use Rattle.packed_log.specs.Logs.{Case, Reads}
use Rattle.replay.specs.Bodies.{body_of, fault_of}
use Rattle.replay.specs.Endings.{end_of}

-- the opening with steps that a run is made of
unfoldable pub case_of : Run → Case
case_of run = record { n = run.n; trust = run.trust; schedule = run.schedule; steps = run.steps }

-- a run that the log reads as
pub record RunOf (log : List ℕ) : Type 0 where
  pub run : Run
  pub reads : Reads log (case_of run)
  pub opens : (opening_in log).register ≡ opened run
  pub steps : (body_of log).steps ≡ run.steps

-- A log without a fault reads as a run.
unfoldable pub LogsAreRuns : Type 0
LogsAreRuns = (log : List ℕ) → fault_of log ≡ 0 → RunOf log

-- A log that reads as an opening with steps has no fault.
unfoldable pub ReadsHaveNoFault : Type 0
ReadsHaveNoFault = (log : List ℕ) (c : Case) → Reads log c → fault_of log ≡ 0

-- the register at a place of a log: after its opening and its first i steps
unfoldable pub place_in : (log : List ℕ) → (i : ℕ) → Register
place_in log i = after_steps (opening_in log).register (take i (body_of log).steps)

-- Of every log that reads: a trusted office's final chain at any place of it begins every chain at least as long that is notarised in
-- any trusted office's view at any place.
unfoldable pub LogsAgree : Type 0
LogsAgree =
    (log : List ℕ) → fault_of log ≡ 0
    → (i j : ℕ) (p q : Office) (e : Block)
    → Trusted (place_in log i) p
    → Trusted (place_in log j) q
    → Notarised (place_in log j) q e
    → length (final_chain (place_in log i) p) ≤ length (chain_of (place_in log j) e)
    → Begins (final_chain (place_in log i) p) (chain_of (place_in log j) e)

-- Of every log that reads: a trusted office's final chain at any place of it begins its final chain at every later place.
unfoldable pub LogsNeverGoBack : Type 0
LogsNeverGoBack =
    (log : List ℕ) → fault_of log ≡ 0
    → (i j : ℕ) (p : Office)
    → i ≤ j
    → Trusted (place_in log i) p
    → Begins (final_chain (place_in log i) p) (final_chain (place_in log j) p)

-- Of every log that reads: some office is trusted, at every place of it.
unfoldable pub SomeoneIsTrusted : Type 0
SomeoneIsTrusted = (log : List ℕ) → fault_of log ≡ 0 → (i : ℕ) → 0 < tally most_offices (trusted (book_of (place_in log i)))

-- Of every log that reads: the register that running it gives is that of its last place.
unfoldable pub RunsEndAtTheLastPlace : Type 0
RunsEndAtTheLastPlace = (log : List ℕ) → fault_of log ≡ 0 → (end_of log).register ≡ place_in log (length (body_of log).steps)
