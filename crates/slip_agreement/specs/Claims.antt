-- What is claimed of the slips that are accepted in a run, at whatever moment, by whomever they were written.
use Rattle.std.specs.Prelude.{ℕ, ◌≤◌, ◌≡◌, List, ◌⊎◌}
use Rattle.register.specs.Types.{Office, Block}
use Rattle.register.specs.declared.table.Register.{Register}
use Rattle.register.specs.Books.{book_of}
use Rattle.register.specs.Runs.{Run, moment}
use Rattle.agreement.specs.Claim.{chain_of, final_chain, Trusted, Begins}
use Rattle.replay.specs.Bodies.{fault_of}
use Rattle.replay.specs.Claims.{place_in}
use Rattle.slip.specs.Checking.{checked}

-- the register accepts the slip, whose answer is that block
unfoldable pub Accepts : Register → (slip : List ℕ) → Block → Type 0
Accepts r slip answer = checked (book_of r) slip ≡ record { refusal = 0; block = answer }

-- one of two chains begins the other
abbrev pub OneBegins : List ℕ → List ℕ → Type 0
OneBegins one other = Begins one other ⊎ Begins other one

-- SLIPS AGREE. In every run, of the chain of an accepted slip's answer at any moment and a trusted office's final chain at any moment, one begins the
-- other.
unfoldable pub SlipsAgree : Type 0
SlipsAgree =
    (run : Run) (i j : ℕ) (slip : List ℕ) (answer : Block) (p : Office)
    → Accepts (moment run i) slip answer
    → Trusted (moment run j) p
    → OneBegins (chain_of (moment run i) answer) (final_chain (moment run j) p)

-- So it is of the answers of two accepted slips, each at any moment.
unfoldable pub SlipsNeverPart : Type 0
SlipsNeverPart =
    (run : Run) (i j : ℕ) (slip other : List ℕ) (answer another : Block)
    → Accepts (moment run i) slip answer
    → Accepts (moment run j) other another
    → OneBegins (chain_of (moment run i) answer) (chain_of (moment run j) another)

-- SLIPS STAY. A slip that is accepted at a moment is accepted, with the same answer, at every later one.
unfoldable pub SlipsStay : Type 0
SlipsStay =
    (run : Run) (i j : ℕ) (slip : List ℕ) (answer : Block)
    → i ≤ j
    → Accepts (moment run i) slip answer
    → Accepts (moment run j) slip answer

-- Of every log that reads: slips agree with final chains, at every two places of it.
unfoldable pub SlipsOfLogsAgree : Type 0
SlipsOfLogsAgree =
    (log : List ℕ) → fault_of log ≡ 0
    → (i j : ℕ) (slip : List ℕ) (answer : Block) (p : Office)
    → Accepts (place_in log i) slip answer
    → Trusted (place_in log j) p
    → OneBegins (chain_of (place_in log i) answer) (final_chain (place_in log j) p)
