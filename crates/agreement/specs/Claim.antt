-- What is claimed of every run, whole.
use Rattle.std.specs.Prelude.{ℕ, ◌+◌, suc, ◌<◌, ◌≤◌, ◌≡◌, true, List, ◌⊎◌, length, get_or, take, drop}
use Rattle.register.specs.Types.{Office, Block}
use Rattle.register.specs.declared.step.Step.{Step}
use Rattle.register.specs.declared.table.Register.{Register}
use Rattle.register.specs.Books.{book_of}
use Rattle.register.specs.Tables.{trusted, final_of, header_of, content_of}
use Rattle.register.specs.Chains.{chain, begins, chain_notarised}
use Rattle.register.specs.Steps.{step_rule}
use Rattle.register.specs.Runs.{ran, Run, opened, moment}

-- the chain of a block
unfoldable pub chain_of : Register → Block → List ℕ
chain_of r e = chain (book_of r) e.0

-- an office's final chain: the chain of its final block
unfoldable pub final_chain : Register → Office → List ℕ
final_chain r p = chain (book_of r) (final_of (book_of r) p.0)

-- office p is trusted
unfoldable pub Trusted : Register → Office → Type 0
Trusted r p = trusted (book_of r) p.0 ≡ true

-- the chain of block e is notarised in office q's view
unfoldable pub Notarised : Register → Office → Block → Type 0
Notarised r q e = chain_notarised (book_of r) q.0 e.0 ≡ true

-- the one chain begins the other
unfoldable pub Begins : List ℕ → List ℕ → Type 0
Begins short long = begins short long ≡ true

-- what the claim is about: office p is trusted at moment i; office q is trusted at moment j; the chain of block e is notarised in q's
-- view at moment j; and that chain is at least as long as p's final chain at moment i. The offices may be one or two, and either moment
-- may come first.
pub record AtLeastAsLong (run : Run) (i j : ℕ) (p q : Office) (e : Block) : Type 0 where
  pub finalist : Trusted (moment run i) p
  pub viewer : Trusted (moment run j) q
  pub notarised : Notarised (moment run j) q e
  pub long : length (final_chain (moment run i) p) ≤ length (chain_of (moment run j) e)

-- AGREEMENT. In every run, a trusted office's final chain at any moment begins every chain at least as long that is notarised in any
-- trusted office's view at any moment.
unfoldable pub Agreement : Type 0
Agreement =
    (run : Run) (i j : ℕ) (p q : Office) (e : Block)
    → AtLeastAsLong run i j p q e
    → Begins (final_chain (moment run i) p) (chain_of (moment run j) e)

-- What agreement is for: no two deeds to one plot. Of two trusted offices' final chains, at any two moments, one begins the other.
unfoldable pub NeverPart : Type 0
NeverPart =
    (run : Run) (i j : ℕ) (p q : Office)
    → Trusted (moment run i) p
    → Trusted (moment run j) q
    → Begins (final_chain (moment run i) p) (final_chain (moment run j) q)
    ⊎ Begins (final_chain (moment run j) q) (final_chain (moment run i) p)

-- NEVER BACK. In every run, a trusted office's final chain at any moment begins its final chain at every later moment.
unfoldable pub NeverBack : Type 0
NeverBack =
    (run : Run) (i j : ℕ) (p : Office)
    → i ≤ j
    → Trusted (moment run i) p
    → Begins (final_chain (moment run i) p) (final_chain (moment run j) p)

-- registers as calls hand them on: the first is what the opening gave, and each next one is what a step gave back for the register before it
pub record HandedOn (run : Run) (given : ℕ → Register) : Type 0 where
  pub first : given 0 ≡ opened run
  pub next : (i : ℕ) → i < length run.steps → given (suc i) ≡ (step_rule (given i) (get_or run.steps i Step.Advance)).register

-- Registers that calls hand on are the moments, so that the claims are about what the calls give back.
unfoldable pub CallsAreMoments : Type 0
CallsAreMoments = (run : Run) (given : ℕ → Register) → HandedOn run given → (i : ℕ) → i ≤ length run.steps → given i ≡ moment run i

-- A batch of the next k steps from moment i gives moment i + k.
unfoldable pub BatchesAreMoments : Type 0
BatchesAreMoments = (run : Run) (i k : ℕ) → (ran (moment run i) (take k (drop i run.steps))).register ≡ moment run (i + k)

-- of two registers: every block of the first is there in the second with its parent, epoch and payload, and every message with what it says
pub record Kept (r s : Register) : Type 0 where
  pub last : r.blocks.last.0 ≤ s.blocks.last.0
  pub blocks : (b : ℕ) → b ≤ r.blocks.last.0 → header_of (book_of s) b ≡ header_of (book_of r) b
  pub count : r.messages.count ≤ s.messages.count
  pub messages : (m : ℕ) → m < r.messages.count → content_of (book_of s) m ≡ content_of (book_of r) m

-- Blocks keep their numbers, parents and epochs throughout a list, so chains of two moments are compared by the same rule as chains of one; messages,
-- too, are only added.
unfoldable pub OnlyAdded : Type 0
OnlyAdded = (run : Run) (i j : ℕ) → i ≤ j → Kept (moment run i) (moment run j)
