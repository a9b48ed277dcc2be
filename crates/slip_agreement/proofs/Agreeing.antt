-- An accepted slip's answer is a block that can be final: the marks say so, and the history backs them. Such blocks agree.
use Prim.Native.Nat.{ℕ, ◌<◌, ◌≤◌}
use mathlib.Core.Path.{◌≡◌, ap, subst}
use mathlib.Core.Bool.{true}
use mathlib.Core.List.{List}
use borrow.Author.Tests.{ltb-false, not-false}
use Rattle.words.specs.Tests.{choose, every, member}
use Rattle.words.proofs.Tests.{implied, all_at, every_at}
use Rattle.words.proofs.Clearing.{clear}
use Rattle.register.specs.Types.{Block}
use Rattle.register.specs.declared.book.Book.{Book}
use Rattle.register.specs.Books.{book_of}
use Rattle.register.specs.Tables.{parent_of}
use Rattle.register.specs.Views.{ever_signed}
use Rattle.register.specs.Chains.{chain}
use Rattle.register.specs.Refusals.{finalises_by}
use Rattle.register.specs.Fitness.{fit}
use Rattle.register.specs.Runs.{Run, moment}
use Rattle.register.proofs.Finalising.{three_blocks, consecutive_more}
use Rattle.agreement.specs.Claim.{chain_of, final_chain, Begins}
use Rattle.agreement.proofs.Backing.{backed_by}
use Rattle.agreement.proofs.Safety.{Finalised, middle}
use Rattle.agreement.proofs.Consequences.{finals_agree, office_final}
use Rattle.replay.specs.Claims.{RunOf, LogsAreRuns}
use Rattle.replay.proofs.Claims.{logs_are_runs, place_moment}
use Rattle.slip.specs.declared.checking.Checked.{Checked}
use Rattle.slip.specs.Slips.{block_in, marked, formed}
use Rattle.slip.specs.Checking.{truly, marked_enough, check_tests, check_refusal, checked}
use Rattle.slip_agreement.specs.Claims.{Accepts, SlipsAgree, SlipsNeverPart, SlipsOfLogsAgree}

-- what the tests of an accepted slip tell
pub record Passed (r : Book) (slip : List ℕ) : Type 0 where
  pub fits : fit r ≡ true
  pub made : block_in slip ≤ r.last.0
  pub form : formed r slip (block_in slip) ≡ true
  pub truth : every (truly r slip) (chain r (block_in slip)) ≡ true
  pub final : finalises_by r (marked_enough r slip) (block_in slip) ≡ true

pub passed : (r : Book) (slip : List ℕ) → check_refusal r slip ≡ 0 → Passed r slip
passed r slip none =
    let fails = clear (check_tests r slip (block_in slip)) none in
    record {
      fits = not-false _ fails.0;
      made = ltb-false _ _ fails.1.0;
      form = not-false _ fails.1.1.0;
      truth = not-false _ fails.1.1.1.0;
      final = not-false _ fails.1.1.1.1.0;
    }

-- a marked signature of a block on the chain is in the history
pub truly_signed : (r : Book) (slip : List ℕ) (b : ℕ) → every (truly r slip) (chain r b) ≡ true → (x : ℕ) → member x (chain r b) ≡ true
    → (h : ℕ) → h < r.n → marked r slip x h ≡ true → ever_signed r h x ≡ true
unfolding truly
truly_signed r slip b all x on h l mark =
    implied (marked r slip x h) _ (all_at _ r.n h (every_at (truly r slip) (chain r b) x all on) l) mark

-- so an accepted slip's answer can be final
slip_final : (r : Book) (slip : List ℕ) → Passed r slip → Finalised r (parent_of r (block_in slip))
unfolding marked_enough
slip_final r slip p =
    let b : ℕ = block_in slip in
    middle b _ p.made
    (consecutive_more (λ x on e. backed_by r x (marked r slip x) (truly_signed r slip b p.truth x on) e)
    (three_blocks r (marked_enough r slip) b p.final))

-- the answer of a slip that is accepted is its block's parent
pub answer_is : (r : Book) (slip : List ℕ) (answer : Block) → checked r slip ≡ record { refusal = 0; block = answer }
    → (check_refusal r slip ≡ 0) × (parent_of r (block_in slip) ≡ answer.0)
unfolding checked choose
answer_is r slip answer e =
    let none : check_refusal r slip ≡ 0 = ap (λ (c : Checked). c.refusal) e in
    (none, rw none at (ap (λ (c : Checked). c.block.0) e))

-- so it can be final
accepted_final : (run : Run) (i : ℕ) (slip : List ℕ) (answer : Block) → Accepts (moment run i) slip answer
    → Finalised (book_of (moment run i)) answer.0
unfolding Accepts
accepted_final run i slip answer a =
    let r : Book = book_of (moment run i) in
    let is = answer_is r slip answer a in
    subst (Finalised r) is.1 (slip_final r slip (passed r slip is.0))

pub slips_agree : SlipsAgree
unfolding SlipsAgree Begins chain_of final_chain
slips_agree run i j slip answer p a t = finals_agree run i j (accepted_final run i slip answer a) (office_final run j p t)

pub slips_never_part : SlipsNeverPart
unfolding SlipsNeverPart Begins chain_of
slips_never_part run i j slip other answer another a b =
    finals_agree run i j (accepted_final run i slip answer a) (accepted_final run j other another b)

-- the places of a log are the moments of the run that it reads as
pub slips_of_logs_agree : SlipsOfLogsAgree
unfolding SlipsOfLogsAgree SlipsAgree LogsAreRuns
slips_of_logs_agree log reads i j slip answer p =
    let held : RunOf log = logs_are_runs log reads in
    rw (place_moment log held i, place_moment log held j) (slips_agree held.run i j slip answer p)
