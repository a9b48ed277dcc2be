-- Every report has some byte: one line of a log that does not read, else the line of a trusted office, of which there is one.
use Prim.Native.Nat.{ℕ, zero, suc, ◌≤◌, ◌<◌}
use mathlib.Core.Path.{◌≡◌, refl}
use mathlib.Core.Bool.{Bool, true, false}
use mathlib.Core.List.{List, []}
use native.Mathlib.Omega.{arith}
use native.Mathlib.Decide.{dec_lt}
use lib.ListN.{length, length-append}
use lib.Seq.{take_all}
use lib.Dec.{eqb}
use Rattle.words.specs.Tests.{choose}
use Rattle.words.specs.Sums.{weigh, unit, tally}
use Rattle.register.specs.declared.table.Register.{Register}
use Rattle.register.specs.declared.book.Book.{Book}
use Rattle.register.specs.Books.{book_of}
use Rattle.register.specs.Tables.{trusted, final_of}
use Rattle.register.specs.Views.{signers_on}
use Rattle.register.specs.Chains.{length_of}
use Rattle.register.specs.Runs.{after_steps}
use Rattle.packed_log.specs.Openings.{opening_in}
use Rattle.replay.specs.Bodies.{body_of, fault_of}
use Rattle.replay.specs.Claims.{place_in, SomeoneIsTrusted}
use Rattle.replay.proofs.Claims.{someone_is_trusted}
use Rattle.report.specs.Text.{office_line, log_line, empty_line}
use Rattle.report.specs.Reports.{office_text, office_lines, run_lines, fault_line, report_of}
use Rattle.report.specs.Claims.{NoReportIsEmpty}
use Rattle.report.proofs.CheckLaws.{report_refused, report_run}

-- a text that is chosen by a test has a byte for it, if the text has one
counted : (t : Bool) (text : List ℕ) → 1 ≤ length text → choose t 1 0 ≤ length (choose t text [])
unfolding choose
counted true text some = some
counted false text some = omega arith

-- so has an office's text
office_counted : (r : Register) (q : ℕ) → choose (trusted (book_of r) q) 1 0 ≤ length (office_text r q)
unfolding office_text office_line
office_counted r q =
    let book : Book = book_of r in
    let final : ℕ = final_of book q in
    counted (trusted book q) (office_line q final (length_of book final) (signers_on book q final)) (omega arith)

-- there are at least as many bytes as trusted offices
offices_counted : (r : Register) (q : ℕ) → tally q (trusted (book_of r)) ≤ length (office_lines r q)
unfolding tally weigh unit office_lines
offices_counted r zero = omega arith
offices_counted r (suc q) =
    simp length-append (omega (arith, offices_counted r q, office_counted r q))

-- the line of a log that does not read
either_line : (none : Bool) (fault : ℕ) → 0 < length (choose none empty_line (log_line fault))
unfolding choose empty_line log_line
either_line true fault = omega arith
either_line false fault = omega arith

fault_line_lem : (log : List ℕ) (fault : ℕ) → 0 < length (fault_line log fault)
unfolding fault_line
fault_line_lem log fault = either_line (eqb (length log) 0) fault

-- the lines of a log that reads: the offices are those of its last place
run_lines_lem : (log : List ℕ) → fault_of log ≡ 0 → 0 < length (run_lines (opening_in log).register 1 (body_of log).steps)
unfolding SomeoneIsTrusted place_in run_lines
run_lines_lem log reads =
    let last : Register = after_steps (opening_in log).register (body_of log).steps in
    let some : 0 < tally 32 (trusted (book_of last))
    = rw (take_all (length (body_of log).steps) (body_of log).steps (omega arith)) at (someone_is_trusted log reads (length (body_of log).steps)) in
    simp length-append (omega (arith, some, offices_counted last 32))

-- every report has some byte
pub no_report_is_empty : NoReportIsEmpty
unfolding NoReportIsEmpty
no_report_is_empty log =
    elim (dec_lt 0 (fault_of log)) as (λ _. 0 < length (report_of log)) [
      | yes bad ↦ rw (report_refused log (fault_of log) refl (λ none. omega arith)) (fault_line_lem log (fault_of log))
      | no good ↦
          let reads : fault_of log ≡ 0 = omega arith in
          rw (report_run log reads) (run_lines_lem log reads)
    ]
