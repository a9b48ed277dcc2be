-- The report of a log.
use Rattle.std.specs.Prelude.{ℕ, zero, suc, ◌+◌, ◌*◌, min, List, [], ◌∷◌, ◌++◌, eqb, leb, length, drop, replicate}
use Rattle.words.specs.Tests.{choose}
use Rattle.register.specs.declared.step.Step.{Step}
use Rattle.register.specs.declared.table.Register.{Register}
use Rattle.register.specs.declared.table.Stepped.{Stepped}
use Rattle.register.specs.declared.book.Book.{Book}
use Rattle.register.specs.Books.{book_of}
use Rattle.register.specs.Tables.{trusted, final_of}
use Rattle.register.specs.Views.{signers_on}
use Rattle.register.specs.Chains.{length_of}
use Rattle.register.specs.Runs.{after_steps, answers}
use Rattle.packed_log.specs.Openings.{opening_in}
use Rattle.replay.specs.Bodies.{body_of, fault_of}
use Rattle.report.specs.Text.{step_line, office_line, step_bytes, office_bytes, log_line, empty_line}

-- a line for each answer: its place, counted on from the one given, 0 or the refusal, the value
unfoldable pub step_lines : (place : ℕ) → List Stepped → List ℕ
step_lines place [] = []
step_lines place (s ∷ ss) = step_line place s.refusal s.value ++ step_lines (place + 1) ss

-- the line of a trusted office: its number, its final block, the length of that block's chain, how many signed it in the office's view; nothing for any
-- other
unfoldable pub office_text : Register → (q : ℕ) → List ℕ
office_text r q =
    let book : Book = book_of r in
    let final : ℕ = final_of book q in
    choose (trusted book q) (office_line q final (length_of book final) (signers_on book q final)) []

-- a line for each trusted office with a number below q, ascending
unfoldable pub office_lines : Register → (q : ℕ) → List ℕ
office_lines r zero = []
office_lines r (suc q) = office_lines r q ++ office_text r q

-- the lines of some steps, whose places are counted on from the one given, and then those of the offices, whose numbers are below 32
unfoldable pub run_lines : Register → (place : ℕ) → List Step → List ℕ
run_lines r place steps = step_lines place (answers r steps) ++ office_lines (after_steps r steps) 32

-- the one line of a log that does not read: the word `empty` where it has no bytes, else the number that it is refused with
unfoldable pub fault_line : (log : List ℕ) → (fault : ℕ) → List ℕ
fault_line log fault = choose (eqb (length log) 0) empty_line (log_line fault)

-- the report: a log that does not read, as one of no bytes, gives one line alone
unfoldable pub report_of : (log : List ℕ) → List ℕ
report_of log = choose (eqb (fault_of log) 0) (run_lines (opening_in log).register 1 (body_of log).steps) (fault_line log (fault_of log))

-- a log of so many bytes has at most so many steps: the shortest takes four bits, and a log over 65,536 bytes does not read
abbrev pub most_steps : (size : ℕ) → ℕ
most_steps size = 2 * min size 65536

-- its report has no more bytes: there are at most 32 offices
abbrev pub report_bound : (size : ℕ) → ℕ
report_bound size = most_steps size * step_bytes + 32 * office_bytes

-- so no report is longer than that of the longest log may be
abbrev pub longest_report : ℕ
longest_report = report_bound 65536

-- the length that is returned: 0 where the report does not fit
unfoldable pub given_length : (log buffer : List ℕ) → ℕ
given_length log buffer = choose (leb (length (report_of log)) (length buffer)) (length (report_of log)) 0

-- the buffer after the call: the report, later bytes untouched; all zero where it does not fit
unfoldable pub buffer_after : (log buffer : List ℕ) → List ℕ
buffer_after log buffer =
    choose (leb (length (report_of log)) (length buffer)) (report_of log ++ drop (length (report_of log)) buffer) (replicate (length buffer) 0)
