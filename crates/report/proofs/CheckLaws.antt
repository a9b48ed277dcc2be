-- Laws of the whole check: what a log's report is, and the buffer that it was written into.
use Prim.Native.Nat.{ℕ, ◌≤◌}
use mathlib.Core.Path.{◌≡◌, refl, ◌∙◌}
use mathlib.Core.Bool.{Bool, true, false}
use mathlib.Core.List.{List, [], ◌∷◌, ◌++◌}
use native.Mathlib.Nat.{zero-add}
use native.Mathlib.Omega.{arith}
use borrow.Author.Tests.{eq-eqb, ne_eqb, leb-true, le-leb}
use lib.Dec.{leb}
use lib.ListN.{length, take, drop, replicate, length-append}
use lib.Seq.{take_at}
use Rattle.words.specs.Tests.{choose}
use Rattle.words.specs.Refusals.{first}
use Rattle.packed_log.specs.Openings.{opened_by, opening_in}
use Rattle.replay.specs.Bodies.{body_of, fault_of}
use Rattle.report.specs.Text.{TextWritten, log_line, empty_line}
use Rattle.report.specs.Reports.{run_lines, fault_line, report_of, given_length, buffer_after}
use Rattle.report.proofs.TextLaws.{same_size, sets_front}

-- a log that is refused has one line as its report
pub report_refused : (log : List ℕ) (fault : ℕ) → fault ≡ fault_of log → (fault ≡ 0 → ⊥) → report_of log ≡ fault_line log fault
unfolding report_of choose
report_refused log fault same bad = rw (← same, ne_eqb fault 0 bad)

-- that line has its number, where the log has bytes
pub line_some : (log : List ℕ) (fault : ℕ) → (length log ≡ 0 → ⊥) → fault_line log fault ≡ log_line fault
unfolding fault_line choose
line_some log fault some = rw (ne_eqb (length log) 0 some)

-- the opening of a log of no bytes is cut
pub opening_cut : (opening_in []).refusal ≡ 27
unfolding opening_in opened_by choose first
opening_cut = refl

-- so the log has a fault, and with no bytes the line `empty`
pub report_none : (log : List ℕ) → length log ≡ 0 → report_of log ≡ empty_line
unfolding report_of fault_line fault_of choose
report_none [] none = rw opening_cut
report_none (byte ∷ more) none = absurd (omega arith)

-- a log that is not refused has the lines of its steps and of the offices as its report
pub report_run : (log : List ℕ) → fault_of log ≡ 0 → report_of log ≡ run_lines (opening_in log).register 1 (body_of log).steps
unfolding report_of choose
report_run log none = rw (eq-eqb (fault_of log) 0 none)

module _ (log before after : List ℕ) (size : ℕ) (written : TextWritten before 0 (report_of log) size after) where
  -- the buffer holds the report, where it fits
  held : (fits : Bool) → leb (length (report_of log)) (length before) ≡ fits
      → choose fits after (replicate (length before) 0) ≡ choose fits (report_of log ++ drop (length (report_of log)) before) (replicate (length before) 0)
  unfolding choose
  held true fits = written.laid ∙ sets_front before (report_of log) (leb-true _ _ fits)
  held false fits = refl

  -- where the report was written, and kept or cleared, the length that is given and the buffer that is left are those of the report
  pub checked : (choose (leb size (length after)) size 0 ≡ given_length log before)
      × (choose (leb size (length after)) after (replicate (length after) 0) ≡ buffer_after log before)
      × (size ≡ length (report_of log))
  unfolding given_length buffer_after
  checked =
      let counted : size ≡ length (report_of log) = written.counted ∙ zero-add _ in
      rw (counted, same_size written) (refl, held (leb (length (report_of log)) (length before)) refl, refl)

-- a report that fits is what the buffer holds in front, as far as the length that is given
pub report_fits : (log buffer : List ℕ) → length (report_of log) ≤ length buffer
    → (take (given_length log buffer) (buffer_after log buffer) ≡ report_of log) × (given_length log buffer ≤ length (buffer_after log buffer))
unfolding given_length buffer_after choose
report_fits log buffer fits = rw (le-leb _ _ fits) (take_at (report_of log) _ _ refl, simp length-append (omega arith))
