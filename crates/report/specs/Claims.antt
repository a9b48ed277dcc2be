-- What is claimed of reports: of that of a log that reads, of the line `empty`, and that none is empty.
use Rattle.std.specs.Prelude.{ℕ, ◌*◌, ◌≤◌, ◌<◌, ◌≡◌, List, [], length}
use Rattle.register.specs.Runs.{opened}
use Rattle.packed_log.specs.declared.item.Item.{Item}
use Rattle.packed_log.specs.Items.{read, item_at}
use Rattle.packed_log.specs.Openings.{opening_in}
use Rattle.replay.specs.Claims.{RunOf}
use Rattle.report.specs.Text.{empty_line}
use Rattle.report.specs.Reports.{run_lines, report_of}

-- The report of a log that reads is that of its run.
unfoldable pub RunsAreReported : Type 0
RunsAreReported = (log : List ℕ) (held : RunOf log) → report_of log ≡ run_lines (opened held.run) 1 held.run.steps

-- A log of no bytes gives the line `empty`, and no other log does. For those who read it item by item it is cut: its opening gets 27, and so does an item where
-- no bits are left, of this log and of any other that is not too long.
pub record NoLogYet : Type 0 where
  pub reported : report_of [] ≡ empty_line
  pub alone : (log : List ℕ) → report_of log ≡ empty_line → log ≡ []
  pub opening : (opening_in []).refusal ≡ 27
  pub item : (log : List ℕ) (p : ℕ) → length log ≤ 65536 → 8 * length log ≤ p → item_at log p ≡ read (Item.Refused 27) p

-- Every report has some byte, so that a length of 0 says that the report does not fit.
unfoldable pub NoReportIsEmpty : Type 0
NoReportIsEmpty = (log : List ℕ) → 0 < length (report_of log)
