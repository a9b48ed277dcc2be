-- The claims of specs/Claims.
use Prim.Native.Nat.{ℕ, ◌*◌, ◌≤◌}
use mathlib.Core.Path.{◌≡◌, refl, ap, ◌∙◌}
use mathlib.Core.List.{List, [], ◌∷◌}
use native.Mathlib.Omega.{arith}
use borrow.Author.Tests.{lt-ltb, le-ltb}
use lib.ListN.{length, get_or}
use Rattle.words.specs.Tests.{choose}
use Rattle.words.specs.Refusals.{first}
use Rattle.packed_log.specs.declared.item.Item.{Item}
use Rattle.packed_log.specs.Items.{left, skipped_at, read, with_fields, item_at}
use Rattle.replay.specs.Claims.{case_of, ReadsHaveNoFault}
use Rattle.replay.proofs.Claims.{reads_have_no_fault}
use Rattle.report.specs.Text.{empty_line}
use Rattle.report.specs.Reports.{report_of}
use Rattle.report.specs.Claims.{RunsAreReported, NoLogYet}
use Rattle.report.proofs.CheckLaws.{opening_cut, report_none, report_run}
use Rattle.report.proofs.EmptyLaws.{other_report}

-- the report of a log that reads is that of its run
pub runs_are_reported : RunsAreReported
unfolding RunsAreReported ReadsHaveNoFault
runs_are_reported log held = report_run log (reads_have_no_fault log (case_of held.run) held.reads) ∙ rw (held.opens, held.steps)

-- no other log has it
empty_alone : (log : List ℕ) → report_of log ≡ empty_line → log ≡ []
unfolding empty_line
empty_alone [] same = refl
empty_alone (byte ∷ more) same = absurd ((other_report (byte ∷ more) (λ none. omega arith)).unlike (ap (λ (text : List ℕ). get_or text 0 0) same))

-- an item where no bits are left is cut
item_cut : (log : List ℕ) (p : ℕ) → length log ≤ 65536 → 8 * length log ≤ p → item_at log p ≡ read (Item.Refused 27) p
unfolding item_at with_fields skipped_at first choose
item_cut log p short past = rw (le-ltb 65536 (length log) short, lt-ltb (left log p) 4 (omega arith))

-- the claim of a log of no bytes, from these
pub no_log_yet : NoLogYet
no_log_yet = record { reported = report_none [] refl; alone = empty_alone; opening = opening_cut; item = item_cut }
