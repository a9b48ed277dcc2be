-- `report::checking::write_report`: the line of a log of no bytes, the line of one that is refused, or the lines of its steps and of the offices.
use mathlib.Core.Path.{sym, ◌∙◌}
use native.Mathlib.Omega.{arith}
use Rattle.replay.specs.Bodies.{body_of}
use Rattle.replay.proofs.BodyLaws.{same_fault}
use Rattle.report.proofs.CheckLaws.{report_none, report_refused, line_some, report_run}
use Rattle.report.proofs.checking.write_report.Goals as goal

pub returns-then-log-eq0 : goal.returns-then-log-eq0
returns-then-log-eq0 c =
    let line = c.write_empty_line.ensures in
    (rw (report_none c.args.log.now (omega arith)) line.0, omega (arith, line.1))

pub returns-then-fault-ne0 : goal.returns-then-fault-ne0
returns-then-fault-ne0 c =
    let line = c.write_log_line.ensures in
    let same = same_fault _ _ _ c.read_opening-opening.ensures c.fault_of-fault.ensures in
    (rw (report_refused _ _ same c.if-fault-ne0.true, line_some c.args.log.now _ (λ none. omega arith)) line.0, omega (arith, line.1))

pub returns : goal.returns
unfolding body_of
returns c =
    let opens = c.read_opening-opening.ensures in
    let lines = c.write_run.ensures in
    let same = same_fault _ _ _ opens c.fault_of-fault.ensures in
    (rw (report_run _ (sym same ∙ c.if-fault-ne0.false), ← opens) lines.0, lines.1)
