-- `replay::ending::run_log`: a log that does not read, and one that does.
use Rattle.replay.proofs.EndLaws.{end_refused, end_reached}
use Rattle.replay.proofs.ending.run_log.Goals as goal

pub returns-then-refusal-ne0 : goal.returns-then-refusal-ne0
returns-then-refusal-ne0 c =
    end_refused _ _ _ c.read_opening-opening.ensures c.fault_of-refusal.ensures _ c.if-refusal-ne0.true c.closed.ensures

pub returns : goal.returns
returns c =
    end_reached _ _ _ c.read_opening-opening.ensures c.fault_of-refusal.ensures _ c.if-refusal-ne0.false c.run_from.ensures
