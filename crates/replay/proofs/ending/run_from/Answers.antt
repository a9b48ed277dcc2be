use mathlib.Core.Path.{sym, ◌∙◌}
use native.Mathlib.Omega.{arith}
use Rattle.replay.proofs.PartLaws.{part_count, part_rest, part_fewer, part_ran}
use Rattle.replay.proofs.EndLaws.{run_on, run_over}
use Rattle.replay.proofs.ending.run_from.Goals as goal

pub loop-part-smaller : goal.loop-part-smaller
loop-part-smaller c = part_fewer _ _ _ c.read_part-part.ensures c.if-count-eq0.false

pub loop-part-preserved : goal.loop-part-preserved
loop-part-preserved c =
    let turn = c.loop-part in
    let read = c.read_part-part.ensures in
    let runs = part_ran _ turn.at _ read turn.current _ c.run_on.ensures in
    rw (part_rest _ turn.at _ read) (run_on turn.current c.read_part-part.result.count _ _ runs ∙ turn.invariant)

pub returns : goal.returns
returns c =
    let turn = c.loop-part in
    sym (run_over turn.current _ (omega (arith, part_count _ _ _ c.read_part-part.ensures))) ∙ turn.invariant
