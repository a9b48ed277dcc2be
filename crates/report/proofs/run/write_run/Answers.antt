use Prim.Native.Nat.{◌+◌, ◌≤◌}
use native.Mathlib.Omega.{arith}
use lib.ListN.{length}
use Rattle.register.specs.Limits.{batch}
use Rattle.replay.proofs.BodyLaws.{body_few}
use Rattle.replay.proofs.PartLaws.{part_count, part_rest, part_fewer, part_ran}
use Rattle.report.specs.Reports.{most_steps}
use Rattle.report.proofs.RunText.{run_begins, run_goes_on, run_ends}
use Rattle.report.proofs.run.write_run.Goals as goal
use Rattle.report.proofs.run.write_run.Goals.{After-read_part-part}

-- a part has at most as many steps as a batch, and no more than are left
counts : (c : After-read_part-part) → (c.read_part-part.result.count ≤ batch) × (c.loop-part.place + c.read_part-part.result.count ≤ 131073)
counts c =
    let count : _ = part_count _ _ _ c.read_part-part.ensures in
    (omega (arith, count), omega (arith, count, c.loop-part.invariant.few))

pub loop-part-init : goal.loop-part-init
loop-part-init c =
    let log = c.args.log.now in
    run_begins (most_steps (length log)) _ _ _ (omega (arith, body_few log c.args.from))

pub write_batch-next-requires : goal.write_batch-next-requires
write_batch-next-requires c =
    let few = counts (goal.at.write_batch-next-requires c).After-read_part-part in
    (few.0, few.1, omega arith)

pub overflow_add-place : goal.overflow_add-place
overflow_add-place c = omega (arith, (counts (goal.at.overflow_add-place c).After-read_part-part).1)

pub loop-part-smaller : goal.loop-part-smaller
loop-part-smaller c = part_fewer _ _ _ c.read_part-part.ensures c.if-count-eq0.false

pub loop-part-preserved : goal.loop-part-preserved
loop-part-preserved c =
    let turn = c.loop-part in
    let read = c.read_part-part.ensures in
    let lines = c.write_batch-next.ensures in
    let runs = part_ran _ turn.at _ read turn.register _ c.run_on-answers.ensures in
    rw (part_rest _ turn.at _ read)
    (run_goes_on turn.register turn.place _ _ _ (omega (arith, part_count _ turn.at _ read)) runs turn.invariant lines.0 lines.1)

pub returns : goal.returns
returns c =
    let so_far = c.loop-part.invariant in
    let lines = c.write_offices.ensures in
    (run_ends _ so_far (omega (arith, part_count _ _ _ c.read_part-part.ensures)) lines.0, omega (arith, lines.1, so_far.short, so_far.few))
