-- `packed_log::opening::read_front`: makes the tests up to the schedule's length in their order, by n and the length that were read.
use mathlib.Core.Path.{◌≡◌, sym}
use native.Mathlib.Omega.{arith}
use Prim.Native.Nat.{◌+◌, ◌<◌, ◌≤◌}
use Rattle.std.proofs.lemmas.Result.{err_from_is_err_and}
use Rattle.packed_log.specs.Items.{left}
use Rattle.packed_log.specs.Openings.{front_refusal}
use Rattle.packed_log.proofs.Judging.{judging}
use Rattle.packed_log.proofs.opening.read_front.Goals as goal

pub returns-then-log-gt-LONGEST : goal.returns-then-log-gt-LONGEST
returns-then-log-gt-LONGEST c = search judging depth 12

pub returns-in_err-n : goal.returns-in_err-n
returns-in_err-n c =
    let left = err_from_is_err_and c.from_residual.result c.from_residual.ensures.1 in
    let cut = c.in_err-n.ensures in
    rw (left.1, left.2, cut.0) (search (judging, cut) depth 12)

pub returns-then-not-between : goal.returns-then-not-between
returns-then-not-between c =
    let n = c.in_ok-n.ensures in
    let there : 6 ≤ left c.args.log.now 0 = omega (arith, n.2) in
    rw (← n.0) (search judging depth 12)

pub returns-in_err-epochs : goal.returns-in_err-epochs
returns-in_err-epochs c =
    let left_by = err_from_is_err_and c.from_residual-in_err-epochs.result c.from_residual-in_err-epochs.ensures.1 in
    let n = c.in_ok-n.ensures in
    let cut = c.in_err-epochs.ensures in
    let there : 6 ≤ left c.args.log.now 0 = omega (arith, n.2) in
    let missing : left c.args.log.now 6 < c.in_ok-n.field-0 + 9 = omega (arith, cut.1) in
    rw (left_by.1, left_by.2, cut.0, ← n.0) (search judging depth 12)

pub returns-then-not-between-2 : goal.returns-then-not-between-2
returns-then-not-between-2 c =
    let n = c.in_ok-n.ensures in
    let epochs = c.in_ok-epochs.ensures in
    let there : 6 ≤ left c.args.log.now 0 = omega (arith, n.2) in
    let behind : c.in_ok-n.field-0 + 9 ≤ left c.args.log.now 6 = omega (arith, epochs.2) in
    rw (← n.0, ← epochs.0) (search judging depth 12)

pub returns : goal.returns
returns c =
    let n = c.in_ok-n.ensures in
    let epochs = c.in_ok-epochs.ensures in
    let there : 6 ≤ left c.args.log.now 0 = omega (arith, n.2) in
    let behind : c.in_ok-n.field-0 + 9 ≤ left c.args.log.now 6 = omega (arith, epochs.2) in
    let none : 0 ≡ front_refusal c.args.log.now = rw (← n.0, ← epochs.0) (search judging depth 12) in
    (rw (← n.0, ← epochs.0), sym none)
