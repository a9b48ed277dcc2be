-- `packed_log::item::skip_item`: makes the tests of an item up to its kind, which tells the rest.
use mathlib.Core.Path.{◌≡◌}
use Rattle.std.proofs.lemmas.Result.{err_from_is_err_and}
use Rattle.packed_log.specs.Items.{refusal_at}
use Rattle.packed_log.proofs.ItemLaws.{skipping, refused_at}
use Rattle.packed_log.proofs.item.skip_item.Goals as goal

pub returns-then-log-gt-LONGEST : goal.returns-then-log-gt-LONGEST
returns-then-log-gt-LONGEST c =
    let long : 30 ≡ refusal_at c.args.log.now c.args.at = search skipping depth 12 in
    refused_at _ _ 30 long tt

pub returns-in_err-kind : goal.returns-in_err-kind
returns-in_err-kind c =
    let left = err_from_is_err_and c.from_residual.result c.from_residual.ensures.1 in
    let cut = c.in_err-kind.ensures in
    let missing : 27 ≡ refusal_at c.args.log.now c.args.at = search (skipping, cut) depth 12 in
    rw (left.1, left.2, cut.0) (refused_at _ _ 27 missing tt)
