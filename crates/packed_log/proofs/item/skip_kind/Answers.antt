-- `packed_log::item::skip_kind`: makes the tests behind the kind; then gives the end or a step.
use mathlib.Core.Path.{◌≡◌, ◌∙◌}
use Rattle.words.specs.Refusals.{first}
use Rattle.packed_log.specs.Items.{item_tests}
use Rattle.packed_log.proofs.ItemLaws.{skipping, refused_by, ended_by, stepped_by}
use Rattle.packed_log.proofs.item.skip_kind.Goals as goal

pub returns-then-kind-ge-KINDS : goal.returns-then-kind-ge-KINDS
returns-then-kind-ge-KINDS c =
    let a = c.args in
    let unknown : 28 ≡ first (item_tests a.log.now a.at a.kind) = search skipping depth 12 in
    refused_by _ _ _ 28 c.requires.0 unknown tt

-- the end, by what skipping it gave
pub returns-then-kind-eq0 : goal.returns-then-kind-eq0
returns-then-kind-eq0 c =
    let pre = c.requires in
    c.skip_end.ensures ∙ ended_by _ _ _ pre.0 pre.1 pre.2 c.if-kind-eq0.true

-- a step whose fields are cut
pub returns-then-left_of-size : goal.returns-then-left_of-size
returns-then-left_of-size c =
    let a = c.args in
    let missing : 27 ≡ first (item_tests a.log.now a.at a.kind) = search skipping depth 12 in
    refused_by _ _ _ 27 c.requires.0 missing tt

-- a step, which nothing refuses
pub returns : goal.returns
returns c =
    let a = c.args in
    let none : 0 ≡ first (item_tests a.log.now a.at a.kind) = search skipping depth 12 in
    stepped_by _ _ _ _ c.requires.0 none c.if-kind-eq0.false c.due_of-size.ensures.0
