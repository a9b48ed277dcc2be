-- `tables::chain::is_longest`: a chain of rank 0 is not longest; one whose rank is above the last block's number is; of any other the search tells.
use mathlib.Core.Path.{sym, ◌∙◌}
use mathlib.Core.Bool.{false}
use native.Mathlib.Omega.{arith}
use Rattle.tables.specs.Columns.{parents_of, epochs_of}
use Rattle.tables.proofs.Searching.{none_outranks, unranked_longest, ranked_longest}
use Rattle.tables.proofs.Walking.{passed_none}
use Rattle.tables.proofs.chain.is_longest.Goals as goal

pub first_climb-rank-requires : goal.first_climb-rank-requires
first_climb-rank-requires c = passed_none _ _ _ _ _ _

pub returns-then-rank-eq0 : goal.returns-then-rank-eq0
returns-then-rank-eq0 c =
    rw (← c.office_count.ensures)
    (unranked_longest _ _ _ _ _ _ (sym c.first_climb-rank.ensures.0 ∙ c.if-rank-eq0.true))

pub returns-then-rank-blocks : goal.returns-then-rank-blocks
returns-then-rank-blocks c =
    let a = c.args in
    let few = c.office_count.result in
    rw (← c.office_count.ensures)
    (ranked_longest a.view.now (parents_of a.blocks.now) (epochs_of a.blocks.now) a.blocks.now.last.0 few a.b.0 c.first_climb-rank.result false
    c.first_climb-rank.ensures.0 (omega arith)
    (none_outranks _ _ _ _ few c.first_climb-rank.result c.if-rank-blocks.true))

pub returns : goal.returns
returns c =
    let a = c.args in
    rw (← c.office_count.ensures)
    (ranked_longest a.view.now (parents_of a.blocks.now) (epochs_of a.blocks.now) _ _ _ c.first_climb-rank.result _
    c.first_climb-rank.ensures.0 (omega arith) c.is_outranked.ensures)
