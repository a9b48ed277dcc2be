-- `tables::chain::joined_rank`: no chain of rank 0 is joined; any other has the blocks passed.
use borrow.Author.Tests.{ne_eqb}
use Rattle.words.specs.Tests.{choose}
use Rattle.tables.proofs.chain.joined_rank.Goals as goal

pub returns-then-rank-eq0 : goal.returns-then-rank-eq0
unfolding choose
returns-then-rank-eq0 c = rw c.if-rank-eq0.true

pub returns : goal.returns
unfolding choose
returns c = rw (ne_eqb _ _ c.if-rank-eq0.false)
