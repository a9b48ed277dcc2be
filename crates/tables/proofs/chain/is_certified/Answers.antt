-- `tables::chain::is_certified`: the two tests are those of the definition; the known set is enough.
use mathlib.Core.Path.{◌≡◌, ap}
use borrow.Author.Tests.{le-ltb, lt-ltb}
use lib.Dec.{ltb}
use Rattle.words.specs.Tests.{both}
use Rattle.quorum.specs.declared.SignerCount.{SignerCount}
use Rattle.tables.specs.Columns.{parents_of, epochs_of}
use Rattle.tables.specs.Blocks.{parent_in, epoch_in}
use Rattle.tables.specs.Searches.{certified_by, enough_in}
use Rattle.tables.proofs.chain.is_certified.Goals as goal
use Rattle.tables.proofs.chain.is_certified.Goals.{After-epoch-2}

-- the definition, by the epochs that were read
tests : (c : After-epoch-2) → let a = c.args in certified_by (parent_in (parents_of a.blocks.now) a.blocks.now.last.0) (epoch_in (epochs_of a.blocks.now) a.blocks.now.last.0) (λ _. enough_in a.set a.n) a.b.0 ≡ both (ltb c.epoch-2.result.0 c.epoch.result.0) (enough_in a.set a.n)
unfolding certified_by
tests c = rw (c.epoch-2.ensures, c.epoch.ensures, c.parent-parent.ensures)

pub returns-then-epoch : goal.returns-then-epoch
unfolding both
returns-then-epoch c = rw (tests (goal.at.returns-then-epoch c).After-epoch-2, le-ltb _ _ c.if-epoch.true)

pub returns-then-set-known : goal.returns-then-set-known
unfolding both
returns-then-set-known c =
    let same : c.args.set ≡ c.args.known = c.if-set-known.true in
    rw (tests (goal.at.returns-then-set-known c).After-epoch-2, lt-ltb _ _ c.if-epoch.false, same, c.requires)

pub returns : goal.returns
unfolding both
returns c =
    let enough = ap (λ (count : SignerCount). count.enough) c.count_signers.ensures in
    rw (tests (goal.at.returns c).After-epoch-2, lt-ltb _ _ c.if-epoch.false) enough
