-- `slip::checking::is_link` makes both tests.
use borrow.Author.Tests.{le-ltb, lt-ltb}
use mathlib.Core.Path.{◌≡◌, ap}
use lib.Dec.{ltb}
use Rattle.words.specs.Tests.{both}
use Rattle.quorum.specs.declared.SignerCount.{SignerCount}
use Rattle.tables.specs.Blocks.{parent_in, epoch_in}
use Rattle.tables.specs.Columns.{parents_of, epochs_of}
use Rattle.slip.proofs.checking.is_link.Goals as goal
use Rattle.slip.proofs.checking.is_link.Goals.{After-epoch-2}

-- the test of the epochs, by those that were read
later : (c : After-epoch-2) → (let blocks = c.args.blocks.now in let last = blocks.last.0 in ltb (epoch_in (epochs_of blocks) last (parent_in (parents_of blocks) last c.args.b.0)) (epoch_in (epochs_of blocks) last c.args.b.0) ≡ ltb c.epoch-2.result.0 c.epoch.result.0)
later c = rw (c.epoch-2.ensures, c.epoch.ensures, c.parent-parent.ensures)

pub returns-then-epoch : goal.returns-then-epoch
unfolding both
returns-then-epoch c = rw (later (goal.at.returns-then-epoch c).After-epoch-2, le-ltb _ _ c.if-epoch.true)

pub returns : goal.returns
unfolding both
returns c =
    rw (later (goal.at.returns c).After-epoch-2, lt-ltb _ _ c.if-epoch.false) (ap (λ (count : SignerCount). count.enough) c.count_signers.ensures)
