-- `tables::blocks::Blocks::has` compares the three parts of a header.
use mathlib.Core.Path.{◌∙◌}
use Rattle.words.proofs.Tests.{and_both}
use Rattle.tables.specs.Blocks.{matches_in}
use Rattle.tables.proofs.blocks.Blocks.has.Goals as goal

pub returns : goal.returns
unfolding matches_in
returns c = rw (← c.parent.ensures, ← c.epoch.ensures) (c.eq.ensures ∙ simp and_both)
