-- `tables::blocks::Blocks::may_have` looks at the chunk where one starts at b.
use borrow.Author.Tests.{eq-eqb, ne_eqb}
use borrow.Author.Rules.{rules}
use Rattle.words.specs.Tests.{either}
use Rattle.words.proofs.Tests.{and_both}
use Rattle.tables.proofs.Columns.{epoch_entry}
use Rattle.tables.proofs.blocks.Blocks.may_have.Goals as goal

pub returns-then-b-ne0 : goal.returns-then-b-ne0
unfolding either
returns-then-b-ne0 c = rw (ne_eqb _ _ c.if-b-ne0.true)

pub returns : goal.returns
unfolding either
returns c = rw (eq-eqb _ _ c.if-b-ne0.false) (c.some_pass.ensures _ (λ i l t is. rw (epoch_entry, ← and_both) (search rules)))
