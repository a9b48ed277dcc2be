use borrow.Author.Rules.{rules}
use Rattle.tables.proofs.Columns.{epoch_entry, block_entry}
use Rattle.register.proofs.fitness.blocks_fit.Goals as goal

pub returns : goal.returns
returns c = c.all_pass.ensures _ (λ i l t is. rw (block_entry, epoch_entry) (search rules))
