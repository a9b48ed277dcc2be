use borrow.Author.Rules.{rules}
use Rattle.tables.proofs.Columns.{office_entry}
use Rattle.register.proofs.fitness.leaders_fit.Goals as goal

pub returns : goal.returns
returns c = c.all_pass.ensures _ (λ i l t is. rw office_entry (search rules))
