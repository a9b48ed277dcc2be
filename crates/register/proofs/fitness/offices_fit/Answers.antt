use borrow.Author.Rules.{rules}
use borrow.Author.Tests.{lt-ltb}
use Rattle.words.specs.Tests.{both}
use Rattle.words.proofs.Tests.{or_either}
use Rattle.tables.specs.Blocks.{trusted_in}
use Rattle.register.proofs.fitness.offices_fit.Goals as goal

pub returns : goal.returns
unfolding trusted_in both
returns c = c.all_pass.ensures _ (λ i l t is. rw (lt-ltb _ _ l, ← or_either) (search rules))
