-- `Register::book`: six columns are turned, entry by entry, and the rest stays.
use borrow.Author.Rules.{rules}
use Rattle.register.specs.Types.{Kind}
use Rattle.register.specs.Books.{office, epoch, block, office_number, epoch_number, block_number, is_vote, book_of}
use Rattle.register.proofs.Turning.{turned, vote_test}
use Rattle.register.proofs.table.Register.book.Goals as goal

pub returns : goal.returns
unfolding book_of
returns c = (
  rw (
    turned office_number (office 0) (search rules) c.map.ensures.items (λ p x y q is. search rules),
    turned block_number (block 0) (search rules) c.map-2.ensures.items (λ p x y q is. search rules),
    turned epoch_number (epoch 0) (search rules) c.map-3.ensures.items (λ p x y q is. search rules),
    turned is_vote Kind.Proposal (search rules) c.map-4.ensures.items (λ p x y q is. rw (vote_test x) (search rules)),
    turned office_number (office 0) (search rules) c.map-5.ensures.items (λ p x y q is. search rules),
    turned block_number (block 0) (search rules) c.map-6.ensures.items (λ p x y q is. search rules),
  ),
  record {
    parents = c.map-2.ensures.items.long;
    epochs = c.map-3.ensures.items.long;
    signers = c.map-5.ensures.items.long;
    about = c.map-6.ensures.items.long;
  },
)
