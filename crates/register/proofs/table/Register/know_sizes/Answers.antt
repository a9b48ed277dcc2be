-- `Register::know_sizes`: the columns of the register's book are as long as the register's.
use lib.ListN.{length-map}
use Rattle.register.specs.Books.{book_of}
use Rattle.register.proofs.table.Register.know_sizes.Goals as goal

pub returns : goal.returns
unfolding book_of
returns c =
    record {
      parents = simp length-map c.know_sizes.ensures.0;
      epochs = simp length-map c.know_sizes.ensures.1;
      signers = simp length-map c.know_sizes-2.ensures.0;
      about = simp length-map c.know_sizes-2.ensures.1;
    }
