-- `Register::run_on`: after i turns what is held is the register, the answers and what is known after the first i steps.
use Rattle.register.specs.Books.{book_of}
use Rattle.register.proofs.Running.{Held}
use Rattle.register.proofs.table.Register.run_on.Given as goal

abbrev pub invariant-loop-i : goal.invariant-loop-i
invariant-loop-i l = Held l.initial.self l.steps l.i (book_of l.self) l.refusals l.values l.fits l.settled
