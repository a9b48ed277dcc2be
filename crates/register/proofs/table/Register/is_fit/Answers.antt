-- `Register::is_fit`: a count out of its range decides alone; else the tables decide.
use mathlib.Core.Path.{sym, ◌∙◌}
use Rattle.words.specs.Tests.{both, conj}
use Rattle.register.specs.Books.{book_of}
use Rattle.register.specs.Fitness.{fit}
use Rattle.register.proofs.Ranges.{counted}
use Rattle.register.proofs.table.Register.is_fit.Goals as goal

pub tables_fit-requires : goal.tables_fit-requires
unfolding book_of
tables_fit-requires c = counted _ (sym c.counts_fit.ensures ∙ c.if-counts_fit.true)

pub returns-then-counts_fit : goal.returns-then-counts_fit
unfolding fit conj both
returns-then-counts_fit c = rw (sym c.counts_fit.ensures ∙ c.if-counts_fit.true) c.tables_fit.ensures

pub returns-else-counts_fit : goal.returns-else-counts_fit
unfolding fit conj both
returns-else-counts_fit c = rw (sym c.counts_fit.ensures ∙ c.if-counts_fit.false) c.if-counts_fit.false
