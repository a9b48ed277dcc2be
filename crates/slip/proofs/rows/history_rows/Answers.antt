-- `slip::rows::history_rows` gathers the view of an office that has every message.
use Rattle.slip.specs.Rows.{everywhere}
use Rattle.slip.proofs.rows.history_rows.Goals as goal

pub returns : goal.returns
unfolding everywhere
returns c = c.rows_of.ensures
