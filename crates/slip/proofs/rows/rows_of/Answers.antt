-- `slip::rows::rows_of` gathers the view with the signers counted from the last one.
use Rattle.slip.proofs.rows.rows_of.Goals as goal

pub returns : goal.returns
returns c = rw (← c.mirrored_all-mirror.ensures) c.view.ensures
