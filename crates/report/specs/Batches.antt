-- The lines of a batch of steps that has been run; contracts inside the crate alone speak of them.
use Rattle.std.specs.Prelude.{ℕ, zero, suc, ◌+◌, List, [], ◌++◌, get_or}
use Rattle.report.specs.Text.{step_line}

-- the lines of the first `count` answers of a batch, whose places are counted on from the one given
unfoldable pub batch_lines : (place : ℕ) → (refusals values : List ℕ) → (count : ℕ) → List ℕ
batch_lines place refusals values zero = []
batch_lines place refusals values (suc i) = batch_lines place refusals values i ++ step_line (place + i) (get_or refusals i 0) (get_or values i 0)
