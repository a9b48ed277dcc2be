-- `slip::rows::mirrored_all`: the offices in front are turned into their places.
use mathlib.Core.Path.{◌≡◌}
use mathlib.Core.List.{map, ◌++◌}
use lib.ListN.{take, drop}
use Rattle.register.specs.Types.{Office}
use Rattle.register.specs.Books.{office}
use Rattle.slip.specs.Rows.{mirror}
use Rattle.slip.proofs.rows.mirrored_all.Given as goal

abbrev pub invariant-loop-place : goal.invariant-loop-place
invariant-loop-place l =
    l.place-items ≡ map (λ (o : Office). office (mirror l.n o.0)) (take l.place-index l.fn.offices) ++ drop l.place-index l.fn.offices
