-- `leader_table`: after i turns the first i leaders are in the table.
use mathlib.Core.Path.{◌≡◌}
use mathlib.Core.List.{map}
use lib.ListN.{take}
use Rattle.register.specs.Books.{office}
use Rattle.register.specs.Opening.{leader_table}
use Rattle.register.proofs.opening.leader_table.Given as goal

abbrev pub invariant-loop-i : goal.invariant-loop-i
invariant-loop-i l = l.leaders ≡ map office (leader_table (take l.i l.schedule))
