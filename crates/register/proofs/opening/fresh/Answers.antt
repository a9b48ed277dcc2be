-- `fresh` is the blank register with the trust bits below n and the table of leaders.
use mathlib.Core.List.{map-map, map-id}
use Rattle.register.specs.Opening.{fresh_book, fresh}
use Rattle.register.proofs.opening.fresh.Goals as goal

pub returns : goal.returns
unfolding fresh fresh_book
returns c = rw (c.blank.ensures, c.leader_table.ensures, c.below.ensures) (simp (map-map, map-id))
