-- `blank` is the blank register by its definition.
use mathlib.Core.List.{map-map, map-id}
use Rattle.register.specs.Books.{kind_of, register_of}
use Rattle.register.specs.Opening.{blank}
use Rattle.register.proofs.opening.blank.Goals as goal

pub returns : goal.returns
unfolding blank register_of kind_of
returns c = simp (map-map, map-id)
