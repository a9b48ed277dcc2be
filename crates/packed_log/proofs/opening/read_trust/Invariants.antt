-- `packed_log::opening::read_trust`: at each turn the word holds the trust bits of the offices below q.
use mathlib.Core.Path.{◌≡◌}
use Rattle.packed_log.specs.Openings.{trust_in}
use Rattle.packed_log.proofs.opening.read_trust.Given as goal

abbrev pub invariant-loop-q : goal.invariant-loop-q
invariant-loop-q l = l.trust ≡ trust_in l.log l.q
