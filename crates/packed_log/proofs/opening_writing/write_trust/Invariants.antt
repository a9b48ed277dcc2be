-- `packed_log::opening_writing::write_trust`: at each turn the trust bits of the offices below q are laid.
use Rattle.packed_log.specs.Bits.{put}
use Rattle.packed_log.specs.Writing.{office_bits}
use mathlib.Core.Path.{◌≡◌}
use Rattle.packed_log.proofs.opening_writing.write_trust.Given as goal

abbrev pub invariant-loop-q : goal.invariant-loop-q
invariant-loop-q l = l.buf ≡ put l.initial.buf l.at (office_bits l.q l.trust)
