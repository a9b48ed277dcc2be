-- `slip_timing_write`: a log that does not read, and a slip that is written or refused turn for turn.
use Prim.Native.Nat.{◌^◌, ◌<◌, ◌≤◌}
use mathlib.Core.Path.{◌≡◌}
use lib.ListN.{length}
use Rattle.register.specs.Books.{book_of}
use Rattle.slip.specs.Writing.{written, buffer_after}
use Rattle.skovarnek_slip.specs.Answers.{tells_written}
use Rattle.slip_timing.proofs.slip_timing_write.Given as goal

abbrev pub invariant-loop-turn : goal.invariant-loop-turn
invariant-loop-turn l =
    (l.last < 2 ^ 24) × (length l.slip ≡ length l.initial.slip) × (l._turn ≡ 0 → (l.last ≡ 0) × (l.slip ≡ l.initial.slip))
    × (0 < l._turn → l.times ≤ 2147483647 → (l.last ≡ tells_written (written (book_of l.register) l.office l.block l.initial.slip))
    × (l.slip ≡ buffer_after (book_of l.register) l.office l.block l.initial.slip))
